-- What the entry doesn't grant meets nothing; else the blocks that it covers are tested.
use Rattle.words.proofs.Bounded.{told}
use Rattle.validation.specs.Tests.{meets}
use Rattle.validation.proofs.target.meets.Goals as goal

pub returns-then-grants : goal.returns-then-grants
unfolding meets
returns-then-grants c = rw (told c.grants.ensures c.if-grants.true) c.cover_counts.ensures

pub returns : goal.returns
unfolding meets
returns c = rw (told c.grants.ensures c.if-grants.false)
