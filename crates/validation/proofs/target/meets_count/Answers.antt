-- Write onto execute, then execute onto write.
use Rattle.words.proofs.Bounded.{told}
use Rattle.validation.specs.Tests.{meets_count}
use Rattle.validation.proofs.target.meets_count.Goals as goal

pub returns-then-meets : goal.returns-then-meets
unfolding meets_count
returns-then-meets c = rw (told c.meets.ensures c.if-meets.true)

pub returns : goal.returns
unfolding meets_count
returns c = rw (told c.meets.ensures c.if-meets.false) c.meets-2.ensures
