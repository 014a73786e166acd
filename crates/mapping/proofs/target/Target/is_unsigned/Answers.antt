-- The blocks looked at are those of the target.
use Rattle.words.proofs.Bounded.{told}
use Rattle.rules.specs.Map.{unsigned_target}
use Rattle.mapping.proofs.target.Target.is_unsigned.Goals as goal

pub returns-then-not-allows : goal.returns-then-not-allows
unfolding unsigned_target
returns-then-not-allows c = rw (told c.allows.ensures c.if-not-allows.true)

pub returns : goal.returns
unfolding unsigned_target
returns c = rw (told c.allows.ensures c.if-not-allows.false) c.some_unknown.ensures
