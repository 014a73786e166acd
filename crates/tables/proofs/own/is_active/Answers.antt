-- The active word is the block's number.
use Rattle.rules.specs.Free.{in_use}
use Rattle.tables.proofs.own.is_active.Goals as goal

pub returns : goal.returns
unfolding in_use
returns c = rw c.active.ensures
