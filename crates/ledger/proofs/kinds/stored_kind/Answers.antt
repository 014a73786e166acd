-- The two bytes are the kind's.
use mathlib.Core.Path.{◌∙◌}
use native.Mathlib.Omega.{arith}
use Rattle.ledger.proofs.MemoryKinds.{kind_stored}
use Rattle.ledger.proofs.kinds.stored_kind.Goals as goal

pub returns : goal.returns
returns c = c.half.ensures ∙ kind_stored _ _ (omega arith)
