-- The word is compared with the mark.
use mathlib.Core.Path.{refl}
use Rattle.ledger.proofs.marks.is_marked.Goals as goal

pub returns : goal.returns
returns c = rw c.get.ensures refl
