-- The records scanned are those of the blocks covered.
use mathlib.Core.Path.{◌∙◌}
use Prim.Native.Nat.{ℕ}
use native.Mathlib.Omega.{arith}
use Rattle.words.specs.Bounded.{neqb}
use Rattle.rules.specs.Store.{type_word}
use Rattle.validation.proofs.Covers.{scan_covered}
use Rattle.validation.proofs.cover.cover_differs.Goals as goal

pub record_of-b-requires : goal.record_of-b-requires
record_of-b-requires c = rw c.cover_first.ensures (omega (arith, c.requires.1), c.requires.0)

pub returns : goal.returns
returns c = (rw (c.record_of-b.ensures.is, c.cover_first.ensures, c.cover_blocks.ensures) at c.some_differs.ensures)
    ∙ scan_covered _ type_word _ (λ (x : ℕ). neqb x c.args.t) c.requires
