-- The records scanned are those of the blocks covered.
use mathlib.Core.Path.{◌∙◌}
use Prim.Native.Nat.{ℕ}
use native.Mathlib.Omega.{arith}
use Rattle.words.specs.Bounded.{above}
use Rattle.validation.proofs.Covers.{scan_covered}
use Rattle.validation.proofs.cover.cover_counts.Goals as goal

pub record_of-b-requires : goal.record_of-b-requires
record_of-b-requires c = rw c.cover_first.ensures (omega (arith, c.requires.1), c.requires.0)

pub returns : goal.returns
returns c = (rw (c.record_of-b.ensures.is, c.cover_first.ensures, c.cover_blocks.ensures, c.field.ensures) at c.some_above_zero.ensures)
    ∙ scan_covered _ _ _ (λ (x : ℕ). above x 0) c.requires
