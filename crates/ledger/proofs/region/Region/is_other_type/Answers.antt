-- The records scanned are those of the table's blocks.
use mathlib.Core.Path.{◌∙◌}
use Prim.Native.Nat.{ℕ}
use native.Mathlib.Omega.{arith}
use Rattle.words.specs.Bounded.{neqb}
use Rattle.rules.specs.Store.{record_word, type_word}
use Rattle.rules.proofs.State.{fits_stored, within}
use Rattle.ledger.proofs.Blocks.{some_block_records}
use Rattle.ledger.proofs.region.Region.is_other_type.Goals as goal

pub record_of-b-requires : goal.record_of-b-requires
record_of-b-requires c = (within _ _ _ _ c.requires).0

pub some_differs-requires : goal.some_differs-requires
some_differs-requires c = let fit = fits_stored _ c.args.self.now.fits in
    let (lo, hi) = within _ _ _ _ c.requires in
    let b = c.record_of-b.ensures in
    omega arith

pub returns : goal.returns
returns c = let a = c.args in
    (rw (c.record_of-b.ensures.is, c.table_blocks.ensures.0) at c.some_differs.ensures)
    ∙ some_block_records _ a.block _ (λ (x : ℕ). neqb (record_word a.self.now.ledger.now type_word x) a.t) (within _ _ _ _ c.requires).0
