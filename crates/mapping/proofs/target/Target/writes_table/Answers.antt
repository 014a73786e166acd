-- The records scanned are those of the target.
use mathlib.Core.Path.{◌∙◌}
use Prim.Native.Nat.{ℕ}
use native.Mathlib.Omega.{arith}
use Rattle.words.specs.Bounded.{neqb}
use Rattle.words.proofs.Bounded.{told}
use Rattle.rules.specs.Store.{record_word, type_word}
use Rattle.rules.specs.Tables.{type_d}
use Rattle.rules.proofs.State.{fits_stored, within}
use Rattle.ledger.proofs.Blocks.{some_block_records}
use Rattle.mapping.proofs.target.Target.writes_table.Goals as goal

pub record_of-b-requires : goal.record_of-b-requires
record_of-b-requires c = (within _ _ _ _ c.args.self.now.in_region.inside).0

pub some_differs-requires : goal.some_differs-requires
some_differs-requires c = let t = c.args.self.now.in_region in let fit = fits_stored _ t.fits in let (lo, hi) = within _ _ _ _ t.inside in let b = c.record_of-b.ensures in omega arith

pub returns : goal.returns
returns c = let s = c.args.self.now in
    rw (told c.allows.ensures c.if-not-allows.false)
    (rw (c.record_of-b.ensures.is, c.code.ensures) at c.some_differs.ensures ∙ some_block_records _ s.first s.blocks (λ (x : ℕ). neqb (record_word s.region.ledger.now type_word x) type_d) (within _ _ _ _ s.in_region.inside).0)
