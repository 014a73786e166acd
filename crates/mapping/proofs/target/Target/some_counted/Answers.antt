-- The records scanned are those of the target.
use mathlib.Core.Path.{◌∙◌}
use Prim.Native.Nat.{ℕ}
use native.Mathlib.Omega.{arith}
use Rattle.words.specs.Bounded.{above}
use Rattle.rules.specs.Store.{record_word}
use Rattle.rules.proofs.State.{fits_stored, within}
use Rattle.ledger.specs.Layout.{field_word}
use Rattle.ledger.proofs.Blocks.{some_block_records}
use Rattle.mapping.proofs.target.Target.some_counted.Goals as goal

pub record_of-b-requires : goal.record_of-b-requires
record_of-b-requires c = (within _ _ _ _ c.args.self.now.in_region.inside).0

pub some_above_zero-requires : goal.some_above_zero-requires
some_above_zero-requires c = let t = c.args.self.now.in_region in let fit = fits_stored _ t.fits in let (lo, hi) = within _ _ _ _ t.inside in let b = c.record_of-b.ensures in omega arith

pub returns : goal.returns
returns c = let s = c.args.self.now in
    rw c.record_of-b.ensures.is at c.some_above_zero.ensures ∙ some_block_records _ s.first s.blocks (λ (x : ℕ). above (record_word s.region.ledger.now (field_word c.args.field) x) 0) (within _ _ _ _ s.in_region.inside).0
