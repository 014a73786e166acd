-- Laws of the region's blocks, by their physical numbers and by their places in the ledger.
use mathlib.Core.Bool.{Bool}
use mathlib.Core.Path.{◌≡◌, ap}
use Prim.Native.Nat.{ℕ, ◌+◌, ◌-◌, ◌≤◌}
use native.Mathlib.Omega.{arith}
use Rattle.words.specs.Bounded.{any}
use Rattle.words.proofs.Bounded.{any_same}
use Rattle.rules.specs.Store.{some_block}

-- a scan of records is a scan of the physical blocks that they stand for
pub some_block_records : (B p m : ℕ) (q : ℕ → Bool) → B ≤ p → any m (λ i. q (p - B + i)) ≡ some_block p m (λ b. q (b - B))
unfolding some_block
some_block_records B p m q h = any_same _ _ m (λ i l. ap q (omega arith))
