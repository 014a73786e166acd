-- Laws of packed tables: numbers below 16 are read back.
use mathlib.Core.Path.{◌≡◌, ◌∙◌, ap}
use Prim.Native.Nat.{ℕ, zero, suc, ◌+◌, ◌*◌, ◌/◌, ◌%◌, ◌<◌}
use native.Mathlib.Omega.{arith}
use Rattle.words.specs.Lists.{tabulate}
use Rattle.words.specs.Words.{bits}
use Rattle.words.proofs.Lists.{get_or-tabulate}
use Rattle.entries.specs.Needs.{packed_at}

-- byte i of the packed table of f
unfoldable pub pair_of : (ℕ → ℕ) → ℕ → ℕ
pair_of f i = f (2 * i) + 16 * f (2 * i + 1)

-- where the numbers of f fit half a byte, each half has its own, and the packed table gives f
module _ (f : ℕ → ℕ) (fits : (i : ℕ) → f i < 16) where
  bits_pair_of : (i k : ℕ) → k < 2 → bits (pair_of f i) (4 * k) 4 ≡ f (2 * i + k)
  unfolding pair_of
  bits_pair_of i zero h =
      let low = fits (2 * i) in
      let here : bits (pair_of f i) 0 4 ≡ f (2 * i) = omega arith in
      here ∙ ap f (omega arith)
  bits_pair_of i (suc zero) h =
      let low = fits (2 * i) in
      let high = fits (2 * i + 1) in
      omega arith
  bits_pair_of i (suc (suc k)) h = let z : ⊥ = omega arith in absurd z

  pub packed_at-tabulate : (n i : ℕ) → i < 2 * n → packed_at (tabulate (pair_of f) n) i ≡ f i
  unfolding packed_at
  packed_at-tabulate n i h =
      rw (get_or-tabulate (pair_of f) n (i / 2) (omega arith)) (bits_pair_of (i / 2) (i % 2) (omega arith) ∙ ap f (omega arith))
