-- Laws of bounded sums and counts: a sum is determined by its terms, can be cut, and a change in a window changes it by the window's difference.
use mathlib.Core.Path.{◌≡◌, refl, sym, ◌∙◌, ap₂}
use mathlib.Core.Bool.{Bool, true, false}
use mathlib.Core.Logic.{⊎_elim}
use Prim.Native.Nat.{ℕ, zero, suc, ◌+◌, ◌-◌, ◌<◌, ◌≤◌}
use native.Mathlib.Nat.{add-zero, add-suc}
use native.Mathlib.Omega.{arith}
use borrow.Author.Tests.{lt-ltb, le-ltb}
use Rattle.words.specs.Bounded.{above, any, sum, num, count}
use Rattle.words.proofs.Bounded.{last_or_below, any_none, any_found}

-- Sums

pub sum_same : (f g : ℕ → ℕ) (n : ℕ) → ((i : ℕ) → i < n → f i ≡ g i) → sum n f ≡ sum n g
unfolding sum
sum_same f g zero h = refl
sum_same f g (suc n) h = ap₂ ◌+◌ (sum_same f g n (λ i l. h i (omega arith))) (h n (omega arith))

module _ (f : ℕ → ℕ) where
  pub sum_cut : (m k : ℕ) → sum (m + k) f ≡ sum m f + sum k (λ i. f (m + i))
  unfolding sum
  sum_cut m zero = rw (add-zero m, add-zero (sum m f)) refl
  sum_cut m (suc k) = rw (add-suc, sum_cut m k) (omega arith)

  sum_least : (n i : ℕ) → i < n → f i ≤ sum n f
  unfolding sum
  sum_least zero i h = let z : ⊥ = omega arith in absurd z
  sum_least (suc n) i h = ⊎_elim (λ (e : i ≡ n). rw e (omega arith)) (λ (l : i < n). omega (arith, sum_least n i l)) (last_or_below h)

  sum-most : (n : ℕ) → ((i : ℕ) → i < n → f i ≤ 1) → sum n f ≤ n
  unfolding sum
  sum-most zero h = omega arith
  sum-most (suc n) h = omega (arith, sum-most n (λ i l. h i (omega arith)), h n (omega arith))

-- two sums whose terms differ only in the window of m terms from a on differ by the window's sums
pub sum_window : (f g : ℕ → ℕ) (n a m : ℕ) → a + m ≤ n → ((i : ℕ) → i < n → (a ≤ i → a + m ≤ i) → f i ≡ g i)
    → sum n f + sum m (λ i. g (a + i)) ≡ sum n g + sum m (λ i. f (a + i))
sum_window f g n a m h same = let e : n ≡ a + m + (n - (a + m)) = omega arith in rw e (rw (sum_cut f (a + m) rest, sum_cut g (a + m) rest, sum_cut f a m, sum_cut g a m) sums) where
  rest : ℕ
  rest = n - (a + m)

  sums : sum a f + sum m (λ i. f (a + i)) + sum rest (λ i. f (a + m + i)) + sum m (λ i. g (a + i))
      ≡ sum a g + sum m (λ i. g (a + i)) + sum rest (λ i. g (a + m + i)) + sum m (λ i. f (a + i))
  sums =
      let low = sum_same f g a (λ i l. same i (omega arith) (omega arith)) in
      let high = sum_same (λ i. f (a + m + i)) (λ i. g (a + m + i)) rest (λ i l. same (a + m + i) (omega arith) (omega arith)) in
      omega arith

-- Counts

num-most : (t : Bool) → num t ≤ 1
unfolding num
num-most true = omega arith
num-most false = omega arith

module _ (p : ℕ → Bool) (n : ℕ) where
  pub count_most : count n p ≤ n
  count_most = sum-most (λ i. num (p i)) n (λ i l. num-most (p i))

  pub count_hit : (i : ℕ) → i < n → p i ≡ true → 0 < count n p
  unfolding num
  count_hit i h e = let one : num (p i) ≡ 1 = rw e refl in omega (arith, sum_least (λ j. num (p j)) n i h)

pub count_none : (p : ℕ → Bool) (n : ℕ) → ((i : ℕ) → i < n → p i ≡ false) → count n p ≡ 0
unfolding sum num
count_none p zero h = refl
count_none p (suc n) h = rw (count_none p n (λ i l. h i (omega arith)), h n (omega arith)) refl

-- some number is counted exactly if there is one
pub count-any : (p : ℕ → Bool) (n : ℕ) → above (count n p) 0 ≡ any n p
count-any p n = go (any n p) refl where
  go : (t : Bool) → any n p ≡ t → above (count n p) 0 ≡ any n p
  go true e = let (i, l, h) = any_found p n e in lt-ltb 0 (count n p) (count_hit p n i l h) ∙ sym e
  go false e = let none = count_none p n (any_none p n e) in le-ltb 0 (count n p) (omega arith) ∙ sym e
