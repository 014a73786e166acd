-- Laws of decimal numbers: reading one gives the number back, its characters are digits, and only 0 starts with 0. Each is an induction over v / 10.
use mathlib.Core.Path.{◌≡◌, refl, ap, ◌∙◌}
use mathlib.Core.List.Memᴰ
use mathlib.Core.List.{List, [], ◌∷◌, ◌++◌, Memᴰ}
use mathlib.Core.Logic.{⊎_elim}
use Prim.Native.Nat.{ℕ, zero, suc, ◌+◌, ◌*◌, ◌-◌, ◌/◌, ◌%◌, ◌^◌, ◌<◌, ◌≤◌}
use native.Mathlib.Nat.{div-lt_iff_lt-mul, pow-suc}
use native.Mathlib.Omega.{arith}
use lib.ListN.{length, get_or, length-append, get_or-append}
use borrow.Author.Tests.{lt-ltb, le-ltb}
use Rattle.words.proofs.Bounded.{below_or_above}
use Rattle.lines.specs.Decimal.{digit, digits, decimal}

-- The equations of `decimal`

digits_same : (n m v : ℕ) → v < n → v < m → digits n v ≡ digits m v
unfolding digits
digits_same zero m v h k = let z : ⊥ = omega arith in absurd z
digits_same (suc n) zero v h k = let z : ⊥ = omega arith in absurd z
digits_same (suc n) (suc m) v h k =
    ⊎_elim (λ (l : v < 10). rw (lt-ltb v 10 l) refl)
    (λ (l : 10 ≤ v). rw (le-ltb v 10 l, digits_same n m (v / 10) (omega arith) (omega arith)) refl)
    (below_or_above v 10)

pub decimal_one : (v : ℕ) → v < 10 → decimal v ≡ digit (v % 10) ∷ []
unfolding decimal digits
decimal_one v h = rw (lt-ltb v 10 h) refl

pub decimal_more : (v : ℕ) → 10 ≤ v → decimal v ≡ decimal (v / 10) ++ (digit (v % 10) ∷ [])
unfolding decimal digits
decimal_more v h = rw (le-ltb v 10 h, digits_same v (suc (v / 10)) (v / 10) (omega arith) (omega arith)) refl

pub length-decimal_more : (v : ℕ) → 10 ≤ v → length (decimal v) ≡ length (decimal (v / 10)) + 1
length-decimal_more v h = ap length (decimal_more v h) ∙ simp length-append

-- what holds of one digit, and of v if it holds of v / 10, holds of every number
decimal_induction : (P : ℕ → Type 0) → ((v : ℕ) → v < 10 → P v) → ((v : ℕ) → 10 ≤ v → P (v / 10) → P v) → (v : ℕ) → P v
decimal_induction P one more v = below (suc v) v (omega arith) where
  below : (n v : ℕ) → v < n → P v
  below zero v h = let z : ⊥ = omega arith in absurd z
  below (suc n) v h = ⊎_elim (one v) (λ l. more v l (below n (v / 10) (omega arith))) (below_or_above v 10)

-- What a reader takes `decimal` for

-- the number that a text of digits says, read from the left after a text that says n
unfoldable pub value_after : ℕ → List ℕ → ℕ
value_after n [] = n
value_after n (c ∷ cs) = value_after (10 * n + (c - digit 0)) cs

abbrev pub value : List ℕ → ℕ
value cs = value_after 0 cs

value_append : (n : ℕ) (cs ds : List ℕ) → value_after n (cs ++ ds) ≡ value_after (value_after n cs) ds
unfolding value_after
value_append n [] ds = refl
value_append n (c ∷ cs) ds = value_append (10 * n + (c - digit 0)) cs ds

pub value_decimal : (v : ℕ) → value (decimal v) ≡ v
unfolding value_after
value_decimal =
    decimal_induction (λ v. value (decimal v) ≡ v) (λ v h. rw (decimal_one v h) (omega arith))
    (λ v h e. rw (decimal_more v h, value_append, e) (omega arith))

pub decimal-digits : {c : ℕ} (v : ℕ) → Memᴰ c (decimal v) → (digit 0 ≤ c) × (c ≤ digit 9)
decimal-digits {c} =
    decimal_induction (λ v. Memᴰ c (decimal v) → (digit 0 ≤ c) × (c ≤ digit 9))
    (λ v h m. last (v % 10) (omega arith) (rw (decimal_one v h) at m))
    (λ v h before m. ⊎_elim before (last (v % 10) (omega arith)) (Memᴰ.append_cases (decimal (v / 10)) (rw (decimal_more v h) at m))) where
      last : (d : ℕ) → d < 10 → Memᴰ c (digit d ∷ []) → (digit 0 ≤ c) × (c ≤ digit 9)
      last d h m = let e = Memᴰ.eq_of_singleton m in omega arith

pub decimal_some : (v : ℕ) → 0 < length (decimal v)
decimal_some v =
    ⊎_elim (λ l. rw (decimal_one v l) (omega arith)) (λ l. omega (arith, length-decimal_more v l)) (below_or_above v 10)

pub decimal_first : (v : ℕ) → 0 < v → digit 0 < get_or (decimal v) 0 0
decimal_first =
    decimal_induction (λ v. 0 < v → digit 0 < get_or (decimal v) 0 0)
    (λ v h p. rw (decimal_one v h) (omega arith))
    (λ v h first p. rw (decimal_more v h, get_or-append (decimal (v / 10)) (digit (v % 10) ∷ []) 0 0 (decimal_some (v / 10))) (first (omega arith)))

-- Lengths

pub length-decimal : (n v : ℕ) → v < 10 ^ suc n → length (decimal v) ≤ suc n
length-decimal zero v h = rw (decimal_one v (omega arith)) (omega arith)
length-decimal (suc n) v h =
    let fewer : v / 10 < 10 ^ suc n = (div-lt_iff_lt-mul {k = 10} (omega arith)).1 (rw (pow-suc 10 (suc n)) at h) in
    ⊎_elim (λ l. rw (decimal_one v l) (omega arith))
    (λ l. omega (arith, length-decimal_more v l, length-decimal n (v / 10) fewer))
    (below_or_above v 10)
