-- Tests, sums and counts over the numbers below a bound. Plain mathematics.
use Rattle.std.specs.Prelude.{Bool, true, false, not, ◌&&◌, ◌||◌, ◌≡◌, ℕ, zero, suc, ◌+◌, ◌<◌, leb, ltb, eqb}

-- a is above b
abbrev pub above : ℕ → ℕ → Bool
above a b = ltb b a

-- a and b differ
abbrev pub neqb : ℕ → ℕ → Bool
neqb a b = not (eqb a b)

-- b is one of the m numbers from p on
abbrev pub among : ℕ → ℕ → ℕ → Bool
among p m b = leb p b && ltb b (p + m)

-- p holds of some number below n
unfoldable pub any : ℕ → (ℕ → Bool) → Bool
any zero p = false
any (suc n) p = any n p || p n

-- f 0 + f 1 + .. + f (n - 1)
unfoldable pub sum : ℕ → (ℕ → ℕ) → ℕ
sum zero f = 0
sum (suc n) f = sum n f + f n

-- 1 for true, 0 for false
unfoldable pub num : Bool → ℕ
num true = 1
num false = 0

-- how many numbers below n have p
abbrev pub count : ℕ → (ℕ → Bool) → ℕ
count n p = sum n (λ i. num (p i))

-- r is v, and below m
pub record Small (v m r : ℕ) : Type 0 where
  pub is : r ≡ v
  pub below : r < m
