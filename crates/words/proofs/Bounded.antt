-- Laws of bounded tests: when some number below a bound has a property, and when none has.
use mathlib.Core.Path.{◌≡◌, refl, sym, ◌∙◌, ap, ap₂}
use mathlib.Core.Logic.{◌⊎◌, inl, inr, ⊎_elim}
use mathlib.Core.Bool.{Bool, true, false, not, ◌&&◌, ◌||◌, false≢true, or-true, or_assoc, or_comm}
use Prim.Native.Nat.{ℕ, zero, suc, ◌+◌, ◌*◌, ◌<◌, ◌≤◌}
use native.Mathlib.Nat.{add-zero, eq-or-lt_of_le, le_of_suc-le-suc}
use native.Mathlib.Decide.{dec_lt}
use native.Mathlib.Numerals.{add-one}
use native.Mathlib.Omega.{arith}
use lib.Dec.{leb, ltb}
use borrow.Author.Tests.{lt-ltb, le-ltb, lt-leb, le-leb, ltb-true, leb-true, eq-eqb, ne_eqb}
use Rattle.std.specs.List.{list_all, range_with_len}
use Rattle.words.specs.Bounded.{above, neqb, among, any}

-- a number below n + 1 is n or below n
pub last_or_below : {i n : ℕ} → i < suc n → (i ≡ n) ⊎ (i < n)
last_or_below h = eq-or-lt_of_le (le_of_suc-le-suc h)

-- a number is below a bound or not
pub below_or_above : (i n : ℕ) → (i < n) ⊎ (n ≤ i)
below_or_above i n = go (dec_lt i n) where
  go : Dec (i < n) → (i < n) ⊎ (n ≤ i)
  go (yes h) = inl h
  go (no h) = inr (omega arith)

-- a number is in the window of m numbers from a on, or not
pub window_or_outside : (i a m : ℕ) → ((a ≤ i) × (i < a + m)) ⊎ (a ≤ i → a + m ≤ i)
window_or_outside i a m =
    ⊎_elim (λ (h : i < a). inr (λ l. omega arith))
    (λ (l : a ≤ i). ⊎_elim (λ (h : i < a + m). inl (l, h)) (λ (h : a + m ≤ i). inr (λ _. h)) (below_or_above i (a + m)))
    (below_or_above i a)

pub false_unless : (a : Bool) → (a ≡ true → ⊥) → a ≡ false
false_unless true h = absurd (h refl)
false_unless false h = refl

pub true_unless : (a : Bool) → (a ≡ false → ⊥) → a ≡ true
true_unless true h = refl
true_unless false h = absurd (h refl)

pub and_true_left : (a b : Bool) → (a && b) ≡ true → a ≡ true
and_true_left true b e = refl
and_true_left false b e = e

pub and_true_right : (a b : Bool) → (a && b) ≡ true → b ≡ true
and_true_right true b e = e
and_true_right false b e = absurd (false≢true e)

pub and_false_right : (a b : Bool) → (a && b) ≡ false → a ≡ true → b ≡ false
and_false_right true b e h = e
and_false_right false b e h = absurd (false≢true h)

pub or_false_left : (a b : Bool) → (a || b) ≡ false → a ≡ false
or_false_left true b e = e
or_false_left false b e = refl

pub or_false_right : (a b : Bool) → (a || b) ≡ false → b ≡ false
or_false_right true b e = absurd (false≢true (sym e))
or_false_right false b e = e

pub or_cases : (a b : Bool) → (a || b) ≡ true → (a ≡ true) ⊎ (b ≡ true)
or_cases true b e = inl refl
or_cases false b e = inr e

pub and_true : (a b : Bool) → (a && b) ≡ true → (a ≡ true) × (b ≡ true)
and_true true b e = (refl, e)
and_true false b e = absurd (false≢true e)

-- what a function answered is the test that it promised
pub told : {r a b : Bool} → r ≡ a → r ≡ b → a ≡ b
told p q = sym p ∙ q

-- b is one of the m numbers from p on
module _ (p m b : ℕ) where
  pub among_in : p ≤ b → b < p + m → among p m b ≡ true
  among_in lo hi = rw (le-leb p b lo, lt-ltb b (p + m) hi) refl

  pub among_out : (p ≤ b → p + m ≤ b) → among p m b ≡ false
  among_out o =
      ⊎_elim (λ (l : b < p). rw (lt-leb p b l) refl)
      (λ (l : p ≤ b). rw (le-leb p b l, le-ltb b (p + m) (o l)) refl)
      (below_or_above b p)

  pub among_within : among p m b ≡ true → (p ≤ b) × (b < p + m)
  among_within t = let (lo, hi) = and_true (leb p b) (ltb b (p + m)) t in (leb-true p b lo, ltb-true b (p + m) hi)

-- two tests that imply each other are the same
pub both_ways : (a b : Bool) → (a ≡ true → b ≡ true) → (b ≡ true → a ≡ true) → a ≡ b
both_ways true b f g = sym (f refl)
both_ways false true f g = g refl
both_ways false false f g = refl

pub or_left : (a b : Bool) → a ≡ true → (a || b) ≡ true
or_left a b e = rw e refl

pub or_right : (a b : Bool) → b ≡ true → (a || b) ≡ true
or_right a b e = rw e (or-true a)

pub and_both : (a b : Bool) → a ≡ true → b ≡ true → (a && b) ≡ true
and_both a b e f = rw (e, f) refl

module _ (p : ℕ → Bool) where
  any_more : (n : ℕ) → any (n + 1) p ≡ (any n p || p n)
  unfolding any
  any_more n = rw add-one refl

  pub any_none : (n : ℕ) → any n p ≡ false → (i : ℕ) → i < n → p i ≡ false
  unfolding any
  any_none zero e i h = let z : ⊥ = omega arith in absurd z
  any_none (suc n) e i h =
      ⊎_elim (λ (q : i ≡ n). rw q (or_false_right (any n p) (p n) e)) (any_none n (or_false_left (any n p) (p n) e) i) (last_or_below h)

  pub any_avoids : (n : ℕ) → ((i : ℕ) → i < n → p i ≡ false) → any n p ≡ false
  unfolding any
  any_avoids zero h = refl
  any_avoids (suc n) h = rw (any_avoids n (λ i l. h i (omega arith)), h n (omega arith)) refl

  pub any_hit : (n i : ℕ) → i < n → p i ≡ true → any n p ≡ true
  unfolding any
  any_hit zero i h e = let z : ⊥ = omega arith in absurd z
  any_hit (suc n) i h e =
      ⊎_elim (λ (q : i ≡ n). rw (← q, e) (or-true (any i p))) (λ (l : i < n). rw (any_hit n i l e) refl) (last_or_below h)

  pub any_found : (n : ℕ) → any n p ≡ true → (i : ℕ) × (i < n) × (p i ≡ true)
  unfolding any
  any_found zero e = absurd (false≢true e)
  any_found (suc n) e =
      ⊎_elim (λ (f : any n p ≡ true). let (i, l, t) = any_found n f in (i, omega arith, t)) (λ (t : p n ≡ true). (n, omega arith, t)) (or_cases (any n p) (p n) e)

  -- the turn of a pass that raises a flag at each number that has p
  pub flag_next : {f g : Bool} (n : ℕ) → f ≡ any n p → g ≡ (f || p n) → g ≡ any (n + 1) p
  flag_next n e t = rw (any_more n, ← e) t

  -- the turn of a search that goes on
  pub any_step : (n : ℕ) → any n p ≡ false → p n ≡ false → any (n + 1) p ≡ false
  any_step n e f = rw (any_more n, e, f) refl

pub any_same : (p q : ℕ → Bool) (n : ℕ) → ((i : ℕ) → i < n → p i ≡ q i) → any n p ≡ any n q
unfolding any
any_same p q zero h = refl
any_same p q (suc n) h = ap₂ ◌||◌ (any_same p q n (λ i l. h i (omega arith))) (h n (omega arith))

-- two at a time
pub any_pairs : (q : ℕ → Bool) (n : ℕ) → any n (λ i. q (2 * i) || q (2 * i + 1)) ≡ any (2 * n) q
unfolding any
any_pairs q zero = refl
any_pairs q (suc n) =
    let e : 2 * suc n ≡ suc (suc (2 * n)) = omega arith in
    let next : 2 * n + 1 ≡ suc (2 * n) = omega arith in
    rw (e, ← next, any_pairs q n) (sym (or_assoc (any (2 * n) q) (q (2 * n)) (q (2 * n + 1))))

pub any_or : (n : ℕ) (p q : ℕ → Bool) → any n (λ i. p i || q i) ≡ (any n p || any n q)
any_or n p q = both_ways (any n (λ i. p i || q i)) (any n p || any n q) there back where
  there : any n (λ i. p i || q i) ≡ true → (any n p || any n q) ≡ true
  there h =
      let (i, l, t) = any_found (λ i. p i || q i) n h in
      ⊎_elim (λ u. or_left (any n p) (any n q) (any_hit p n i l u)) (λ u. or_right (any n p) (any n q) (any_hit q n i l u)) (or_cases (p i) (q i) t)

  back : (any n p || any n q) ≡ true → any n (λ i. p i || q i) ≡ true
  back h =
      ⊎_elim (λ u. let (i, l, t) = any_found p n u in any_hit (λ i. p i || q i) n i l (or_left (p i) (q i) t))
      (λ u. let (i, l, t) = any_found q n u in any_hit (λ i. p i || q i) n i l (or_right (p i) (q i) t))
      (or_cases (any n p) (any n q) h)

-- the first number, and those behind it
any_front : (p : ℕ → Bool) (n : ℕ) → any (suc n) p ≡ (p 0 || any n (λ i. p (suc i)))
unfolding any
any_front p zero = sym (or_comm (p 0) false)
any_front p (suc n) = rw (any_front p n) (or_assoc (p 0) (any n (λ i. p (suc i))) (p (suc n)))

not_or : (a b : Bool) → not (not a || b) ≡ (a && not b)
not_or true b = refl
not_or false b = refl

-- all n numbers of a range from a on have p, where those that have not are told by q
pub all_range : (p q : ℕ → Bool) (n a : ℕ) → ((i : ℕ) → i < n → q i ≡ not (p (a + i))) → list_all p (range_with_len a n) ≡ not (any n q)
unfolding any
all_range p q zero a h = refl
all_range p q (suc n) a h =
    let rest = all_range p (λ i. q (suc i)) n (a + 1) (λ i l. let e : a + suc i ≡ a + 1 + i = omega arith in rw (← e) (h (suc i) (omega arith))) in
    let first : q 0 ≡ not (p a) = rw add-zero at (h 0 (omega arith)) in
    rw (any_front q n, first, not_or (p a) (any n (λ i. q (suc i))), rest) refl

-- tests that two numbers differ
pub differ : (a b : ℕ) → (a ≡ b → ⊥) → neqb a b ≡ true
differ a b h = ap not (ne_eqb a b h)

pub same : (a b : ℕ) → a ≡ b → neqb a b ≡ false
same a b h = ap not (eq-eqb a b h)

-- a number is above 0 exactly if it is not 0
pub above_zero : (k : ℕ) → above k 0 ≡ neqb k 0
above_zero k =
    ⊎_elim (λ (h : 0 < k). lt-ltb 0 k h ∙ sym (differ k 0 (λ e. omega arith))) (λ (h : k ≤ 0). le-ltb 0 k h ∙ sym (same k 0 (omega arith))) (below_or_above 0 k)

-- A scan: one loop over the numbers below m, left at the first that has p

module _ (p : ℕ → Bool) where
  -- none of the numbers passed has p
  abbrev pub Scanned : ℕ → ℕ → Type 0
  Scanned m i = (i ≤ m) × (any i p ≡ false)

  pub scan_start : (m : ℕ) → Scanned m 0
  unfolding any
  scan_start m = (omega arith, refl)

  pub scan_next : (m i : ℕ) → Scanned m i → i < m → p i ≡ false → Scanned m (i + 1)
  scan_next m i s l e = (omega arith, any_step p i s.1 e)

  pub scan_found : (m i : ℕ) → i < m → p i ≡ true → true ≡ any m p
  scan_found m i l e = sym (any_hit p m i l e)

  pub scan_end : (m i : ℕ) → Scanned m i → m ≤ i → false ≡ any m p
  scan_end m i s l = let e : i ≡ m = omega arith in sym (rw e at s.1)
