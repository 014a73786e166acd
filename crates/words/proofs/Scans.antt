-- What iterators over a range answer, as the tests, sums and counts of specs/Bounded.antt.
use mathlib.Core.Path.{◌≡◌, refl, sym, ◌∙◌, ap}
use mathlib.Core.Bool.{Bool, true, false, not, ◌&&◌, ◌||◌, cond, or_assoc}
use mathlib.Core.List.{List, [], ◌∷◌, map}
use Prim.Native.Nat.{ℕ, zero, suc, ◌+◌, ◌<◌}
use native.Mathlib.Omega.{arith}
use denote.Param.Members.{Mut}
use denote.Ref.{Bor}
use Rattle.std.specs.declared.ops.Range.{Range}
use Rattle.std.specs.declared.iter.Map.{Map}
use Rattle.std.specs.declared.iter.Filter.{Filter}
use Rattle.std.specs.Bool.{⊤}
use Rattle.std.specs.Fn.{Called, CalledAt}
use Rattle.std.specs.Iterator.{ChecksAll, ChecksAny, Drains}
use Rattle.std.specs.Iterator.Adapters.{map_source, map_callee, filter_source, filter_callee, filter_steps}
use Rattle.std.specs.Iterator.Runs.{EachRunFrom}
use Rattle.std.proofs.Math.ListN.{length}
use Rattle.std.specs.List.{fold, list_all, list_any, range_with_len, sum_by, count_by}
use Rattle.std.proofs.iter.Yields.{nat_range_steps}
use Rattle.std.proofs.lemmas.Iterator.{YieldsList, maps, YieldsList-from_map, YieldsList-from_range}
use Rattle.std.proofs.lemmas.Iterator.Consumers.{YieldsList-from_filter, sum_by_from_yields_List, fits_by_from_yields_list, count_from_yields_List}
use Rattle.std.proofs.lemmas.Iterator.Search.{all_from_yields_List, any_from_yields_List}
use Rattle.std.proofs.lemmas.List.Sums.{length-filter}
use Rattle.words.specs.Bounded.{any, sum, num, count}
use Rattle.words.proofs.Bounded.{any_same}
use Rattle.words.proofs.Sums.{sum_same}

-- ---- the numbers below m as a list

or_none : (b : Bool) → b ≡ (b || false)
or_none true = refl
or_none false = refl

module _ (p : ℕ → Bool) where
  any_first : (n a : ℕ) → any (suc n) (λ i. p (a + i)) ≡ (p a || any n (λ i. p (a + 1 + i)))
  unfolding any
  any_first zero a = let e : a + 0 ≡ a = omega arith in rw e (or_none (p a))
  any_first (suc n) a = let e : a + suc n ≡ a + 1 + n = omega arith in rw (any_first n a, e) (or_assoc (p a) (any n (λ i. p (a + 1 + i))) (p (a + 1 + n)))

  listed : (n a : ℕ) → list_any p (range_with_len a n) ≡ any n (λ i. p (a + i))
  unfolding any
  listed zero a = refl
  listed (suc n) a = rw (listed n (a + 1)) (sym (any_first n a))

  any_listed : (m : ℕ) → list_any p (range_with_len 0 m) ≡ any m p
  any_listed m = listed m 0 ∙ any_same (λ i. p (0 + i)) p m (λ i l. let e : 0 + i ≡ i = omega arith in ap p e)

not_both : (a b : Bool) → (a && not b) ≡ not (not a || b)
not_both true b = refl
not_both false b = refl

all_none : (p : ℕ → Bool) (xs : List ℕ) → list_all p xs ≡ not (list_any (λ i. not (p i)) xs)
all_none p [] = refl
all_none p (x ∷ xs) = rw (all_none p xs) (not_both (p x) (list_any (λ i. not (p i)) xs))

module _ (f : ℕ → ℕ) where
  sum_first : (n a : ℕ) → sum (suc n) (λ i. f (a + i)) ≡ f a + sum n (λ i. f (a + 1 + i))
  unfolding sum
  sum_first zero a = let e : a + 0 ≡ a = omega arith in rw e (omega arith)
  sum_first (suc n) a = let e : a + suc n ≡ a + 1 + n = omega arith in rw (sum_first n a, e) (omega arith)

  folded : (n a s : ℕ) → fold (λ t x. t + f x) s (range_with_len a n) ≡ s + sum n (λ i. f (a + i))
  unfolding sum
  folded zero a s = omega arith
  folded (suc n) a s = omega (arith, folded n (a + 1) (s + f a), sum_first n a)

  sum_listed : (m : ℕ) → sum_by f (range_with_len 0 m) ≡ sum m f
  sum_listed m = omega (arith, folded m 0 0, sum_same (λ i. f (0 + i)) f m (λ i l. let e : 0 + i ≡ i = omega arith in ap f e))

num_cond : (b : Bool) → cond b 1 0 ≡ num b
unfolding num
num_cond true = refl
num_cond false = refl

count_listed : (p : ℕ → Bool) (m : ℕ) → count_by p (range_with_len 0 m) ≡ count m p
count_listed p m = sum_listed (λ i. cond (p i) 1 0) m ∙ sum_same (λ i. cond (p i) 1 0) (λ i. num (p i)) m (λ i l. num_cond (p i))

-- ---- the calls, at a closure that computes p or f

module _ {F : Type 0} {g : Mut F (ℕ × Unit {0}) Bool} (p : ℕ → Bool) (m : ℕ) {s : Range ℕ} (u : Range ℕ) (f : F) (r : Bool) where
  -- `(0..m).any(..)`
  pub any_below : ChecksAny nat_range_steps g s f r u → s ≡ record { start = 0; end = m }
      → ((x : ℕ) (b : Bool) (q : F) → Called g f (x, tt) b q → (q ≡ f) × (b ≡ p x)) → r ≡ any m p
  any_below ran e pure = any_from_yields_List p u f r ran (YieldsList-from_range 0 m m e (omega arith)) pure ∙ any_listed p m

  -- `(0..m).all(..)`
  pub all_below : ChecksAll nat_range_steps g s f r u → s ≡ record { start = 0; end = m }
      → ((x : ℕ) (b : Bool) (q : F) → Called g f (x, tt) b q → (q ≡ f) × (b ≡ p x)) → r ≡ not (any m (λ i. not (p i)))
  all_below ran e pure =
      all_from_yields_List p u f r ran (YieldsList-from_range 0 m m e (omega arith)) pure ∙ all_none p (range_with_len 0 m) ∙ ap not (any_listed (λ i. not (p i)) m)

-- `(0..m).map(..).sum()`, and what it asks
module _ {F : Type 0} {g : Mut F (ℕ × Unit {0}) ℕ} (f : ℕ → ℕ) (m : ℕ) (s : Map (Range ℕ) F) {k : F} (from : map_source s ≡ record { start = 0; end = m }) (callee : map_callee s ≡ k)
    (pure : (x y : ℕ) (q : F) → Called g k (x, tt) y q → (q ≡ k) × (y ≡ f x)) where
  road : YieldsList (maps nat_range_steps g) (λ x. x) s (map f (range_with_len 0 m))
  road = YieldsList-from_map g f (YieldsList-from_range 0 m m from (omega arith)) callee pure

  pub sum_below : (r : ℕ) → ((xs : List ℕ) × (⊤ → Drains (maps nat_range_steps g) s xs) × (r ≡ fold (λ a x. a + x) 0 xs)) → r ≡ sum m f
  sum_below r ran = sum_by_from_yields_List f (range_with_len 0 m) s r ran road ∙ sum_listed f m

  pub sum_below_fits : (top : ℕ) → sum m f < top → EachRunFrom (maps nat_range_steps g) s (λ p. fold (λ a x. a + x) 0 p.items < top)
  sum_below_fits top low = fits_by_from_yields_list f (range_with_len 0 m) s top road (rw (sum_listed f m) low)

-- `(0..m).filter(..).count()`
pub count_below : {F : Type 0} {g : Mut F (Bor ℕ × Unit {0}) Bool} (p : ℕ → Bool) (m : ℕ) (s : Filter (Range ℕ) F) {k : F} (r : ℕ)
    → ((xs : List ℕ) × Drains (filter_steps nat_range_steps g) s xs × (r ≡ length xs)) → filter_source s ≡ record { start = 0; end = m } → filter_callee s ≡ k
    → ((x : ℕ) (b : Bool) (q : F) → CalledAt g k x b q → (q ≡ k) × (b ≡ p x)) → r ≡ count m p
count_below {g = g} p m s r ran from callee pure =
    count_from_yields_List s r ran (YieldsList-from_filter g p (YieldsList-from_range 0 m m from (omega arith)) callee pure) ∙ length-filter p (range_with_len 0 m) ∙ count_listed p m
