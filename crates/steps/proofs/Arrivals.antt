-- Laws of records that arrive in parts: what a list's records hold does not change when more bytes come behind them, and those that come
-- are read as if they stood alone.
use mathlib.Core.Bool.{Bool, true, false, not, cond, ◌||◌, false≢true}
use mathlib.Core.List.{List, ◌++◌}
use mathlib.Core.Logic.{⊎_elim}
use mathlib.Core.Option.{Option, none, some}
use mathlib.Core.Path.{◌≡◌, refl, sym, ap, ◌∙◌}
use Prim.Native.Nat.{ℕ, zero, suc, ◌+◌, ◌-◌, ◌*◌, ◌<◌, ◌≤◌}
use native.Mathlib.Nat.{add-zero, zero-add, suc-add}
use native.Mathlib.Omega.{arith}
use lib.ListN.{length, get_or, take, drop, length-drop, length-append, get_or-append, get_or-eq_default, get_or-map}
use lib.Seq.{get_or-drop, drop-append-le}
use borrow.Author.Tests.{lt-ltb, le-ltb}
use Rattle.std.specs.List.{slice_range}
use Rattle.std.proofs.lemmas.List.{take-append-drop, length-take-le, get_or_default}
use Rattle.words.proofs.Bounded.{below_or_above, or_left, or_right}
use Rattle.words.specs.Bounded.{neqb}
use Rattle.words.specs.Words.{word}
use Rattle.rules.specs.Steps.{Step}
use Rattle.steps.specs.Records.{record_bytes, call_place, calls, step_of, all_steps, short, unmarked, whole_step, step_at, and_then, steps_from}
use Rattle.steps.specs.Spoilt.{spoilt}
use Rattle.steps.specs.Turns.{is_step}
use Rattle.steps.proofs.Decoding.{within_records}

-- A record is read from its bytes alone

-- a word of two lists whose four bytes agree
word_same : (xs ys : List ℕ) (a b : ℕ) → ((k : ℕ) → k < 4 → get_or xs (a + k) 0 ≡ get_or ys (b + k) 0) → word xs a ≡ word ys b
unfolding word
word_same xs ys a b h =
    let first : get_or xs a 0 ≡ get_or ys b 0 = simp add-zero at (h 0 (omega arith)) in
    rw (first, h 1 (omega arith), h 2 (omega arith), h 3 (omega arith))

-- the record at p of one list and the one at q of another, whose bytes agree
step_same : (xs ys : List ℕ) (p q : ℕ) → short xs p ≡ short ys q → ((k : ℕ) → k < record_bytes → get_or xs (p + k) 0 ≡ get_or ys (q + k) 0) → step_at xs p ≡ step_at ys q
unfolding step_at
step_same xs ys p q e h =
    let first : get_or xs p 0 ≡ get_or ys q 0 = simp add-zero at (h 0 (omega arith)) in
    let words : (m : ℕ) → m < 16 → word xs (p + m) ≡ word ys (q + m) = λ m l. word_same xs ys (p + m) (q + m) (λ k lk. bytes m k (omega arith)) in
    rw (e, first, h 1 (omega arith), h 2 (omega arith), words 3 (omega arith), words 7 (omega arith), words 11 (omega arith), words 15 (omega arith)) refl where
      bytes : (m k : ℕ) → m + k < record_bytes → get_or xs (p + m + k) 0 ≡ get_or ys (q + m + k) 0
      bytes m k l =
          let a : p + m + k ≡ p + (m + k) = omega arith in
          let b : q + m + k ≡ q + (m + k) = omega arith in
          rw (a, b) (h (m + k) l)

-- a list without its first d bytes
step_shift : (xs : List ℕ) (d p : ℕ) → d ≤ length xs → step_at (drop d xs) p ≡ step_at xs (d + p)
step_shift xs d p h = step_same (drop d xs) xs p (d + p) tests (λ k l. bytes k) where
  tests : short (drop d xs) p ≡ short xs (d + p)
  tests =
      let n = length-drop d xs in
      ⊎_elim (λ (l : length xs < d + p + record_bytes). lt-ltb (length (drop d xs)) (p + record_bytes) (omega arith) ∙ sym (lt-ltb (length xs) (d + p + record_bytes) l))
      (λ (l : d + p + record_bytes ≤ length xs). le-ltb (length (drop d xs)) (p + record_bytes) (omega arith) ∙ sym (le-ltb (length xs) (d + p + record_bytes) l))
      (below_or_above (length xs) (d + p + record_bytes))

  bytes : (k : ℕ) → get_or (drop d xs) (p + k) 0 ≡ get_or xs (d + p + k) 0
  bytes k = let e : d + p + k ≡ d + (p + k) = omega arith in rw e (get_or-drop d xs (p + k) 0)

-- a whole record with more behind it
step_prefix : (xs ys : List ℕ) (p : ℕ) → p + record_bytes ≤ length xs → step_at (xs ++ ys) p ≡ step_at xs p
step_prefix xs ys p h =
    let n = length-append xs ys in
    step_same (xs ++ ys) xs p p (le-ltb (length (xs ++ ys)) (p + record_bytes) (omega arith) ∙ sym (le-ltb (length xs) (p + record_bytes) h))
    (λ k l. get_or-append xs ys 0 (p + k) (omega arith))

-- the record at a place by the bytes of which it is made, taken by themselves
pub step_alone : (xs : List ℕ) (p : ℕ) → p + record_bytes ≤ length xs
    → (let part = slice_range xs p (p + record_bytes) in step_at xs p ≡ cond (unmarked part 0) none (whole_step part 0))
unfolding step_at
step_alone xs p h =
    let rest = drop p xs in
    let n : p + record_bytes - p ≡ record_bytes = omega arith in
    let enough : record_bytes ≤ length rest = simp length-drop (omega arith) in
    let fits : record_bytes ≤ length (take record_bytes rest) = rw length-take-le (omega arith) in
    let shift : step_at rest 0 ≡ step_at xs p = rw add-zero at (step_shift xs p 0 (omega arith)) in
    let short : step_at (take record_bytes rest) 0 ≡ step_at rest 0 = sym (rw take-append-drop at (step_prefix (take record_bytes rest) (drop record_bytes rest) 0 fits)) in
    rw n (sym (short ∙ shift) ∙ rw (le-ltb (length (take record_bytes rest)) record_bytes fits) refl)

-- where no whole record is left, there is no step
pub step_short : (xs : List ℕ) (p : ℕ) → length xs < p + record_bytes → step_at xs p ≡ none
unfolding step_at
step_short xs p h = rw (lt-ltb (length xs) (p + record_bytes) h) refl

-- The steps of a list

pub steps_shift : (xs : List ℕ) (d p m : ℕ) → d ≤ length xs → steps_from (drop d xs) p m ≡ steps_from xs (d + p) m
unfolding steps_from
steps_shift xs d p zero h = refl
steps_shift xs d p (suc m) h =
    let e : d + (p + record_bytes) ≡ d + p + record_bytes = omega arith in
    rw (step_shift xs d p h, steps_shift xs d (p + record_bytes) m h, e) refl

steps_prefix : (xs ys : List ℕ) (p m : ℕ) → p + record_bytes * m ≤ length xs → steps_from (xs ++ ys) p m ≡ steps_from xs p m
unfolding steps_from
steps_prefix xs ys p zero h = refl
steps_prefix xs ys p (suc m) h = rw (step_prefix xs ys p (omega arith), steps_prefix xs ys (p + record_bytes) m (omega arith)) refl

-- two bounds that no list reaches are one
pub steps_enough : (xs : List ℕ) (p m n : ℕ) → length xs < p + record_bytes * suc m → length xs < p + record_bytes * suc n → steps_from xs p m ≡ steps_from xs p n
unfolding steps_from and_then
steps_enough xs p zero zero h l = refl
steps_enough xs p zero (suc n) h l = rw (step_short xs p (omega arith)) refl
steps_enough xs p (suc m) zero h l = rw (step_short xs p (omega arith)) refl
steps_enough xs p (suc m) (suc n) h l = rw (steps_enough xs (p + record_bytes) m n (omega arith) (omega arith)) refl

-- as many as there are
steps_own : (xs : List ℕ) (p m : ℕ) → steps_from xs p (length (steps_from xs p m)) ≡ steps_from xs p m
unfolding steps_from and_then
steps_own xs p zero = refl
steps_own xs p (suc m) = go (step_at xs p) refl (steps_own xs (p + record_bytes) m) where
  go : (o : Option Step) → step_at xs p ≡ o
      → steps_from xs (p + record_bytes) (length (steps_from xs (p + record_bytes) m)) ≡ steps_from xs (p + record_bytes) m
      → steps_from xs p (length (and_then o (steps_from xs (p + record_bytes) m))) ≡ and_then o (steps_from xs (p + record_bytes) m)
  go none e i = refl
  go (some step) e i = rw (e, i) refl

-- the first n, if there are so many, and those behind them
steps_split : (xs : List ℕ) (p n m : ℕ) → length (steps_from xs p n) ≡ n → steps_from xs p (n + m) ≡ steps_from xs p n ++ steps_from xs (p + record_bytes * n) m
unfolding steps_from and_then
steps_split xs p zero m h = let e : p + record_bytes * 0 ≡ p = omega arith in rw (zero-add m, e) refl
steps_split xs p (suc n) m h = rw (suc-add n m) (go (step_at xs p) refl (steps_split xs (p + record_bytes) n m)) where
  go : (o : Option Step) → step_at xs p ≡ o
      → (length (steps_from xs (p + record_bytes) n) ≡ n → steps_from xs (p + record_bytes) (n + m) ≡ steps_from xs (p + record_bytes) n ++ steps_from xs (p + record_bytes + record_bytes * n) m)
      → and_then o (steps_from xs (p + record_bytes) (n + m)) ≡ and_then o (steps_from xs (p + record_bytes) n) ++ steps_from xs (p + record_bytes * suc n) m
  go none e i = let z : ⊥ = omega (arith, rw e at h) in absurd z
  go (some step) e i =
      let q : p + record_bytes * suc n ≡ p + record_bytes + record_bytes * n = omega arith in
      rw (i (omega (arith, rw e at h)), q) refl

-- the steps of the bytes that came first, and those of what they left over and what comes behind them
pub steps_append : (xs ys : List ℕ) (n : ℕ) → n ≡ length (all_steps xs) → all_steps (xs ++ ys) ≡ all_steps xs ++ all_steps (drop (record_bytes * n) xs ++ ys)
steps_append xs ys n e =
    let all = length-append xs ys in
    let left = length-append (drop (record_bytes * n) xs) ys in
    let dropped = length-drop (record_bytes * n) xs in
    let within : record_bytes * n ≤ length xs = omega (arith, within_records xs 0 (length xs) (omega arith)) in
    let m = length xs - n + length ys in
    let bound : length (xs ++ ys) ≡ n + m = omega arith in
    let first : steps_from (xs ++ ys) 0 n ≡ all_steps xs = steps_prefix xs ys 0 n (omega arith) ∙ rw e (steps_own xs 0 (length xs)) in
    let counted : length (steps_from (xs ++ ys) 0 n) ≡ n = ap length first ∙ sym e in
    let rest : steps_from (xs ++ ys) (0 + record_bytes * n) m ≡ all_steps (drop (record_bytes * n) xs ++ ys) = (
    let place : record_bytes * n + 0 ≡ 0 + record_bytes * n = omega arith in
    sym (rw place at (steps_shift (xs ++ ys) (record_bytes * n) 0 m (omega arith)))
    ∙ rw (drop-append-le (record_bytes * n) xs ys within) (steps_enough (drop (record_bytes * n) xs ++ ys) 0 m (length (drop (record_bytes * n) xs ++ ys)) (omega arith) (omega arith))
    ) in
    rw (bound, steps_split (xs ++ ys) 0 n m counted, first, rest) refl

behind : (xs : List ℕ) (p m : ℕ) → length xs < p + record_bytes * suc m → step_at xs (p + record_bytes * length (steps_from xs p m)) ≡ none
unfolding steps_from and_then
behind xs p zero h = step_short xs (p + record_bytes * 0) (omega arith)
behind xs p (suc m) h = go (step_at xs p) refl (behind xs (p + record_bytes) m (omega arith)) where
  go : (o : Option Step) → step_at xs p ≡ o → step_at xs (p + record_bytes + record_bytes * length (steps_from xs (p + record_bytes) m)) ≡ none
      → step_at xs (p + record_bytes * length (and_then o (steps_from xs (p + record_bytes) m))) ≡ none
  go none e i = let q : p + record_bytes * 0 ≡ p = omega arith in rw q e
  go (some step) e i =
      let q : p + record_bytes * suc (length (steps_from xs (p + record_bytes) m)) ≡ p + record_bytes + record_bytes * length (steps_from xs (p + record_bytes) m) = omega arith in
      rw q i

-- behind the last of all steps stands none
pub step_behind : (xs : List ℕ) → step_at xs (record_bytes * length (all_steps xs)) ≡ none
step_behind xs = rw zero-add at (behind xs 0 (length xs) (omega arith))

-- Bytes that begin no record

-- whether a call byte is listed does not depend on the words
listed : (call a b c d : ℕ) → is_step (step_of call a b c d) ≡ is_step (step_of call 0 0 0 0)
unfolding step_of is_step
listed call a b c d = sym (get_or-map is_step (calls a b c d) call none) ∙ get_or-map is_step (calls 0 0 0 0) call none

pub spoilt_shift : (xs : List ℕ) (d p : ℕ) → spoilt (drop d xs) p ≡ spoilt xs (d + p)
unfolding spoilt
spoilt_shift xs d p =
    let first : d + p + 1 ≡ d + (p + 1) = omega arith in
    let call : d + p + call_place ≡ d + (p + call_place) = omega arith in
    rw (first, call, get_or-drop d xs p 0x50, get_or-drop d xs (p + 1) 0x54, get_or-drop d xs (p + call_place) 1) refl

-- a whole record holds a step unless it is spoilt
whole_step_lem : (xs : List ℕ) (p : ℕ) → p + record_bytes ≤ length xs → is_step (step_at xs p) ≡ not (spoilt xs p)
unfolding step_at spoilt is_step
whole_step_lem xs p h =
    rw (
      le-ltb (length xs) (p + record_bytes) h,
      get_or_default xs p 0x50 0 (omega arith),
      get_or_default xs (p + 1) 0x54 0 (omega arith),
      get_or_default xs (p + call_place) 1 0 (omega arith),
    )
    (go (neqb (get_or xs p 0) 0x50) (neqb (get_or xs (p + 1) 0) 0x54) (whole_step xs p) (listed (get_or xs (p + call_place) 0) _ _ _ _)) where
      go : (a b : Bool) (o : Option Step) {l : Bool} → is_step o ≡ l → is_step (cond (a || b) none o) ≡ not (a || b || not l)
      go true b o e = refl
      go false true o e = refl
      go false false none e = rw (← e) refl
      go false false (some step) e = rw (← e) refl

no_step : (o : Option Step) → is_step o ≡ false → o ≡ none
unfolding is_step
no_step none e = refl
no_step (some step) e = absurd (false≢true (sym e))

pub spoilt_none : (xs : List ℕ) (p : ℕ) → spoilt xs p ≡ true → step_at xs p ≡ none
spoilt_none xs p e =
    ⊎_elim (step_short xs p)
    (λ (l : p + record_bytes ≤ length xs). no_step (step_at xs p) (whole_step_lem xs p l ∙ rw e refl))
    (below_or_above (length xs) (p + record_bytes))

-- what is left over is spoilt or less than a record
pub left_over : (xs : List ℕ) (p : ℕ) → step_at xs p ≡ none → spoilt xs p ≡ false → length xs < p + record_bytes
unfolding is_step
left_over xs p e f =
    ⊎_elim (λ (l : length xs < p + record_bytes). l)
    (λ (l : p + record_bytes ≤ length xs). absurd (false≢true (sym (ap is_step e) ∙ whole_step_lem xs p l ∙ rw f refl)))
    (below_or_above (length xs) (p + record_bytes))

pub spoilt_inside : (xs : List ℕ) (p : ℕ) → spoilt xs p ≡ true → p < length xs
unfolding spoilt step_of is_step
spoilt_inside xs p e =
    ⊎_elim (λ (l : p < length xs). l)
    (λ (l : length xs ≤ p). absurd (false≢true (rw (get_or-eq_default xs 0x50 l, get_or-eq_default xs 0x54 {n = p + 1} (omega arith), get_or-eq_default xs 1 {n = p + call_place} (omega arith)) at e)))
    (below_or_above p (length xs))

-- a byte that fails a test is there, and stays with more behind it
stays : (t : ℕ → Bool) (xs ys : List ℕ) (i d : ℕ) → t d ≡ false → t (get_or xs i d) ≡ true → t (get_or (xs ++ ys) i d) ≡ true
stays t xs ys i d f e =
    ⊎_elim (λ (l : i < length xs). rw (get_or-append xs ys d i l) e)
    (λ (l : length xs ≤ i). absurd (false≢true (sym f ∙ rw (get_or-eq_default xs d l) at e)))
    (below_or_above i (length xs))

or_keeps : (a b c a' b' c' : Bool) → (a ≡ true → a' ≡ true) → (b ≡ true → b' ≡ true) → (c ≡ true → c' ≡ true) → (a || b || c) ≡ true → (a' || b' || c') ≡ true
or_keeps true b c a' b' c' f g h e = or_left (a' || b') c' (or_left a' b' (f refl))
or_keeps false true c a' b' c' f g h e = or_left (a' || b') c' (or_right a' b' (g refl))
or_keeps false false c a' b' c' f g h e = or_right (a' || b') c' (h e)

pub spoilt-append : (xs ys : List ℕ) (p : ℕ) → spoilt xs p ≡ true → spoilt (xs ++ ys) p ≡ true
unfolding spoilt step_of is_step
spoilt-append xs ys p =
    or_keeps (neqb (get_or xs p 0x50) 0x50) (neqb (get_or xs (p + 1) 0x54) 0x54) (unlisted (get_or xs (p + call_place) 1))
    (neqb (get_or (xs ++ ys) p 0x50) 0x50) (neqb (get_or (xs ++ ys) (p + 1) 0x54) 0x54) (unlisted (get_or (xs ++ ys) (p + call_place) 1))
    (stays (λ b. neqb b 0x50) xs ys p 0x50 refl)
    (stays (λ b. neqb b 0x54) xs ys (p + 1) 0x54 refl)
    (stays unlisted xs ys (p + call_place) 1 refl) where
      unlisted : ℕ → Bool
      unlisted call = not (is_step (step_of call 0 0 0 0))
