-- Tables and counters agree, and go on to agree when a window of entries is added or removed: what is outside the window is as before,
-- and the counters change by what the window gives.
use mathlib.Core.Bool.{Bool, true, false, ◌&&◌, ◌||◌, and-false, false≢true}
use mathlib.Core.Logic.{⊎_elim}
use mathlib.Core.Path.{◌≡◌, refl, sym, ◌∙◌}
use Prim.Native.Nat.{ℕ, ◌+◌, ◌-◌, ◌*◌, ◌<◌, ◌≤◌}
use native.Mathlib.Omega.{arith}
use borrow.Author.Tests.{lt-ltb, le-ltb, ltb-true, ltb-false}
use Rattle.words.specs.Bounded.{above}
use Rattle.words.proofs.Bounded.{false_unless, below_or_above, window_or_outside, or_false_left, or_false_right}
use Rattle.entries.specs.Entries.{Entry, fault, l2, is_unaccepted, place_blocks}
use Rattle.rules.specs.Store.{block_words, most_blocks, counter_limit, Counter, writable, executable, linked}
use Rattle.rules.specs.Tables.{type_d, type_code, gives, gain, astray}
use Rattle.rules.specs.General.{Change, added, removed, end_value, ends_below, overruns}
use Rattle.rules.specs.Create.{clash}
use Rattle.rules.proofs.Gains.{gives_fault, gain-most, gain_hit, gain_none, gain_same, gain-part, gain_window}

-- the type that a block needs for what it is given: data to be written, L2 to be linked to (create 10, map 10, link 10)
abbrev pub Suits : Counter → ℕ → Type 0
Suits writable t = t ≡ type_d
Suits executable t = Unit {0}
Suits linked t = t ≡ type_code l2

-- an entry that may stand in a table of the region of n blocks from B on, whose types are K
pub record Sound (B n : ℕ) (K : ℕ → ℕ) (e : Entry) : Type 0 where
  pub accepted : is_unaccepted e ≡ false
  pub inside : astray B n e ≡ false
  pub suits : (c : Counter) (b : ℕ) → b < n → gives c e (B + b) ≡ true → Suits c (K b)

-- word j of the memory is the entry E j, S tells which blocks are signed, and counts has the three counters of each block
pub record Consistent (B n : ℕ) (K : ℕ → ℕ) (E : ℕ → Entry) (S : ℕ → Bool) (counts : Counter → ℕ → ℕ) : Type 0 where
  pub counts_are : (c : Counter) (b : ℕ) → b < n → counts c b ≡ gain (block_words * n) E c (B + b)
  pub sound : (j : ℕ) → j < block_words * n → Sound B n K (E j)
  pub exclusive : (b : ℕ) → b < n → 0 < counts writable b → counts executable b ≡ 0
  pub signs : (b : ℕ) → b < n → 0 < counts executable b → S b ≡ true

pub sound_fault : (B n : ℕ) (K : ℕ → ℕ) → Sound B n K fault
unfolding is_unaccepted astray place_blocks
sound_fault B n K = record { accepted = refl; inside = refl; suits = λ c b l g. let z : false ≡ true = sym (gives_fault c (B + b)) ∙ g in absurd (false≢true z) }

-- the numeric link: the words of the largest region are not more than the counters' limit
pub words_limit : (n : ℕ) → n ≤ most_blocks → block_words * n ≤ counter_limit
words_limit n h = omega arith

module _ {B n : ℕ} {K : ℕ → ℕ} {E : ℕ → Entry} {S : ℕ → Bool} {counts : Counter → ℕ → ℕ} (now : Consistent B n K E S counts) where
  -- an entry that gives something is counted
  pub counted : (c : Counter) (b j : ℕ) → b < n → j < block_words * n → gives c (E j) (B + b) ≡ true → 0 < counts c b
  counted c b j l h g = rw (now.counts_are c b l) (gain_hit (block_words * n) E c (B + b) j h g)

  pub counts_limit : n ≤ most_blocks → (c : Counter) (b : ℕ) → b < n → counts c b ≤ counter_limit
  counts_limit h c b l = rw (now.counts_are c b l) (omega (arith, gain-most (block_words * n) E c (B + b), words_limit n h))

  -- what is the same for every word, every block that can be executed and every counter changes nothing
  pub still : {E' : ℕ → Entry} {S' : ℕ → Bool} {counts' : Counter → ℕ → ℕ}
      → ((j : ℕ) → j < block_words * n → E' j ≡ E j)
      → ((b : ℕ) → b < n → 0 < counts executable b → S' b ≡ S b)
      → ((c : Counter) (b : ℕ) → b < n → counts' c b ≡ counts c b)
      → Consistent B n K E' S' counts'
  still {E'} {S'} {counts'} same_entry same_signed same_count =
      record {
        counts_are = λ c b l. same_count c b l ∙ now.counts_are c b l ∙ sym (gain_same (block_words * n) E' c (B + b) E same_entry);
        sound = λ j l. rw (same_entry j l) (now.sound j l);
        exclusive = λ b l w. same_count executable b l ∙ now.exclusive b l (rw (same_count writable b l) at w);
        signs = λ b l x. let y : 0 < counts executable b = rw (same_count executable b l) at x in same_signed b l y ∙ now.signs b l y;
      }

-- the entries of a window before and after e is added or removed
abbrev pub window_before : Change → (ℕ → Entry) → ℕ → Entry
window_before added e i = fault
window_before removed e i = e i

abbrev pub window_after : Change → (ℕ → Entry) → ℕ → Entry
window_after added e i = e i
window_after removed e i = fault

-- the m entries e are added to the words from a on, or removed from them, and nothing else changes
pub record Replaces (d : Change) (all a m : ℕ) (e E E' : ℕ → Entry) : Type 0 where
  pub within : a + m ≤ all
  pub before : (i : ℕ) → i < m → E (a + i) ≡ window_before d e i
  pub after : (i : ℕ) → i < m → E' (a + i) ≡ window_after d e i
  pub same : (j : ℕ) → j < all → (a ≤ j → a + m ≤ j) → E' j ≡ E j

module _ {B n : ℕ} {K : ℕ → ℕ} {E : ℕ → Entry} {S : ℕ → Bool} {counts : Counter → ℕ → ℕ} (now : Consistent B n K E S counts)
    (d : Change) (a m : ℕ) (e E' : ℕ → Entry) (window : Replaces d (block_words * n) a m e E E') where
  -- the counters afterwards
  abbrev pub counts_after : Counter → ℕ → ℕ
  counts_after c b = end_value d (counts c b) (gain m e c (B + b))

  no_more : (c : Counter) (b : ℕ) → b < n → gain m (window_before d e) c (B + b) ≤ counts c b
  no_more c b l =
      rw (now.counts_are c b l, ← gain_same m (λ i. E (a + i)) c (B + b) (window_before d e) window.before)
      (gain-part (block_words * n) E c (B + b) a m window.within)

  gain_faults : (c : Counter) (p : ℕ) → gain m (λ i. fault) c p ≡ 0
  gain_faults c p = gain_none m (λ i. fault) c p (λ i l. gives_fault c p)

  -- the end value, as a balance of the window's entries before and afterwards
  balance : (c : Counter) (b : ℕ) → b < n → counts_after c b + gain m (window_before d e) c (B + b) ≡ counts c b + gain m (window_after d e) c (B + b)
  unfolding end_value
  balance c b l = go d (no_more c b l) where
    go : (d : Change) → gain m (window_before d e) c (B + b) ≤ counts c b
        → end_value d (counts c b) (gain m e c (B + b)) + gain m (window_before d e) c (B + b) ≡ counts c b + gain m (window_after d e) c (B + b)
    go added h = omega (arith, gain_faults c (B + b))
    go removed h = omega (arith, gain_faults c (B + b))

  counts_are_after : (c : Counter) (b : ℕ) → b < n → counts_after c b ≡ gain (block_words * n) E' c (B + b)
  counts_are_after c b l =
      let w = gain_window (block_words * n) E' c (B + b) E a m window.within window.same in
      let o = gain_same m (λ i. E (a + i)) c (B + b) (window_before d e) window.before in
      let p = gain_same m (λ i. E' (a + i)) c (B + b) (window_after d e) window.after in
      omega (arith, balance c b l, now.counts_are c b l)

  -- 13 does not arise
  pub no_overrun : n ≤ most_blocks → (c : Counter) (b : ℕ) → b < n → overruns d (counts c b) (gain m e c (B + b)) ≡ false
  unfolding overruns ends_below
  no_overrun h c b l = rw (below d (no_more c b l), le-ltb counter_limit (counts_after c b) upper) (and-false (above (gain m e c (B + b)) 0)) where
    below : (d : Change) → gain m (window_before d e) c (B + b) ≤ counts c b → ends_below d (counts c b) (gain m e c (B + b)) ≡ false
    below added g = refl
    below removed g = false_unless (ends_below removed (counts c b) (gain m e c (B + b))) (λ t. omega (arith, ltb-true))

    upper : counts_after c b ≤ counter_limit
    upper = rw (counts_are_after c b l) (omega (arith, gain-most (block_words * n) E' c (B + b), words_limit n h))

  -- tables and counters agree afterwards, given that what was counted still suits the types and the new entries are sound
  pub replaced : {K' : ℕ → ℕ} {S' : ℕ → Bool}
      → ((c : Counter) (b : ℕ) → b < n → 0 < counts c b → Suits c (K b) → Suits c (K' b))
      → ((i : ℕ) → i < m → Sound B n K' (window_after d e i))
      → ((b : ℕ) → b < n → 0 < counts_after writable b → counts_after executable b ≡ 0)
      → ((b : ℕ) → b < n → 0 < counts_after executable b → S' b ≡ true)
      → Consistent B n K' E' S' counts_after
  replaced {K'} carry new exclusive signs = record { counts_are = counts_are_after; sound = sound; exclusive = exclusive; signs = signs } where
    kept : (j : ℕ) → j < block_words * n → (a ≤ j → a + m ≤ j) → Sound B n K' (E' j)
    kept j l o =
        let q = now.sound j l in
        rw (window.same j l o) (record { accepted = q.accepted; inside = q.inside; suits = λ c b h g. carry c b h (counted now c b j h l g) (q.suits c b h g) })

    entered : (j : ℕ) → a ≤ j → j < a + m → Sound B n K' (E' j)
    entered j lo hi =
        let i : a + (j - a) ≡ j = omega arith in
        let q : Sound B n K' (E' (a + (j - a))) = rw (window.after (j - a) (omega arith)) (new (j - a) (omega arith)) in
        rw i at q

    sound : (j : ℕ) → j < block_words * n → Sound B n K' (E' j)
    sound j l =
        ⊎_elim (λ (i : (a ≤ j) × (j < a + m)). entered j i.0 i.1) (kept j l) (window_or_outside j a m)

-- What is left to show of the counters afterwards

and_true_both : (t : Bool) → (t && true && true) ≡ t
and_true_both true = refl
and_true_both false = refl

module _ {B n : ℕ} {K : ℕ → ℕ} {E : ℕ → Entry} {S : ℕ → Bool} {counts : Counter → ℕ → ℕ} (now : Consistent B n K E S counts) where
  -- entries were added, and 11 did not apply
  pub added_exclusive : (b w x : ℕ) → b < n → clash (counts writable b) (counts executable b) w x ≡ false
      → 0 < end_value added (counts writable b) w → end_value added (counts executable b) x ≡ 0
  unfolding clash end_value
  added_exclusive b w x l t h = ⊎_elim (λ (z : 0 < counts executable b + x). both z) (λ (z : counts executable b + x ≤ 0). omega arith) (below_or_above 0 (counts executable b + x)) where
    both : 0 < counts executable b + x → counts executable b + x ≡ 0
    both z =
        let f : (above w 0 || above x 0) ≡ false = sym (and_true_both (above w 0 || above x 0)) ∙ rw (lt-ltb 0 (counts writable b + w) h, lt-ltb 0 (counts executable b + x) z) at t in
        let no-w = ltb-false 0 w (or_false_left (above w 0) (above x 0) f) in
        let no-x = ltb-false 0 x (or_false_right (above w 0) (above x 0) f) in
        omega (arith, now.exclusive b l (omega arith))

  -- entries were removed
  pub removed_exclusive : (b w x : ℕ) → b < n → 0 < end_value removed (counts writable b) w → end_value removed (counts executable b) x ≡ 0
  unfolding end_value
  removed_exclusive b w x l h = omega (arith, now.exclusive b l (omega arith))
