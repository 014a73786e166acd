-- The words of a mapping, looked at through the first of them: it says what they give, and to which blocks.
use mathlib.Core.Bool.{Bool, true, false, not, ◌&&◌, and-false}
use mathlib.Core.Logic.{⊎_elim}
use mathlib.Core.Path.{◌≡◌, refl, sym, ◌∙◌, ap, ap₂}
use Prim.Native.Nat.{ℕ, zero, suc, ◌+◌, ◌*◌, ◌/◌, ◌%◌, ◌<◌, ◌≤◌}
use native.Mathlib.Nat.{add-zero, zero-add}
use native.Mathlib.Omega.{arith}
use Rattle.words.specs.Bounded.{any, among, num, sum}
use Rattle.words.proofs.Bounded.{or_left, any_avoids, any_hit, any_same, among_in, among_within, both_ways, false_unless, below_or_above}
use Rattle.entries.specs.Entries.{Entry, large, l2, is_link, is_page, is_large, place_first, place_blocks, cover_first, cover_blocks, covers, rights, large_blocks}
use Rattle.entries.specs.Written.{word_of}
use Rattle.entries.proofs.Covers.{stands_alone, cover_whole, page_alone}
use Rattle.entries.proofs.RoundTrip.{large_word}
use Rattle.rules.specs.Store.{Store, Counter, writable, executable, linked}
use Rattle.rules.specs.Tables.{Form, sections, pages, larges, level, target_blocks, mapping_words, mapping, takes, table_entry, grants, gives, gain, astray}
use Rattle.rules.specs.General.{misaligned}
use Rattle.rules.proofs.Gains.{gain_same}
use Rattle.rules.proofs.Removals.{table_run}
use Rattle.ledger.specs.Counters.{Spreads}
use Rattle.mapping.specs.Needs.{SpeaksFor}

-- the entries of m blocks in a row give each of these what the first grants
module _ (b r : ℕ) (c : Counter) (q : ℕ) where
  row_grants : (k : ℕ) → grants c (large (b + k) r) ≡ grants c (large b r)
  unfolding grants rights is_link
  row_grants k = go c where
    go : (c : Counter) → grants c (large (b + k) r) ≡ grants c (large b r)
    go writable = refl
    go executable = refl
    go linked = refl

  -- one block more
  among_next : (g : Bool) (m : ℕ) → num (g && among b m q) + num (g && among (b + m) 1 q) ≡ num (g && among b (suc m) q)
  unfolding num
  among_next false m = refl
  among_next true m =
      ⊎_elim
      (λ (l : q < b + m).
      let later = false_unless (among (b + m) 1 q) (λ t. let (lo, hi) = among_within (b + m) 1 q t in omega arith) in
      let same = both_ways (among b m q) (among b (suc m) q)
      (λ t. let (lo, hi) = among_within b m q t in among_in b (suc m) q lo (omega arith))
      (λ t. let (lo, hi) = among_within b (suc m) q t in among_in b m q lo l) in
      rw (later, same) (add-zero (num (among b (suc m) q))))
      (λ (l : b + m ≤ q).
      let before = false_unless (among b m q) (λ t. let (lo, hi) = among_within b m q t in omega arith) in
      let same = both_ways (among (b + m) 1 q) (among b (suc m) q)
      (λ t. let (lo, hi) = among_within (b + m) 1 q t in among_in b (suc m) q (omega arith) (omega arith))
      (λ t. let (lo, hi) = among_within b (suc m) q t in among_in (b + m) 1 q l (omega arith)) in
      rw (before, same) (zero-add (num (among b (suc m) q))))
      (below_or_above q (b + m))

  row_gains : (m : ℕ) → gain m (λ k. large (b + k) r) c q ≡ num (grants c (large b r) && among b m q)
  unfolding gain sum num gives covers cover_first cover_blocks
  row_gains zero =
      let none = false_unless (among b 0 q) (λ t. let (lo, hi) = among_within b 0 q t in omega arith) in
      rw (none, and-false (grants c (large b r))) refl
  row_gains (suc m) = ap₂ ◌+◌ (row_gains m) (ap (λ (g : Bool). num (g && among (b + m) 1 q)) (row_grants m)) ∙ among_next (grants c (large b r)) m

-- a mapping gives its target what its first entry grants
pub mapping_spreads : (f : Form) (t r : ℕ) → Spreads (mapping_words f) (mapping f t r) (mapping f t r 0) t (target_blocks f)
unfolding gain sum gives covers cover_first cover_blocks
mapping_spreads sections t r = record { gains = λ c q. omega arith }
mapping_spreads pages t r = record { gains = λ c q. omega arith }
mapping_spreads larges t r = record { gains = λ c q. row_gains t r c q 16 ∙ ap (λ (e : Entry). num (grants c e && among t 16 q)) (ap (λ (b : ℕ). large b r) (sym (add-zero t))) }

-- its words are all alike
pub mapping_words_alike : (f : Form) (kind t r k : ℕ) → t % target_blocks f ≡ 0 → k < mapping_words f → word_of kind (mapping f t r k) ≡ word_of kind (mapping f t r 0)
mapping_words_alike sections kind t r k a l = refl
mapping_words_alike pages kind t r k a l = refl
mapping_words_alike larges kind t r k a l = large_word kind t r k a l ∙ sym (large_word kind t r 0 a (omega arith))

-- an entry that is a mapping's only one, and stands by itself, spreads over its place
alone_spreads : (x : ℕ → Entry) → stands_alone (x 0) ≡ true → Spreads 1 x (x 0) (place_first (x 0)) (place_blocks (x 0))
unfolding gain sum gives covers
alone_spreads x t = let (start, length) = cover_whole (x 0) t in record { gains = λ c q. rw (start, length) (omega arith) }

-- of a mapping of one word the first is all, and speaks for itself
alone_speaks : (f : Form) (x : ℕ → Entry) → mapping_words f ≡ 1 → (takes f (x 0) ≡ true → stands_alone (x 0) ≡ true) → SpeaksFor f (x 0) x
unfolding any
alone_speaks f x one alone = record { taken = rw one refl; placed = λ t B n. rw one refl; spreads = λ t. rw one (alone_spreads x (alone t)) }

-- the first of the sixteen entries of a large page speaks for them
large_speaks : (x : ℕ → Entry) → (is_large (x 0) ≡ true → (b : ℕ) × (r : ℕ) × (b % large_blocks ≡ 0) × ((k : ℕ) → k < 16 → x k ≡ large (b + k) r)) → SpeaksFor larges (x 0) x
unfolding any takes is_large astray place_first place_blocks
large_speaks x run = record { taken = taken (is_large (x 0)) refl; placed = placed; spreads = spreads } where
  taken : (t : Bool) → is_large (x 0) ≡ t → any 16 (λ k. not (is_large (x k))) ≡ not (is_large (x 0))
  taken true e = let (b, r, _, each) = run e in any_avoids (λ k. not (is_large (x k))) 16 (λ k l. rw (each k l) refl) ∙ sym (ap not e)
  taken false e = any_hit (λ k. not (is_large (x k))) 16 0 (omega arith) (ap not e) ∙ sym (ap not e)

  all_alike : (t : Bool) → any 16 (λ k. t) ≡ t
  all_alike true = refl
  all_alike false = refl

  placed : is_large (x 0) ≡ true → (B n : ℕ) → any 16 (λ k. astray B n (x k)) ≡ astray B n (x 0)
  placed e B n =
      let (b, r, multiple, each) = run e in
      let one : (k : ℕ) → k < 16 → astray B n (x k) ≡ astray B n (large b r) = λ k l. let same : (b + k) / large_blocks ≡ b / large_blocks = omega arith in rw (each k l, same) refl in
      any_same (λ k. astray B n (x k)) (λ k. astray B n (large b r)) 16 one ∙ all_alike (astray B n (large b r)) ∙ sym (one 0 (omega arith))

  spreads : is_large (x 0) ≡ true → Spreads 16 x (x 0) (place_first (x 0)) (place_blocks (x 0))
  spreads e =
      let (b, r, multiple, each) = run e in
      let first : x 0 ≡ large b r = each 0 (omega arith) ∙ ap (λ (a : ℕ). large a r) (add-zero b) in
      let start : large_blocks * (b / large_blocks) ≡ b = omega arith in
      rw first (record { gains = λ c q. gain_same 16 x c q (λ k. large (b + k) r) each ∙ row_gains b r c q 16 ∙ rw start refl })

-- the first of the entries that stand at an index, aligned to the mapping's words, speaks for them
pub window_speaks : (f : Form) (s : Store) (p i : ℕ) → misaligned i (mapping_words f) ≡ false → SpeaksFor f (table_entry (level f) s p i) (λ k. table_entry (level f) s p (i + k))
unfolding takes
window_speaks sections s p i aligned =
    rw add-zero at (alone_speaks sections (λ k. table_entry (level sections) s p (i + k)) refl (λ t. or_left _ (is_page (table_entry (level sections) s p (i + 0))) t))
window_speaks pages s p i aligned = rw add-zero at (alone_speaks pages (λ k. table_entry (level pages) s p (i + k)) refl (page_alone (table_entry (level pages) s p (i + 0))))
window_speaks larges s p i aligned = rw add-zero at (large_speaks (λ k. table_entry l2 s p (i + k)) (λ t. table_run s p i aligned (rw add-zero at t)))
