-- Free never answers 8 or 10, and unmap 10 never and 8 only at an entry that it is not for: once the block is known to be a table, its entries are among
-- those that the invariant calls sound.
use mathlib.Core.Bool.{Bool, true, false, not, ◌||◌, false≢true}
use mathlib.Core.List.{List}
use mathlib.Core.Logic.{◌≢◌}
use mathlib.Core.Path.{◌≡◌, refl, sym, ◌∙◌, ap}
use Prim.Native.Nat.{ℕ, ◌+◌, ◌-◌, ◌*◌, ◌/◌, ◌%◌, ◌<◌}
use native.Mathlib.Nat.{add_assoc, add-zero}
use native.Mathlib.Omega.{arith}
use lib.ListN.{take, drop}
use borrow.Author.Tests.{leb-false, not-false}
use Rattle.words.specs.Bounded.{any}
use Rattle.words.proofs.Bounded.{any_avoids, true_unless}
use Rattle.entries.specs.Entries.{Entry, fault, unaccepted, link, section, page, large, Level, l1, l2, entry_at, is_fault, is_unaccepted, is_link, is_section, is_page, is_large, large_blocks, run_words}
use Rattle.entries.proofs.Decoding.{l1_no_page, l2_no_link, large_run}
use Rattle.rules.specs.Refusals.{Refusal, answer_of}
use Rattle.rules.specs.Store.{block_words, Store, blocks, base}
use Rattle.rules.specs.Tables.{type_code, table_blocks, table_entries, Form, sections, pages, larges, level, mapping_words, takes, word_index, table_entry, astray}
use Rattle.rules.specs.General.{table_outside, misaligned, beyond_table, other_type}
use Rattle.rules.specs.Free.{free_refusals}
use Rattle.rules.specs.Unmap.{unmap_refusals}
use Rattle.rules.specs.Steps.{Told}
use Rattle.rules.specs.Policies.{for_another}
use Rattle.rules.proofs.Refusals.{now, rest, middle_avoided}
use Rattle.rules.proofs.Consistent.{Sound}
use Rattle.rules.proofs.State.{type_at, Running, within, types_told}
use Rattle.rules.proofs.Tables.{word_block, entry_of_table}
use Rattle.rules.proofs.Edits.{words_in_block}
use Rattle.rules.proofs.Mapping.{word_aligned}

-- the sixteen entries of a table from an index on that is a multiple of 16 are a large page together, if the first of them is an entry of one
pub table_run : (s : Store) (p i : ℕ) → misaligned i (mapping_words larges) ≡ false → is_large (table_entry l2 s p i) ≡ true
    → (b : ℕ) × (r : ℕ) × (b % large_blocks ≡ 0) × ((k : ℕ) → k < run_words → table_entry l2 s p (i + k) ≡ large (b + k) r)
table_run s p i aligned h =
    let (b, r, multiple, each) = large_run s.memory (word_index s p i) (word_aligned larges s p i aligned) h in
    (b, r, multiple, λ k l. ap (entry_at l2 s.memory) (sym (add_assoc (block_words * (p - base s)) i k)) ∙ each k l)

-- entries that are accepted, and that the unmap is for, are taken
module _ (s : Store) (p i : ℕ) where
  abbrev entries : Level → ℕ → Entry
  entries v k = table_entry v s p (i + k)

  pub all_taken : (f : Form) → misaligned i (mapping_words f) ≡ false → any (mapping_words f) (λ k. is_unaccepted (entries (level f) k)) ≡ false
      → for_another f (table_entry (level f) s p i) ≡ false → any (mapping_words f) (λ k. not (takes f (entries (level f) k))) ≡ false
  unfolding takes for_another any is_fault is_unaccepted is_link is_section is_page is_large
  all_taken sections aligned none own = go (entries l1 0) (l1_no_page s.memory (word_index s p (i + 0))) none where
    go : (e : Entry) → (is_page e ≡ false) × (is_large e ≡ false) → is_unaccepted e ≡ false → not (is_fault e || is_section e || is_link e) ≡ false
    go fault h u = refl
    go unaccepted h u = absurd (false≢true (sym u))
    go (link p) h u = refl
    go (section b r) h u = refl
    go (page b r) h u = absurd (false≢true (sym h.0))
    go (large b r) h u = absurd (false≢true (sym h.1))
  all_taken pages aligned none own = go (entries l2 0) (l2_no_link s.memory (word_index s p (i + 0))) none (rw (← add-zero i) at own) where
    go : (e : Entry) → (is_link e ≡ false) × (is_section e ≡ false) → is_unaccepted e ≡ false → is_large e ≡ false → not (is_fault e || is_page e) ≡ false
    go fault h u n = refl
    go unaccepted h u n = absurd (false≢true (sym u))
    go (link p) h u n = absurd (false≢true (sym h.0))
    go (section b r) h u n = absurd (false≢true (sym h.1))
    go (page b r) h u n = refl
    go (large b r) h u n = absurd (false≢true (sym n))
  all_taken larges aligned none own =
      let (b, q, _, each) = table_run s p i aligned (not-false (is_large (table_entry l2 s p i)) own) in
      any_avoids (λ k. not (is_large (entries l2 k))) (mapping_words larges) (λ k l. rw (each k l) refl)

module _ {h : Told} {s : Store} (r : Running h s) where
  -- an entry that may stand in a table
  abbrev Good : Entry → Type 0
  Good = Sound (base s) (blocks s) (type_at (base s) h)

  -- the table at block p, against which 2 and 5 hold nothing
  module _ (v : Level) (p : ℕ) (t2 : table_outside v s p ≡ false) (t5 : other_type v s p (type_code v) ≡ false) where
    table_sound : (i : ℕ) → i < table_entries v → Good (table_entry v s p i)
    table_sound i l =
        let (low, high) = within (base s) (blocks s) p (table_blocks v) t2 in
        let is = entry_of_table (base s) h s.memory (word_index s p i) (p + i / block_words) (word_block (base s) p i low) v (types_told r v p (type_code v) t2 t5 (i / block_words) (omega arith)) in
        rw is at (r.consistent.sound (word_index s p i) (omega arith))

    -- what no sound entry has, none of its entries has
    no_entry : (q : Entry → Bool) → ((e : Entry) → Good e → q e ≡ false) → (m : ℕ) (index : ℕ → ℕ) → ((k : ℕ) → k < m → index k < table_entries v)
        → any m (λ k. q (table_entry v s p (index k))) ≡ false
    no_entry q none m index l = any_avoids (λ k. q (table_entry v s p (index k))) m (λ k k<m. none (table_entry v s p (index k)) (table_sound (index k) (l k k<m)))

    pub none_unaccepted : (m : ℕ) (index : ℕ → ℕ) → ((k : ℕ) → k < m → index k < table_entries v) → any m (λ k. is_unaccepted (table_entry v s p (index k))) ≡ false
    none_unaccepted = no_entry is_unaccepted (λ e good. good.accepted)

    pub none_astray : (m : ℕ) (index : ℕ → ℕ) → ((k : ℕ) → k < m → index k < table_entries v) → any m (λ k. astray (base s) (blocks s) (table_entry v s p (index k))) ≡ false
    none_astray = no_entry (astray (base s) (blocks s)) (λ e good. good.inside)

  pub free_sound : (v : Level) (p : ℕ) → (answer_of (free_refusals v s p) ≢ 8) × (answer_of (free_refusals v s p) ≢ 10)
  free_sound v p = (
    middle_avoided 8 (take 5 rs) (any (table_entries v) (λ i. is_unaccepted (table_entry v s p i))) (drop 6 rs) (λ e. omega arith) (omega arith)
        (λ t. let t2 = rest t in none_unaccepted v p (now t2) (now (rest (rest t2))) (table_entries v) (λ i. i) (λ i l. l)) (omega arith),
    middle_avoided 10 (take 6 rs) (any (table_entries v) (λ i. astray (base s) (blocks s) (table_entry v s p i))) (drop 7 rs) (λ e. omega arith) (omega arith)
        (λ t. let t2 = rest t in none_astray v p (now t2) (now (rest (rest t2))) (table_entries v) (λ i. i) (λ i l. l)) (omega arith),
  ) where
    rs : List Refusal
    rs = free_refusals v s p

  -- what passed the first tests of an unmap
  module _ (f : Form) (p i : ℕ) where
    abbrev rs : List Refusal
    rs = unmap_refusals f s p i

    abbrev entry : ℕ → Entry
    entry k = table_entry (level f) s p (i + k)

    in_table : misaligned i (mapping_words f) ≡ false → beyond_table (level f) i ≡ false → (k : ℕ) → k < mapping_words f → i + k < table_entries (level f)
    in_table t3 t4 k l = omega (arith, leb-false (table_entries (level f)) i t4, words_in_block f i t3)

    own_taken : for_another f (table_entry (level f) s p i) ≡ false → answer_of rs ≢ 8
    own_taken own =
        middle_avoided 8 (take 7 rs) (any (mapping_words f) (λ k. not (takes f (entry k)))) (drop 8 rs) (λ e. omega arith) (omega arith)
        (λ t.
        let t2 = rest t in
        let t3 = rest (rest t2) in
        let t4 = rest t3 in
        all_taken s p i f (now t3) (none_unaccepted (level f) p (now t2) (now (rest t4)) (mapping_words f) (λ k. i + k) (in_table (now t3) (now t4))) own) (omega arith)

    pub unmap_sound : (answer_of rs ≢ 10) × (answer_of rs ≡ 8 → for_another f (table_entry (level f) s p i) ≡ true)
    unmap_sound = (
      middle_avoided 10 (take 8 rs) (any (mapping_words f) (λ k. astray (base s) (blocks s) (entry k))) (drop 9 rs) (λ e. omega arith) (omega arith)
          (λ t.
          let t2 = rest t in
          let t3 = rest (rest t2) in
          let t4 = rest t3 in
          none_astray (level f) p (now t2) (now (rest t4)) (mapping_words f) (λ k. i + k) (in_table (now t3) (now t4))) (omega arith),
      λ e. true_unless (for_another f (table_entry (level f) s p i)) (λ own. own_taken own e),
    )
