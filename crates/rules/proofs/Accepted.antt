-- After an accepted map or link the entry at its index is what was asked for, no other word has changed, and a walk through it grants
-- exactly its rights: the word that is written reads back, and the entry passed the tests that a walk makes.
use mathlib.Core.Bool.{false}
use mathlib.Core.List.{List}
use mathlib.Core.Path.{◌≡◌, refl, ◌∙◌, ap}
use Prim.Native.Nat.{ℕ, ◌+◌, ◌-◌, ◌*◌, ◌/◌, ◌%◌, ◌<◌, ◌≤◌}
use native.Mathlib.Nat.{add-zero, mod-one}
use native.Mathlib.Omega.{arith}
use lib.ListN.{length}
use borrow.Author.Tests.{leb-false}
use Rattle.words.specs.Words.{bits, word}
use Rattle.entries.specs.Entries.{Entry, link, section, page, large, Level, l1, l2, run_words, entry_at, is_fault, is_unaccepted, rights, place_first, cover_first, place_blocks, cover_blocks, block_tables}
use Rattle.entries.specs.Written.{word_of, kindless}
use Rattle.entries.proofs.RoundTrip.{Encodable}
use Rattle.rules.specs.Refusals.{answer_of}
use Rattle.rules.specs.Outcomes.{leaving}
use Rattle.rules.specs.Store.{block_bytes, block_words, Store, blocks, base, outside}
use Rattle.rules.specs.Tables.{table_blocks, table_entries, Form, sections, pages, larges, level, target_blocks, mapping_words, mapping, word_index, astray, l2_words}
use Rattle.rules.specs.General.{table_outside, beyond_table, entered}
use Rattle.rules.specs.Map.{map_refusals, map_accepted, map_outcome}
use Rattle.rules.specs.Link.{link_to, link_refusals, link_outcome}
use Rattle.rules.specs.Guest.{Walk, ends, passes, ends_at, second_entry, follow, walk}
use Rattle.rules.proofs.Refusals.{passed, passed_front}
use Rattle.rules.proofs.Memory.{length-fill, entry_at-fill, word-fill_other}
use Rattle.rules.proofs.State.{Fit, equal, within, settle_accepted}
use Rattle.rules.proofs.Edits.{words_in_block}
use Rattle.rules.proofs.Linking.{Linkable, linkable, link_written}
use Rattle.rules.proofs.Mapping.{Mappable, mappable, target_inside}

-- the m entries from index i of the table at block p on are x afterwards, and every other word of memory and its length are as before
pub record Entered (v : Level) (s after : Store) (p i m : ℕ) (x : ℕ → Entry) : Type 0 where
  pub decodes : (k : ℕ) → k < m → entry_at v after.memory (word_index s p i + k) ≡ x k
  pub others : (j : ℕ) → (word_index s p i ≤ j → word_index s p i + m ≤ j) → word after.memory (4 * j) ≡ word s.memory (4 * j)
  pub same_length : length after.memory ≡ length s.memory

writes_entries : (kind : ℕ) (v : Level) (s : Store) (p i m : ℕ) (x : ℕ → Entry) → Encodable v (word_index s p i) m x → i % block_words + m ≤ block_words → Fit (base s) (blocks s) s → table_outside v s p ≡ false → beyond_table v i ≡ false
    → (led : List ℕ) → Entered v s (record { memory = (entered kind s p i m x).memory; ledger = led }) p i m x
writes_entries kind v s p i m x written whole fit t2 t4 led =
    let a = word_index s p i in
    let (low, high) = within (base s) (blocks s) p (table_blocks v) t2 in
    let small = leb-false (table_entries v) i t4 in
    record {
      decodes = entry_at-fill v s.memory a kind x m written (omega arith);
      others = word-fill_other s.memory a (λ k. word_of kind (x k)) m;
      same_length = length-fill s.memory a (λ k. word_of kind (x k)) m;
    }

-- an accepted entry whose place is in the region lets a walk on
passes_on : (v : Level) (B n : ℕ) (e : Entry) (onward : Walk) → is_unaccepted e ≡ false → astray B n e ≡ false → is_fault e ≡ false → passes v B n e onward ≡ onward
unfolding passes
passes_on v B n e onward u a f = rw (u, a, f) refl

-- the end of a walk at word a, an L2 entry
abbrev pub passes_end : ℕ → ℕ → List ℕ → ℕ → ℕ → Walk
passes_end B n mem addr a = let e = entry_at l2 mem a in passes l2 B n e (ends_at l2 addr e)

-- a walk through a link goes on in the L2 table to which it leads
walk_link : (B n : ℕ) (mem : List ℕ) (table addr p j : ℕ) → entry_at l1 mem (block_words * (table - B) + bits addr 20 12) ≡ link_to p j → j < block_tables → outside B n p (table_blocks l2) ≡ false
    → walk B n mem table addr ≡ passes_end B n mem addr (block_words * (p - B) + (l2_words * j + bits addr 12 8))
unfolding walk follow is_unaccepted is_fault cover_first place_first cover_blocks place_blocks astray
walk_link B n mem table addr p j through small inside =
    let (low, high) = within B n p (table_blocks l2) inside in
    let q = block_tables * p + j in
    let is : q / 4 ≡ p = omega arith in
    let e = second_entry B mem addr q in
    let at : l2_words * (q - block_tables * B) + bits addr 12 8 ≡ block_words * (p - B) + (l2_words * j + bits addr 12 8) = omega arith in
    rw through (passes_on l1 B n (link q) (passes l2 B n e (ends_at l2 addr e)) refl (rw is inside) refl ∙ ap (passes_end B n mem addr) at)

-- and ends in the block of its entry i, if that covers one block
walk_entry : (B n : ℕ) (mem : List ℕ) (table addr p i : ℕ) (e : Entry) → entry_at l1 mem (block_words * (table - B) + bits addr 20 12) ≡ link_to p (i / l2_words) → bits addr 12 8 ≡ i % l2_words
    → i < table_entries l2 → outside B n p (table_blocks l2) ≡ false → entry_at l2 mem (block_words * (p - B) + i) ≡ e
    → is_unaccepted e ≡ false → astray B n e ≡ false → is_fault e ≡ false → cover_blocks e ≡ 1 → walk B n mem table addr ≡ ends l2 (cover_first e) (rights e)
walk_entry B n mem table addr p i e through at small inside is accepted near no-fault one =
    let index : block_words * (p - B) + (l2_words * (i / l2_words) + bits addr 12 8) ≡ block_words * (p - B) + i = omega arith in
    walk_link B n mem table addr p (i / l2_words) through (omega arith) inside
    ∙ ap (passes_end B n mem addr) index
    ∙ rw is (passes_on l2 B n e (ends_at l2 addr e) accepted near no-fault ∙ rw (one, mod-one (addr / block_bytes), add-zero (cover_first e)) refl)

-- Map

module _ (f : Form) (golden : List ℕ) (s : Store) (p i t r number : ℕ) (accepted : (map_outcome f golden s p i t r number).answer ≡ 0) where
  settled : (Mappable f golden s p i t r) × ((map_outcome f golden s p i t r number).after ≡ (map_accepted f s p i t r number).store)
  unfolding map_outcome
  settled =
      let rs = map_refusals f golden s p i t r number in
      let (zero_is, after_is, _) = settle_accepted s (map_accepted f s p i t r number) (answer_of rs) accepted in
      (mappable f golden s p i t r number (passed_front rs (passed rs (omega arith) zero_is)), after_is)

  pub map_enters : Entered (level f) s (map_outcome f golden s p i t r number).after p i (mapping_words f) (mapping f t r)
  map_enters =
      let (can, after_is) = settled in
      rw after_is (writes_entries _ (level f) s p i (mapping_words f) (mapping f t r) can.written (words_in_block f i can.aligned) can.region can.table_inside can.index_inside _)

-- a walk to the section that was mapped
pub section_grants : (golden : List ℕ) (s : Store) (p i t r number : ℕ) (accepted : (map_outcome sections golden s p i t r number).answer ≡ 0) (addr : ℕ) → bits addr 20 12 ≡ i
    → walk (base s) (blocks s) (map_outcome sections golden s p i t r number).after.memory p addr ≡ ends l1 (t + addr / block_bytes % target_blocks sections) r
unfolding walk follow is_unaccepted is_fault cover_first place_first cover_blocks place_blocks rights
section_grants golden s p i t r number accepted addr at =
    let can = (settled sections golden s p i t r number accepted).0 in
    let is = rw add-zero at ((map_enters sections golden s p i t r number accepted).decodes 0 (omega arith)) in
    let after = (map_outcome sections golden s p i t r number).after.memory in
    rw (at, is) (passes_on l1 (base s) (blocks s) (section t r) (ends_at l1 addr (section t r)) refl (target_inside sections golden s p i t r can.fits_target can.target_aligned 0 (omega arith)) refl)

-- a walk, through a link to its table, to the page that was mapped
pub page_grants : (golden : List ℕ) (s : Store) (p i t r number : ℕ) (accepted : (map_outcome pages golden s p i t r number).answer ≡ 0) (table addr : ℕ)
    → entry_at l1 (map_outcome pages golden s p i t r number).after.memory (word_index s table (bits addr 20 12)) ≡ link_to p (i / l2_words) → bits addr 12 8 ≡ i % l2_words
    → walk (base s) (blocks s) (map_outcome pages golden s p i t r number).after.memory table addr ≡ ends l2 t r
unfolding is_unaccepted is_fault cover_first cover_blocks rights
page_grants golden s p i t r number accepted table addr through at =
    let (can, _) = settled pages golden s p i t r number accepted in
    let small = leb-false (table_entries l2) i can.index_inside in
    let is = rw add-zero at ((map_enters pages golden s p i t r number accepted).decodes 0 (omega arith)) in
    walk_entry (base s) (blocks s) _ table addr p i (page t r) through at (omega arith) can.table_inside is
    refl (target_inside pages golden s p i t r can.fits_target can.target_aligned 0 (omega arith)) refl refl

-- a walk, through a link to the table of its word k, to block k of the large page that was mapped
pub large_grants : (golden : List ℕ) (s : Store) (p i t r number : ℕ) (accepted : (map_outcome larges golden s p i t r number).answer ≡ 0) (k : ℕ) → k < run_words → (table addr : ℕ)
    → entry_at l1 (map_outcome larges golden s p i t r number).after.memory (word_index s table (bits addr 20 12)) ≡ link_to p ((i + k) / l2_words) → bits addr 12 8 ≡ (i + k) % l2_words
    → walk (base s) (blocks s) (map_outcome larges golden s p i t r number).after.memory table addr ≡ ends l2 (t + k) r
unfolding is_unaccepted is_fault cover_first cover_blocks rights
large_grants golden s p i t r number accepted k l table addr through at =
    let (can, _) = settled larges golden s p i t r number accepted in
    let small = leb-false (table_entries l2) i can.index_inside in
    let multiple = equal (i % mapping_words larges) 0 can.aligned in
    let index : word_index s p i + k ≡ word_index s p (i + k) = omega arith in
    let is = rw index at ((map_enters larges golden s p i t r number accepted).decodes k l) in
    walk_entry (base s) (blocks s) _ table addr p (i + k) (large (t + k) r) through at (omega arith) can.table_inside is
    refl (target_inside larges golden s p i t r can.fits_target can.target_aligned k l) refl refl

-- Link

module _ (s : Store) (p i t j : ℕ) (accepted : (link_outcome s p i t j).answer ≡ 0) where
  linked : (Linkable s p i t j) × ((link_outcome s p i t j).after ≡ entered kindless s p i 1 (λ k. link_to t j))
  unfolding link_outcome
  linked =
      let rs = link_refusals s p i t j in
      let (zero_is, after_is, _) = settle_accepted s (leaving (entered kindless s p i 1 (λ k. link_to t j))) (answer_of rs) accepted in
      (linkable s p i t j (passed_front rs (passed rs (omega arith) zero_is)), after_is)

  pub link_enters : Entered l1 s (link_outcome s p i t j).after p i 1 (λ k. link_to t j)
  link_enters =
      let (can, after_is) = linked in
      rw after_is (writes_entries kindless l1 s p i 1 (λ k. link_to t j) (link_written (word_index s p i) can) (omega arith) can.region can.table_inside can.index_inside _)

  -- a walk through the link grants what the entry of the L2 table grants that the address names
  pub link_leads : (addr : ℕ) → bits addr 20 12 ≡ i
      → walk (base s) (blocks s) (link_outcome s p i t j).after.memory p addr
      ≡ passes_end (base s) (blocks s) (link_outcome s p i t j).after.memory addr (block_words * (t - base s) + (l2_words * j + bits addr 12 8))
  link_leads addr at =
      let mem = (link_outcome s p i t j).after.memory in
      walk_link (base s) (blocks s) mem p addr t j (ap (λ (k : ℕ). entry_at l1 mem (word_index s p k)) at ∙ rw add-zero at (link_enters.decodes 0 (omega arith))) linked.0.table linked.0.target_inside
