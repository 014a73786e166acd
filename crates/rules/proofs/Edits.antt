-- A window of a table's entries is changed, in a block that cannot be executed: the words elsewhere keep their entries and no signature is lost.
use mathlib.Core.Bool.{true, false, not, ◌&&◌, ◌||◌, and-false}
use mathlib.Core.List.{List}
use mathlib.Core.Logic.{◌≢◌, ◌⊎◌, inl, ⊎_elim}
use mathlib.Core.Path.{◌≡◌, refl, sym, ◌∙◌, ap}
use Prim.Native.Nat.{ℕ, ◌+◌, ◌-◌, ◌*◌, ◌/◌, ◌%◌, ◌<◌, ◌≤◌}
use native.Mathlib.Nat.{add_assoc}
use native.Mathlib.Decide.{ℕ_discrete}
use native.Mathlib.Omega.{arith}
use borrow.Author.Tests.{le-ltb, ltb-false, leb-false, not-false}
use Rattle.words.specs.Bounded.{above}
use Rattle.words.specs.Words.{word}
use Rattle.words.proofs.Bounded.{any_none, below_or_above}
use Rattle.entries.specs.Entries.{Entry, fault, Level, entry_at, is_fault, run_words}
use Rattle.entries.specs.Written.{word_of}
use Rattle.entries.proofs.Covers.{stands_alone}
use Rattle.entries.proofs.Decoding.{Lone, lone_word}
use Rattle.entries.proofs.RoundTrip.{Encodable}
use Rattle.rules.specs.Store.{block_words, base_place, active_place, Store, blocks, base, writable, executable, counter, fill}
use Rattle.rules.specs.Tables.{type_code, table_blocks, table_entries, Form, sections, pages, larges, mapping_words, word_index, table_entry, gain}
use Rattle.rules.specs.General.{occupied, entered, table_outside, misaligned, beyond_table, other_type, holder, executable_holder, Change, added, end_value, recounted, edited as editedStore}
use Rattle.rules.specs.Create.{clash, clashes}
use Rattle.rules.specs.Steps.{Told}
use Rattle.rules.proofs.Gains.{fault_is}
use Rattle.rules.proofs.Memory.{length-fill, entry_at-fill, entry_at-fill_other, contents-fill, signed_block_same}
use Rattle.rules.proofs.Consistent.{Sound, Replaces, window_before, window_after}
use Rattle.rules.proofs.State.{type_at, signed_at, recorded, MarkedAt, entry_of, Running, equal, within, types_told}
use Rattle.rules.proofs.Tables.{entry_of_table, typed_entry_same}
use Rattle.rules.proofs.Ledger.{OnlyMarks, marks_clear, mark_cleared, mark_clear_other}
use Rattle.rules.proofs.Changes.{Changes, counter_at, end, Leaves, Fresh, length-recounted, head_recounted, kinds_recounted, type_recounted, mark_recounted, counter-recounted}

-- the m words from index i of a table at block p on, of which 2, 3, 4, 5 and 7 hold nothing against
pub record Slot (h : Told) (s : Store) (v : Level) (p i m : ℕ) : Type 0 where
  pub low : base s ≤ p
  pub high : p + table_blocks v ≤ base s + blocks s
  pub typed : (k : ℕ) → k < table_blocks v → h.types (p + k) ≡ type_code v
  pub index : i < table_entries v
  pub in_table : i + m ≤ table_entries v
  pub in_holder : i % block_words + m ≤ block_words
  pub unexecuted : recorded s executable (holder p i - base s) ≡ 0

-- the words of a mapping lie in one block
pub words_in_block : (f : Form) (i : ℕ) → misaligned i (mapping_words f) ≡ false → i % block_words + mapping_words f ≤ block_words
words_in_block sections i t = omega arith
words_in_block pages i t = omega arith
words_in_block larges i t = let multiple = equal (i % run_words) 0 t in omega arith

-- entries outside a window keep their meaning: it is an aligned run, or its entries stand by themselves, before and after
pub data Apart (j m : ℕ) (before after : ℕ → Entry) : Type 0 where
  as_run : j % run_words ≡ 0 → m ≡ run_words → Apart j m before after
  as_singles : ((k : ℕ) → k < m → (stands_alone (before k) ≡ true) × (stands_alone (after k) ≡ true)) → Apart j m before after

module _ {h : Told} {s : Store} (r : Running h s) (v : Level) (p i m : ℕ) where
  pub slot : i % block_words + m ≤ block_words → table_outside v s p ≡ false → beyond_table v i ≡ false → other_type v s p (type_code v) ≡ false → executable_holder s p i ≡ false
      → Slot h s v p i m
  slot whole t2 t4 t5 t7 =
      let (low, high) = within (base s) (blocks s) p (table_blocks v) t2 in
      let i-small = leb-false (table_entries v) i t4 in
      let x-small = ltb-false 0 (counter executable s (holder p i)) t7 in
      record {
        low = low;
        high = high;
        typed = types_told r v p (type_code v) t2 t5;
        index = i-small;
        in_table = omega arith;
        in_holder = whole;
        unexecuted = omega arith;
      }

  -- the entries e, of a memory kind, are added at the window, or removed from it
  abbrev pub edited : ℕ → Change → (ℕ → Entry) → Store
  edited kind d e = editedStore d s p i m e (λ k. word_of kind (window_after d e k))

  module _ (sl : Slot h s v p i m) (kind : ℕ) (d : Change) (e : ℕ → Entry) where
    abbrev w : ℕ → ℕ
    w k = word_of kind (window_after d e k)

    -- the holder, by its place in the region
    abbrev own : ℕ
    own = holder p i - base s

    holder-cleared : OnlyMarks (recounted d s m e) (edited kind d e).ledger
    holder-cleared = marks_clear (recounted d s m e) own

    edit_leaves : Leaves d m e s (edited kind d e) h
    edit_leaves =
        let o = holder-cleared in
        record {
          told-base = r.told-base;
          memory_length = length-fill s.memory (word_index s p i) w m;
          ledger_length = o.length_is ∙ length-recounted d s m e;
          base_is = o.head_is base_place (omega arith) ∙ head_recounted d s m e base_place (omega arith);
          active_is = o.head_is active_place (omega arith) ∙ head_recounted d s m e active_place (omega arith) ∙ r.active_is;
          kinds_are = o.kinds_are ∙ kinds_recounted d s m e ∙ r.kinds_are;
          kinds_lawful = r.kinds_lawful;
          types_are = λ b l. o.type_is b ∙ type_recounted d s m e b ∙ r.types_are b l;
          counters_are = λ c b l small. o.counter_is c b ∙ counter-recounted d s m e r.fit.ledger_length c b l small;
          root = r.root;
        }

    -- a block that is marked afterwards is not the holder, and was marked before
    edit_marks : (b : ℕ) → b < blocks s → MarkedAt (edited kind d e) b → (own ≢ b) × MarkedAt s b
    edit_marks b l k = (other, sym (mark_clear_other (recounted d s m e) own b other ∙ mark_recounted d s m e b) ∙ k) where
      other : own ≢ b
      other q =
          let cleared = mark_cleared (recounted d s m e) own (blocks s) (length-recounted d s m e ∙ r.fit.ledger_length) (omega arith) in
          omega (arith, rw (← q) at k, cleared)

    -- an entry of the window, in a memory
    window_entry : (mem : List ℕ) (k : ℕ) → k < m → entry_of (base s) h mem (word_index s p i + k) ≡ entry_at v mem (word_index s p i + k)
    window_entry mem k l =
        let whole = sl.in_holder in
        entry_of_table (base s) h mem (word_index s p i + k) (holder p i) (omega arith) v (sl.typed (i / block_words) (omega arith))

    -- the entries that stood in the window and those that are written
    module _ (written : Encodable v (word_index s p i) m (window_after d e)) (before : (k : ℕ) → k < m → table_entry v s p (i + k) ≡ window_before d e k)
        (apart : Apart (word_index s p i) m (window_before d e) (window_after d e)) where
      stood : (k : ℕ) → k < m → entry_at v s.memory (word_index s p i + k) ≡ window_before d e k
      stood k l = ap (entry_at v s.memory) (add_assoc (block_words * (p - base s)) i k) ∙ before k l

      stands : (k : ℕ) → k < m → entry_at v (edited kind d e).memory (word_index s p i + k) ≡ window_after d e k
      stands = let f = r.fit.memory_length in entry_at-fill v s.memory (word_index s p i) kind (window_after d e) m written (omega arith)

      -- an entry outside, in a table of this level
      beside : (j : ℕ) → (word_index s p i ≤ j → word_index s p i + m ≤ j) → entry_at v (edited kind d e).memory j ≡ entry_at v s.memory j
      beside j o = entry_at-fill_other s.memory (word_index s p i) w v m j o (lone apart) where
        lone : Apart (word_index s p i) m (window_before d e) (window_after d e) → (k : ℕ) → k < m → (word_index s p i + k) / run_words ≡ j / run_words
            → Lone v (word s.memory (4 * (word_index s p i + k))) × Lone v (word (edited kind d e).memory (4 * (word_index s p i + k)))
        lone (as_run aligned number) k l near = let z : ⊥ = omega (arith, o (omega arith)) in absurd z
        lone (as_singles each) k l near = (
          lone_word v s.memory (word_index s p i + k) (rw (stood k l) (each k l).0),
          lone_word v (edited kind d e).memory (word_index s p i + k) (rw (stands k l) (each k l).1),
        )

      -- an entry outside, of whatever type
      outside_same : (j : ℕ) → (word_index s p i ≤ j → word_index s p i + m ≤ j) → entry_of (base s) h (edited kind d e).memory j ≡ entry_of (base s) h s.memory j
      outside_same j o = go (ℕ_discrete (j / block_words) (word_index s p i / block_words)) where
        go : Dec (j / block_words ≡ word_index s p i / block_words) → entry_of (base s) h (edited kind d e).memory j ≡ entry_of (base s) h s.memory j
        go (yes q) =
            let at : base s + j / block_words ≡ holder p i = omega (arith, sl.low) in
            let typed = sl.typed (i / block_words) (omega (arith, sl.index)) in
            entry_of_table (base s) h (edited kind d e).memory j (holder p i) at v typed ∙ beside j o ∙ sym (entry_of_table (base s) h s.memory j (holder p i) at v typed)
        go (no q) =
            typed_entry_same (edited kind d e).memory s.memory j (λ u. entry_at-fill_other s.memory (word_index s p i) w u m j o (λ k l near. absurd (q (omega (arith, sl.in_holder))))) (h.types (base s + j / block_words))

      edit_replaces : Replaces d (block_words * blocks s) (word_index s p i) m e (entry_of (base s) h s.memory) (entry_of (base s) h (edited kind d e).memory)
      edit_replaces =
          record {
            within = omega (arith, r.fit.memory_length, sl.low, sl.high, sl.in_table);
            before = λ k l. window_entry s.memory k l ∙ stood k l;
            after = λ k l. window_entry (edited kind d e).memory k l ∙ stands k l;
            same = λ j l o. outside_same j o;
          }

    -- no block that can be executed or is marked afterwards has other contents
    edit_keeps : end d s m e executable own ≡ 0 → (b : ℕ) → b < blocks s → (0 < end d s m e executable b) ⊎ MarkedAt (edited kind d e) b
        → signed_at (base s) h (edited kind d e).memory b ≡ signed_at (base s) h s.memory b
    edit_keeps none b l more =
        let mem = s.memory in
        let whole = sl.in_holder in
        let other : own ≢ b = ⊎_elim (λ (x : 0 < end d s m e executable b). λ q. omega (arith, x, rw q at none)) (λ (k : MarkedAt (edited kind d e) b). (edit_marks b l k).0) more in
        signed_block_same h.golden (base s) (fill mem (word_index s p i) m w) mem b (contents-fill mem (word_index s p i) w m b (λ k. omega arith))

    -- the window was as it is before the change, and its holder can't be executed
    pub edits : Encodable v (word_index s p i) m (window_after d e) → ((k : ℕ) → k < m → table_entry v s p (i + k) ≡ window_before d e k)
        → Apart (word_index s p i) m (window_before d e) (window_after d e) → end d s m e executable (holder p i - base s) ≡ 0
        → Changes d (word_index s p i) m e h h s (edited kind d e)
    edits written before apart none =
        record { leaves = edit_leaves; replaces = edit_replaces written before apart; carry = λ c b l k suits. suits; keep = edit_keeps none; marks = λ b l k. inl (edit_marks b l k).1 }

-- Entering entries

-- what m entries may do to the blocks that they cover: 11 and 12 hold nothing against them, and they do not make their holder executable
pub record Harmless (h : Told) (s : Store) (p i m : ℕ) (x : ℕ → Entry) : Type 0 where
  pub write_alone : (b : ℕ) → b < blocks s → 0 < gain m x writable (base s + b) → (gain m x executable (base s + b) ≡ 0) × (recorded s executable b ≡ 0)
  pub execute_alone : (b : ℕ) → b < blocks s → 0 < gain m x executable (base s + b) → recorded s writable b ≡ 0
  pub signs : (b : ℕ) → b < blocks s → 0 < gain m x executable (base s + b) → signed_at (base s) h s.memory b ≡ true
  pub spares_holder : gain m x executable (holder p i) ≡ 0

-- then no block clashes
no_clash : (w e more-w more-e : ℕ) → (0 < more-w → (more-e ≡ 0) × (e ≡ 0)) → (0 < more-e → w ≡ 0) → clash w e more-w more-e ≡ false
unfolding clash
no_clash w e more-w more-e writes executes =
    ⊎_elim
    (λ (l : 0 < more-w). let (none, zero) = writes l in rw (none, zero) (and-false ((above more-w 0 || false) && above (w + more-w) 0)))
    (λ (l : more-w ≤ 0).
    let zero : more-w ≡ 0 = omega arith in
    rw zero (⊎_elim (λ (g : 0 < more-e). rw (executes g, and-false (above more-e 0)) refl) (λ (g : more-e ≤ 0). rw (le-ltb 0 more-e g) refl) (below_or_above 0 more-e)))
    (below_or_above 0 more-w)

module _ {h : Told} {s : Store} (r : Running h s) (v : Level) (p i m : ℕ) (sl : Slot h s v p i m) (x : ℕ → Entry) (harmless : Harmless h s p i m x) where
  clear : (b : ℕ) → b < blocks s → clashes s m x (base s + b) ≡ false
  clear b l =
      rw (counter_at writable s b, counter_at executable s b) (no_clash _ _ _ _ (harmless.write_alone b l) (harmless.execute_alone b l))

  -- entries that suit their targets, written where faults were
  pub enters : (kind : ℕ) → Encodable v (word_index s p i) m x → Apart (word_index s p i) m (λ k. fault) x → occupied v s p i m ≡ false
      → ((k : ℕ) → k < m → Sound (base s) (blocks s) (type_at (base s) h) (x k))
      → Changes added (word_index s p i) m x h h s (entered kind s p i m x) × Fresh m x h h s
  unfolding end_value
  enters kind written apart free sound =
      let at : base s + (holder p i - base s) ≡ holder p i = (let whole = sl.in_holder in omega arith) in
      let was : (k : ℕ) → k < m → table_entry v s p (i + k) ≡ fault = λ k l.
      fault_is (table_entry v s p (i + k)) (not-false (is_fault (table_entry v s p (i + k))) (any_none (λ k. not (is_fault (table_entry v s p (i + k)))) m free k l)) in (
        edits r v p i m sl kind added x written was apart (rw at (omega (arith, sl.unexecuted, harmless.spares_holder))),
        record { sound = sound; clear = clear; signs = harmless.signs },
      )
