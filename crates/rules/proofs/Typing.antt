-- Some blocks become a table or data: their words, which were faults or entries of the table, are so the other way round, and all other
-- words and types stay.
use mathlib.Core.Logic.{◌≢◌, ⊎_elim}
use mathlib.Core.Option.{some}
use mathlib.Core.Path.{◌≡◌, refl, sym, ◌∙◌, ap}
use mathlib.Core.List.{List}
use Prim.Native.Nat.{ℕ, ◌+◌, ◌-◌, ◌*◌, ◌/◌, ◌^◌, ◌<◌, ◌≤◌}
use native.Mathlib.Omega.{arith}
use Rattle.words.proofs.Bounded.{window_or_outside, below_or_above}
use Rattle.entries.specs.Entries.{Entry, Level, l1, l2, fault}
use Rattle.rules.specs.Store.{block_words, Store, blocks, base, record_word, Counter, retype, type_word, base_place, active_place}
use Rattle.rules.specs.Tables.{type_d, type_code, table_blocks, table_entries, table_entry, typed_entry}
use Rattle.rules.specs.General.{Change, added, removed, recounted, type_after, retyped}
use Rattle.rules.specs.Steps.{Told, typed, Root}
use Rattle.rules.proofs.Consistent.{Suits, Replaces, window_before, window_after}
use Rattle.rules.proofs.Ledger.{length-retype, head_retype, kinds_retype, counter-retype, type_retype_in, type_retype_out, typed_in, typed_out, mark_retype}
use Rattle.rules.proofs.State.{MarkedAt, type_at, entry_of, Running}
use Rattle.rules.proofs.Tables.{word_block, entry_of_table, entry_of_data}
use Rattle.rules.proofs.Changes.{Leaves, length-recounted, head_recounted, kinds_recounted, type_recounted, counter-recounted, mark_recounted}

-- the type of a table's blocks before create (its entries are added) and free (they are removed)
abbrev pub type_before : Change → Level → ℕ
type_before added v = type_d
type_before removed v = type_code v

small_type : (d : Change) (v : Level) → type_after d v < 2 ^ 32
small_type added l1 = omega arith
small_type added l2 = omega arith
small_type removed v = omega arith

abbrev pub retold : Change → Level → ℕ → Told → Told
retold d v p h = record { B = h.B; kinds = h.kinds; types = typed h.types p (table_blocks v) (type_after d v); table = h.table; golden = h.golden }

module _ (d : Change) (v : Level) (p : ℕ) {h : Told} {s : Store} (r : Running h s) (low : base s ≤ p) (high : p + table_blocks v ≤ base s + blocks s) where
  -- the table's entries, the type that its blocks take, and the first of them
  abbrev e : ℕ → Entry
  e = table_entry v s p

  abbrev t : ℕ
  t = type_after d v

  abbrev b₀ : ℕ
  b₀ = p - base s

  abbrev led : List ℕ
  led = recounted d s (table_entries v) e

  type_retyped : (b : ℕ) → b < blocks s → record_word (retype led b₀ (table_blocks v) t) type_word b ≡ type_at (base s) (retold d v p h) b
  type_retyped b l = ⊎_elim inside outside (window_or_outside b b₀ (table_blocks v)) where
    inside : (b₀ ≤ b) × (b < b₀ + table_blocks v) → record_word (retype led b₀ (table_blocks v) t) type_word b ≡ type_at (base s) (retold d v p h) b
    inside (lo, hi) =
        type_retype_in led b₀ (table_blocks v) t (blocks s) b (length-recounted d s (table_entries v) e ∙ r.fit.ledger_length) (omega arith) (small_type d v) lo hi
        ∙ sym (typed_in h.types p (table_blocks v) t (base s + b) (omega arith) (omega arith))

    outside : (b₀ ≤ b → b₀ + table_blocks v ≤ b) → record_word (retype led b₀ (table_blocks v) t) type_word b ≡ type_at (base s) (retold d v p h) b
    outside o =
        type_retype_out led b₀ (table_blocks v) t b o ∙ type_recounted d s (table_entries v) e b ∙ r.types_are b l
        ∙ sym (typed_out h.types p (table_blocks v) t (base s + b) (λ k. omega (arith, o (omega arith))))

  pub typing_leaves : ((q : ℕ) → h.table ≡ some q → Root (base s) (blocks s) (retold d v p h).types q) → Leaves d (table_entries v) e s (retyped d v s p) (retold d v p h)
  typing_leaves root =
      record {
        told-base = r.told-base;
        memory_length = refl;
        ledger_length = length-retype led b₀ (table_blocks v) t ∙ length-recounted d s (table_entries v) e;
        base_is = head_retype led b₀ (table_blocks v) t base_place (omega arith) ∙ head_recounted d s (table_entries v) e base_place (omega arith);
        active_is = head_retype led b₀ (table_blocks v) t active_place (omega arith) ∙ head_recounted d s (table_entries v) e active_place (omega arith) ∙ r.active_is;
        kinds_are = kinds_retype led b₀ (table_blocks v) t ∙ kinds_recounted d s (table_entries v) e ∙ r.kinds_are;
        kinds_lawful = r.kinds_lawful;
        types_are = type_retyped;
        counters_are = λ c b l small. counter-retype led b₀ (table_blocks v) t c b ∙ counter-recounted d s (table_entries v) e r.fit.ledger_length c b l small;
        root = root;
      }

  pub typing_marks : (b : ℕ) → MarkedAt (retyped d v s p) b → MarkedAt s b
  typing_marks b k = sym (mark_retype led b₀ (table_blocks v) t b ∙ mark_recounted d s (table_entries v) e b) ∙ k

  -- word i of the blocks, when they are data and when they are a table
  module _ (k : Told) (i : ℕ) where
    as_data : k.types (p + i / block_words) ≡ type_d → entry_of (base s) k s.memory (block_words * b₀ + i) ≡ fault
    as_data = entry_of_data (base s) k s.memory (block_words * b₀ + i) (p + i / block_words) (word_block (base s) p i low)

    as_table : k.types (p + i / block_words) ≡ type_code v → entry_of (base s) k s.memory (block_words * b₀ + i) ≡ e i
    as_table = entry_of_table (base s) k s.memory (block_words * b₀ + i) (p + i / block_words) (word_block (base s) p i low) v

  pub typing_replaces : ((k : ℕ) → k < table_blocks v → h.types (p + k) ≡ type_before d v)
      → Replaces d (block_words * blocks s) (block_words * b₀) (table_entries v) e (entry_of (base s) h s.memory) (entry_of (base s) (retold d v p h) s.memory)
  typing_replaces was =
      record {
        within = omega arith;
        before = λ i l. before d i (was (i / block_words) (omega arith));
        after = λ i l. after d i (typed_in h.types p (table_blocks v) t (p + i / block_words) (omega arith) (omega arith));
        same = λ j l o. ap (λ (x : ℕ). typed_entry x s.memory j) (typed_out h.types p (table_blocks v) t (base s + j / block_words) (λ k. omega (arith, o (omega arith))));
      } where
        before : (c : Change) (i : ℕ) → h.types (p + i / block_words) ≡ type_before c v → entry_of (base s) h s.memory (block_words * b₀ + i) ≡ window_before c e i
        before added i = as_data h i
        before removed i = as_table h i

        after : (c : Change) (i : ℕ) → (retold d v p h).types (p + i / block_words) ≡ type_after c v → entry_of (base s) (retold d v p h) s.memory (block_words * b₀ + i) ≡ window_after c e i
        after added i = as_table (retold d v p h) i
        after removed i = as_data (retold d v p h) i

  -- whatever is given to a block that keeps its type suits it
  pub stays : (c : Counter) (b : ℕ) → Suits c (type_at (base s) h b) → (p ≤ base s + b → base s + b < p + table_blocks v → Suits c t) → Suits c (type_at (base s) (retold d v p h) b)
  stays c b suits own = ⊎_elim inside outside (window_or_outside (base s + b) p (table_blocks v)) where
    inside : (p ≤ base s + b) × (base s + b < p + table_blocks v) → Suits c (type_at (base s) (retold d v p h) b)
    inside (lo, hi) = rw (typed_in h.types p (table_blocks v) t (base s + b) lo hi) (own lo hi)

    outside : (p ≤ base s + b → p + table_blocks v ≤ base s + b) → Suits c (type_at (base s) (retold d v p h) b)
    outside o = rw (typed_out h.types p (table_blocks v) t (base s + b) o) suits

  -- the table that was switched to stays if no block of it changes its type
  pub root_stays : (q : ℕ) → h.table ≡ some q → ((x : ℕ) → p ≤ x → x < p + table_blocks v → q ≤ x → x < q + table_blocks l1 → ⊥) → Root (base s) (blocks s) (retold d v p h).types q
  root_stays q z apart =
      let root = r.root q z in
      record {
        low = root.low;
        high = root.high;
        aligned = root.aligned;
        typed = λ i l. typed_out h.types p (table_blocks v) t (q + i) (λ lo. ⊎_elim (λ (hi : q + i < p + table_blocks v). absurd (apart (q + i) lo hi (omega arith) (omega arith))) (λ hi. hi) (below_or_above (q + i) (p + table_blocks v))) ∙ root.typed i l;
      }

-- a block of a table of another type is no block of the table that was switched to
pub other_table : (types : ℕ → ℕ) (p q m t x : ℕ) → ((k : ℕ) → k < m → types (p + k) ≡ t) → ((i : ℕ) → i < table_blocks l1 → types (q + i) ≡ type_code l1) → t ≢ type_code l1
    → p ≤ x → x < p + m → q ≤ x → x < q + table_blocks l1 → ⊥
other_table types p q m t x was root n lo hi lo' hi' =
    let i : p + (x - p) ≡ x = omega arith in
    let j : q + (x - q) ≡ x = omega arith in
    n (sym (was (x - p) (omega arith)) ∙ ap types (i ∙ sym j) ∙ root (x - q) (omega arith))
