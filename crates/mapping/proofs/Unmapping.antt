-- What the tests of an unmap say of the entries that it removes, by the first of them.
use mathlib.Core.Bool.{true, false, not}
use mathlib.Core.List.{List, [], ◌∷◌, ◌++◌}
use mathlib.Core.Path.{◌≡◌, sym, ◌∙◌, ap}
use Prim.Native.Nat.{ℕ, ◌+◌}
use native.Mathlib.Omega.{arith}
use borrow.Author.Tests.{lt-ltb, not-false}
use Rattle.words.specs.Bounded.{above, any}
use Rattle.words.proofs.Bounded.{and_false_right}
use Rattle.entries.specs.Entries.{Entry, Level, place_first, place_blocks}
use Rattle.entries.specs.Written.{word_of}
use Rattle.rules.specs.Refusals.{Refusal, ◌if◌, answer_of}
use Rattle.rules.specs.Store.{Store, base, blocks, Counter, fill, misfit_stored, outside}
use Rattle.rules.specs.Tables.{table_blocks, Form, level, mapping_words, takes, word_index, table_entry, astray}
use Rattle.rules.specs.General.{table_outside, misaligned, beyond_table, removed, some_overrun}
use Rattle.rules.specs.Unmap.{unmap_refusals, unmap_after}
use Rattle.rules.proofs.Refusals.{Passed, passed, now, rest}
use Rattle.rules.proofs.Gains.{grants_place}
use Rattle.ledger.specs.Counters.{Spreads}
use Rattle.ledger.specs.Needs.{GrantsInside, Countable}
use Rattle.ledger.proofs.Counting.{countable}
use Rattle.ledger.proofs.Judge.{Decides, decides, here, past, none}
use Rattle.mapping.specs.Needs.{InTable, Slot, SpeaksFor}
use Rattle.mapping.specs.Pieces.{holder_refusals, removal_refusals, slot_refusals}
use Rattle.mapping.proofs.Slots.{mapping_slot}
use Rattle.mapping.proofs.Windows.{window_speaks}

-- an entry whose place is in the region grants nothing outside
pub place_inside : (s : Store) (e : Entry) → astray (base s) (blocks s) e ≡ false → GrantsInside s.memory s.ledger e (place_first e) (place_blocks e)
unfolding astray
place_inside s e t c g =
    and_false_right (above (place_blocks e) 0) (outside (base s) (blocks s) (place_first e) (place_blocks e)) t (lt-ltb 0 (place_blocks e) (grants_place c e g))

-- The tests of the entries x, by the first of them

module _ (f : Form) (s : Store) {e : Entry} {x : ℕ → Entry} (speaks : SpeaksFor f e x) where
  pub judged_8 : takes f e ≡ false → 8 ≡ answer_of (removal_refusals f s x)
  judged_8 t8 = decides (here (speaks.taken ∙ ap not t8))

  module _ (t8 : takes f e ≡ true) where
    from8 : {a : ℕ} → Decides (10 if any (mapping_words f) (λ k. astray (base s) (blocks s) (x k)) ∷ 13 if some_overrun removed s (mapping_words f) x ∷ []) a → a ≡ answer_of (removal_refusals f s x)
    from8 d = decides (past (speaks.taken ∙ ap not t8) d)

    pub judged_10 : astray (base s) (blocks s) e ≡ true → 10 ≡ answer_of (removal_refusals f s x)
    judged_10 t10 = from8 (here (speaks.placed t8 (base s) (blocks s) ∙ t10))

    module _ (t10 : astray (base s) (blocks s) e ≡ false) where
      pub judged_13 : some_overrun removed s (mapping_words f) x ≡ true → 13 ≡ answer_of (removal_refusals f s x)
      judged_13 t13 = from8 (past (speaks.placed t8 (base s) (blocks s) ∙ t10) (here t13))

      pub judged_0 : some_overrun removed s (mapping_words f) x ≡ false → 0 ≡ answer_of (removal_refusals f s x)
      judged_0 t13 = from8 (past (speaks.placed t8 (base s) (blocks s) ∙ t10) (past t13 none))

module _ (f : Form) (s : Store) (p i : ℕ) where
  abbrev entry : ℕ → Entry
  entry k = table_entry (level f) s p (i + k)

  -- the list by its pieces
  abbrev pub pieces : List Refusal
  pieces = slot_refusals f s p i ++ removal_refusals f s entry

  pub unmap_judged : {a : ℕ} → Decides pieces a → a ≡ answer_of (unmap_refusals f s p i)
  unmap_judged d = decides d

  -- the first entry speaks for all
  pub entry_speaks : {e : Entry} → Passed (slot_refusals f s p i) → e ≡ table_entry (level f) s p i → SpeaksFor f e entry
  entry_speaks t1 is = rw is (window_speaks f s p i (now (rest (rest (rest t1)))))

  -- the tests of the words, as the code has their level and number
  pub slot_judged : {v : Level} {m a : ℕ} → v ≡ level f → m ≡ mapping_words f
      → Decides (1 if misfit_stored s ∷ 2 if table_outside v s p ∷ 3 if misaligned p (table_blocks v) ∷ 3 if misaligned i m ∷ 4 if beyond_table v i ∷ holder_refusals v s p i) a
      → a ≡ answer_of (slot_refusals f s p i)
  slot_judged is number d = rw (is, number) at (decides d)

  -- words that have passed lie in a table
  pub slot_table : Passed (slot_refusals f s p i) → InTable (level f) s p i
  slot_table t1 = let t2 = rest t1 in record { fits = now t1; inside = now t2; in_table = now (rest (rest (rest t2))) }

  pub unmap_memory : {m : ℕ} {memory : List ℕ} → m ≡ mapping_words f → memory ≡ fill s.memory (word_index s p i) m (λ k. 0) → memory ≡ (unmap_after f s p i).memory
  unfolding word_of
  unmap_memory number h = rw number at h

  module _ (accepted : answer_of (unmap_refusals f s p i) ≡ 0) where
    all_passed : Passed (unmap_refusals f s p i)
    all_passed = passed (unmap_refusals f s p i) (omega arith) accepted

    last : Passed (removal_refusals f s entry)
    last = rest (rest (rest (rest (rest (rest (rest all_passed))))))

    speaks : SpeaksFor f (table_entry (level f) s p i) entry
    speaks = window_speaks f s p i (now (rest (rest (rest all_passed))))

    first_taken : takes f (table_entry (level f) s p i) ≡ true
    first_taken = not-false (takes f (table_entry (level f) s p i)) (sym speaks.taken ∙ now last)

    pub unmap_spreads : {e : Entry} → e ≡ table_entry (level f) s p i → Spreads (mapping_words f) entry e (place_first e) (place_blocks e)
    unmap_spreads is = rw is (speaks.spreads first_taken)

    pub unmap_ready : {e : Entry} {m q n : ℕ} → e ≡ table_entry (level f) s p i → m ≡ mapping_words f → q ≡ place_first e → n ≡ place_blocks e
        → Slot s p i m × (GrantsInside s.memory s.ledger e q n × ((c : Counter) → Countable removed s.ledger c e q n))
    unmap_ready {e} is number start length =
        let t1 = now all_passed in
        let t3 = rest (rest (rest all_passed)) in
        let table : InTable (level f) s p i = record { fits = t1; inside = now (rest all_passed); in_table = now (rest t3) } in
        let placed : astray (base s) (blocks s) e ≡ false = rw is (sym (speaks.placed first_taken (base s) (blocks s)) ∙ now (rest last)) in
        let inside = place_inside s e placed in
        rw (number, start, length) (
          mapping_slot f (now t3) table,
          (inside, countable removed s e (place_first e) (place_blocks e) (unmap_spreads is) t1 inside (now (rest (rest last)))),
        )
