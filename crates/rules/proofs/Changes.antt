-- A call that adds the entries of a window to the tables or removes them runs on, and 13 does not arise: the ledger's counters change by
-- what the window gives, so tables and counters still agree.
use mathlib.Core.Bool.{Bool, true, false}
use mathlib.Core.Logic.{◌⊎◌, inl, inr, ⊎_elim}
use mathlib.Core.Option.{some}
use mathlib.Core.Path.{◌≡◌, refl, sym, ◌∙◌, ap}
use Prim.Native.Nat.{ℕ, ◌+◌, ◌-◌, ◌*◌, ◌/◌, ◌^◌, ◌<◌, ◌≤◌}
use native.Mathlib.Omega.{arith}
use lib.ListN.{length}
use borrow.Author.Tests.{lt-ltb, ltb-true, ltb-false}
use Rattle.words.specs.Bounded.{above}
use Rattle.words.specs.Words.{word}
use Rattle.words.proofs.Bounded.{any_avoids, below_or_above}
use Rattle.entries.specs.Entries.{Entry}
use Rattle.rules.specs.Store.{block_bytes, block_words, ledger_head_bytes, ledger_record_bytes, base_place, active_place, Store, blocks, base, active, kinds_of, unlawful_kinds, record_word, type_word, Counter, writable, executable, linked, counter_word, mark_word, some_counter, counter, some_block}
use Rattle.rules.specs.Tables.{gain, executed}
use Rattle.rules.specs.General.{Change, added, removed, end_value, overruns, some_overrun, recounted, admitting}
use Rattle.rules.specs.Create.{clashes}
use Rattle.rules.specs.Steps.{Told, Root}
use Rattle.rules.proofs.Consistent.{Suits, Sound, sound_fault, Consistent, still, counts_limit, window_after, Replaces, no_overrun, replaced, added_exclusive, removed_exclusive}
use Rattle.rules.proofs.Ledger.{length-recount, head_recount, kinds_recount, type_recount, mark_recount, counter-recount, OnlyMarks, marks_set, mark_set}
use Rattle.rules.proofs.State.{type_at, signed_at, recorded, MarkedAt, fit_same, active_word, entry_of, Inv, Running, running, Goes}

-- a counter by the block's place in the region
pub counter_at : (c : Counter) (s : Store) (b : ℕ) → counter c s (base s + b) ≡ recorded s c b
counter_at c s b = let e : base s + b - base s ≡ b = omega arith in rw e refl

-- a counter that is not above 0
pub counter_none : (c : Counter) (s : Store) (b : ℕ) → above (counter c s (base s + b)) 0 ≡ false → recorded s c b ≡ 0
counter_none c s b e = let zero = ltb-false 0 (counter c s (base s + b)) e in sym (counter_at c s b) ∙ omega arith

-- block b's counter when the m entries e have been added or removed
abbrev pub end : Change → Store → ℕ → (ℕ → Entry) → Counter → ℕ → ℕ
end d s m e c b = end_value d (recorded s c b) (gain m e c (base s + b))

-- what a call leaves beside the entries of the tables
pub record Leaves (d : Change) (m : ℕ) (e : ℕ → Entry) (s after : Store) (h : Told) : Type 0 where
  pub told-base : h.B ≡ base s
  pub memory_length : length after.memory ≡ length s.memory
  pub ledger_length : length after.ledger ≡ length s.ledger
  pub base_is : base after ≡ base s
  pub active_is : active after ≡ active_word h.table
  pub kinds_are : kinds_of after.ledger ≡ h.kinds
  pub kinds_lawful : unlawful_kinds h.kinds ≡ false
  pub types_are : (b : ℕ) → b < blocks s → record_word after.ledger type_word b ≡ type_at (base s) h b
  pub counters_are : (c : Counter) (b : ℕ) → b < blocks s → end d s m e c b < 2 ^ 32 → recorded after c b ≡ end d s m e c b
  pub root : (p : ℕ) → h.table ≡ some p → Root (base s) (blocks s) h.types p

-- the m entries e from word a on are added or removed; h was told before the call and h' is told after it
pub record Changes (d : Change) (a m : ℕ) (e : ℕ → Entry) (h h' : Told) (s after : Store) : Type 0 where
  pub leaves : Leaves d m e s after h'
  pub replaces : Replaces d (block_words * blocks s) a m e (entry_of (base s) h s.memory) (entry_of (base s) h' after.memory)
  -- what was counted suits the types afterwards
  pub carry : (c : Counter) (b : ℕ) → b < blocks s → 0 < recorded s c b → Suits c (type_at (base s) h b) → Suits c (type_at (base s) h' b)
  -- no block that can be executed or is marked afterwards has lost its signature
  pub keep : (b : ℕ) → b < blocks s → (0 < end d s m e executable b) ⊎ MarkedAt after b → signed_at (base s) h' after.memory b ≡ signed_at (base s) h s.memory b
  -- a block that is marked afterwards was so before, or can be executed
  pub marks : (b : ℕ) → b < blocks s → MarkedAt after b → MarkedAt s b ⊎ (0 < end d s m e executable b)

-- and what is added is sound, and neither 11 nor 12 applied
pub record Fresh (m : ℕ) (e : ℕ → Entry) (h h' : Told) (s : Store) : Type 0 where
  pub sound : (i : ℕ) → i < m → Sound (base s) (blocks s) (type_at (base s) h') (e i)
  pub clear : (b : ℕ) → b < blocks s → clashes s m e (base s + b) ≡ false
  pub signs : (b : ℕ) → b < blocks s → 0 < gain m e executable (base s + b) → signed_at (base s) h s.memory b ≡ true

module _ {d : Change} {a m : ℕ} {e : ℕ → Entry} {h h' : Told} {s after : Store} (r : Running h s) (change : Changes d a m e h h' s after) where
  abbrev entries_after : ℕ → Entry
  entries_after = entry_of (base s) h' after.memory

  -- 13 does not arise
  no_13 : some_overrun d s m e ≡ false
  unfolding some_overrun some_block some_counter
  no_13 =
      any_avoids (λ k. some_counter (λ c. overruns d (counter c s (base s + k)) (gain m e c (base s + k)))) (blocks s)
      (λ k l. rw (one writable k l, one executable k l, one linked k l) refl) where
        one : (c : Counter) (k : ℕ) → k < blocks s → overruns d (counter c s (base s + k)) (gain m e c (base s + k)) ≡ false
        one c k l = rw (counter_at c s k) (no_overrun r.consistent d a m e entries_after change.replaces r.fit.at_most c k l)

  changed : ((i : ℕ) → i < m → Sound (base s) (blocks s) (type_at (base s) h') (window_after d e i))
      → ((b : ℕ) → b < blocks s → 0 < end d s m e writable b → end d s m e executable b ≡ 0)
      → ((b : ℕ) → b < blocks s → 0 < end d s m e executable b → signed_at (base s) h s.memory b ≡ true)
      → (granted : ℕ → Bool) → ((b : ℕ) → b < blocks s → 0 < end d s m e writable b → (0 < recorded s writable b) ⊎ (granted (base s + b) ≡ true))
      → Goes granted h' s after
  changed new exclusive signs granted writes =
      record { runs = running state; grows = record { writes = λ b l w. writes b l (rw (ends_as writable b l) at w); marks = λ b l k. rw (ends_as executable b l) (change.marks b l k); same_blocks = ap (λ (x : ℕ). x / block_bytes) change.leaves.memory_length } } where
        agree : Consistent (base s) (blocks s) (type_at (base s) h') entries_after (signed_at (base s) h' after.memory) (end d s m e)
        agree = replaced r.consistent d a m e entries_after change.replaces change.carry new exclusive (λ b l x. change.keep b l (inl x) ∙ signs b l x)

        -- each counter ends as it should
        ends_as : (c : Counter) (b : ℕ) → b < blocks s → recorded after c b ≡ end d s m e c b
        ends_as c b l = change.leaves.counters_are c b l (omega (arith, counts_limit agree r.fit.at_most c b l))

        state : Inv (base s) (blocks s) h' after
        state =
            let l = change.leaves in
            record {
              told-base = l.told-base;
              fit = fit_same after r.fit l.memory_length l.ledger_length;
              base_is = l.base_is;
              active_is = l.active_is;
              kinds_are = l.kinds_are;
              kinds_lawful = l.kinds_lawful;
              types_are = l.types_are;
              root = l.root;
              consistent = still agree (λ j i. refl) (λ b i x. refl) ends_as;
              believed = λ b i k. change.keep b i (inr k) ∙ ⊎_elim (λ (was : MarkedAt s b). r.believed b i was) (signs b i) (change.marks b i k);
            }

module _ {a m : ℕ} {e : ℕ → Entry} {h h' : Told} {s after : Store} (r : Running h s) where
  pub adds : Changes added a m e h h' s after → Fresh m e h h' s → (some_overrun added s m e ≡ false) × Goes (λ q. above (gain m e writable q) 0) h' s after
  unfolding end_value
  adds change fresh =
      let more : Counter → ℕ → ℕ = λ c b. gain m e c (base s + b) in (
        no_13 r change,
        changed r change fresh.sound
            (λ b l. added_exclusive r.consistent b (more writable b) (more executable b) l (rw (counter_at writable s b, counter_at executable s b) at (fresh.clear b l)))
            (λ b l x. ⊎_elim (λ (g : 0 < more executable b). fresh.signs b l g) (λ g. r.consistent.signs b l (omega arith)) (below_or_above 0 (more executable b)))
            (λ q. above (gain m e writable q) 0)
            (λ b l w. ⊎_elim (λ (g : 0 < more writable b). inr (lt-ltb 0 (more writable b) g)) (λ (g : more writable b ≤ 0). inl (omega arith)) (below_or_above 0 (more writable b))),
      )

  pub removes : Changes removed a m e h h' s after → (some_overrun removed s m e ≡ false) × Goes (λ q. false) h' s after
  unfolding end_value
  removes change =
      let more : Counter → ℕ → ℕ = λ c b. gain m e c (base s + b) in (
        no_13 r change,
        changed r change (λ i l. sound_fault (base s) (blocks s) (type_at (base s) h'))
            (λ b l. removed_exclusive r.consistent b (more writable b) (more executable b) l)
            (λ b l x. r.consistent.signs b l (omega arith))
            (λ q. false)
            (λ b l w. inl (omega arith)),
      )

-- the same entries added, and what they execute is marked
module _ {a m : ℕ} {e : ℕ → Entry} {h h' : Told} {s after : Store} (change : Changes added a m e h h' s after) where
  abbrev marking : Store
  marking = (admitting s m e after).store

  only_marks : OnlyMarks after.ledger marking.ledger
  only_marks = marks_set after.ledger (λ b. executed m e (base s + b)) (blocks s)

  marking_marks : (b : ℕ) → MarkedAt marking b → (0 < end added s m e executable b) ⊎ MarkedAt after b
  unfolding end_value
  marking_marks b k =
      ⊎_elim (λ (x : executed m e (base s + b) ≡ true). inl (omega (arith, ltb-true 0 (gain m e executable (base s + b)) x))) (λ (was : MarkedAt after b). inr was)
      (mark_set after.ledger (λ b. executed m e (base s + b)) (blocks s) b k)

  pub admits : Changes added a m e h h' s marking
  admits =
      let l = change.leaves in
      let o = only_marks in
      record {
        leaves = record {
          told-base = l.told-base;
          memory_length = l.memory_length;
          ledger_length = o.length_is ∙ l.ledger_length;
          base_is = o.head_is base_place (omega arith) ∙ l.base_is;
          active_is = o.head_is active_place (omega arith) ∙ l.active_is;
          kinds_are = o.kinds_are ∙ l.kinds_are;
          kinds_lawful = l.kinds_lawful;
          types_are = λ b i. o.type_is b ∙ l.types_are b i;
          counters_are = λ c b i small. o.counter_is c b ∙ l.counters_are c b i small;
          root = l.root;
        };
        replaces = change.replaces;
        carry = change.carry;
        keep = λ b i k. change.keep b i (⊎_elim (λ (x : 0 < end added s m e executable b). inl x) (marking_marks b) k);
        marks = λ b i k. ⊎_elim (λ (x : 0 < end added s m e executable b). inr x) (change.marks b i) (marking_marks b k);
      }

-- The ledger recounted

module _ (d : Change) (s : Store) (m : ℕ) (e : ℕ → Entry) where
  pub length-recounted : length (recounted d s m e) ≡ length s.ledger
  length-recounted = length-recount s.ledger (blocks s) _

  pub head_recounted : (a : ℕ) → a + 4 ≤ ledger_head_bytes → word (recounted d s m e) a ≡ word s.ledger a
  head_recounted = head_recount s.ledger (blocks s) _

  pub kinds_recounted : kinds_of (recounted d s m e) ≡ kinds_of s.ledger
  kinds_recounted = kinds_recount s.ledger (blocks s) _

  pub type_recounted : (b : ℕ) → record_word (recounted d s m e) type_word b ≡ record_word s.ledger type_word b
  type_recounted = type_recount s.ledger (blocks s) _

  pub mark_recounted : (b : ℕ) → record_word (recounted d s m e) mark_word b ≡ record_word s.ledger mark_word b
  mark_recounted = mark_recount s.ledger (blocks s) _

  pub counter-recounted : length s.ledger ≡ ledger_head_bytes + ledger_record_bytes * blocks s → (c : Counter) (b : ℕ) → b < blocks s → end d s m e c b < 2 ^ 32
      → record_word (recounted d s m e) (counter_word c) b ≡ end d s m e c b
  counter-recounted f c b l small = counter-recount s.ledger (blocks s) (blocks s) (end d s m e) f (omega arith) c b l small
