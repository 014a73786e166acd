-- What the tests of a map say of its words and its target.
use mathlib.Core.Bool.{false, ◌&&◌, ◌||◌}
use mathlib.Core.List.{List, [], ◌∷◌, ◌++◌}
use mathlib.Core.Path.{◌≡◌, sym, ◌∙◌}
use Prim.Native.Nat.{ℕ, ◌%◌, ◌^◌, ◌<◌, ◌≤◌}
use native.Mathlib.Omega.{arith}
use lib.ListN.{length}
use borrow.Author.Tests.{leb-false}
use Rattle.words.specs.Bounded.{neqb, among}
use Rattle.words.proofs.Bounded.{or_false_left}
use Rattle.entries.specs.Entries.{Entry, Level}
use Rattle.entries.specs.Rights.{write, execute, allows, unlawful_rights}
use Rattle.entries.specs.Written.{word_of}
use Rattle.rules.specs.Refusals.{Refusal, ◌if◌, answer_of}
use Rattle.rules.specs.Signature.{image_refusals}
use Rattle.rules.specs.Store.{ledger_head_bytes, kind_count, Store, base, blocks, type_of, Counter, fill, misfit_stored, outside, some_block}
use Rattle.rules.specs.Tables.{type_d, table_blocks, Form, level, target_blocks, mapping_words, mapping, word_index}
use Rattle.rules.specs.General.{table_outside, misaligned, beyond_table, holder, occupied, added}
use Rattle.rules.specs.Map.{no_kind, unfit_target, map_refusals}
use Rattle.rules.proofs.Refusals.{Passed, passed, now, rest}
use Rattle.rules.proofs.State.{equal, fits_stored, within}
use Rattle.rules.proofs.Mapping.{target_above}
use Rattle.rules.proofs.Memory.{fill_same}
use Rattle.ledger.specs.Counters.{Spreads}
use Rattle.ledger.specs.Needs.{GrantsInside, Countable}
use Rattle.ledger.proofs.Counting.{countable}
use Rattle.ledger.proofs.Judge.{Decides, decides}
use Rattle.mapping.specs.Pieces.{holder_refusals, map_place_refusals, map_target_refusals}
use Rattle.mapping.specs.Needs.{InTable, Slot}
use Rattle.mapping.proofs.Slots.{mapping_slot}
use Rattle.mapping.proofs.Windows.{mapping_spreads, mapping_words_alike}

-- 10 does not apply, so the target is in the region
pub unfit_inside : (s : Store) (p i t m r : ℕ) → unfit_target s p i t m r ≡ false → outside (base s) (blocks s) t m ≡ false
unfolding unfit_target
unfit_inside s p i t m r h =
    let out = outside (base s) (blocks s) t m in
    let written = allows r write && some_block t m (λ b. neqb (type_of s b) type_d) in
    let own = allows r execute && among t m (holder p i) in
    or_false_left out written (or_false_left (out || written) own h)

-- a mapping gives its target what its first entry grants, as the code has both
pub map_spreads : (f : Form) (t r : ℕ) {e : Entry} {n : ℕ} → e ≡ mapping f t r 0 → n ≡ target_blocks f → Spreads (mapping_words f) (mapping f t r) e t n
map_spreads f t r is blocks_are = rw (is, blocks_are) (mapping_spreads f t r)

-- The list

module _ (f : Form) (golden : List ℕ) (s : Store) (p i t kind : ℕ) where
  -- the tests of the place, as the code has their numbers
  pub place_judged : {v : Level} {m n a : ℕ} → v ≡ level f → m ≡ target_blocks f → n ≡ mapping_words f
      → Decides (1 if misfit_stored s ∷ image_refusals golden ++ 2 if table_outside v s p ∷ 3 if misaligned p (table_blocks v) ∷ 3 if misaligned t m ∷ 3 if misaligned i n ∷ 4 if beyond_table v i ∷ 4 if no_kind kind ∷ []) a
      → a ≡ answer_of (map_place_refusals f golden s p i t kind)
  place_judged is same number d = rw (is, same, number) at (decides d)

  module _ (passes : Passed (map_place_refusals f golden s p i t kind)) where
    pub map_table : InTable (level f) s p i
    map_table =
        let t2 = rest (rest passes) in record { fits = now passes; inside = now t2; in_table = now (rest (rest (rest (rest t2)))) }

    pub map_slot : Slot s p i (mapping_words f)
    map_slot = mapping_slot f (now (rest (rest (rest (rest (rest passes)))))) map_table

module _ (f : Form) (golden : List ℕ) (s : Store) (p i t r kind : ℕ) where
  -- the list by its pieces
  abbrev pub pieces : Level → ℕ → List Refusal
  pieces v m = map_place_refusals f golden s p i t kind ++ (holder_refusals v s p i ++ (8 if occupied v s p i m ∷ 9 if unlawful_rights r ∷ map_target_refusals f golden s p i t r))

  pub map-judged : {v : Level} {m a : ℕ} → v ≡ level f → m ≡ mapping_words f → Decides (pieces v m) a → a ≡ answer_of (map_refusals f golden s p i t r kind)
  map-judged is number d = rw (is, number) at (decides d)

  module _ (accepted : answer_of (map_refusals f golden s p i t r kind) ≡ 0) where
    all_passed : Passed (pieces (level f) (mapping_words f))
    all_passed = passed (pieces (level f) (mapping_words f)) (omega arith) accepted

    from3 : Passed (3 if misaligned t (target_blocks f) ∷ 3 if misaligned i (mapping_words f) ∷ 4 if beyond_table (level f) i ∷ 4 if no_kind kind ∷ (holder_refusals (level f) s p i ++ (8 if occupied (level f) s p i (mapping_words f) ∷ 9 if unlawful_rights r ∷ map_target_refusals f golden s p i t r)))
    from3 = rest (rest (rest (rest all_passed)))

    from10 : Passed (map_target_refusals f golden s p i t r)
    from10 = rest (rest (rest (rest (rest (rest (rest (rest from3)))))))

    inside : outside (base s) (blocks s) t (target_blocks f) ≡ false
    inside = unfit_inside s p i t (target_blocks f) r (now from10)

    pub map_target : (t < 2 ^ 20) × (t % target_blocks f ≡ 0)
    map_target =
        let fit = fits_stored s (now all_passed) in
        let (lo, hi) = within (base s) (blocks s) t (target_blocks f) inside in
        (omega (arith, target_above f), equal (t % target_blocks f) 0 (now from3))

    -- a head with the kind of this number
    pub map_kind : (ledger_head_bytes ≤ length s.ledger) × (kind < kind_count)
    map_kind = let fit = fits_stored s (now all_passed) in (omega arith, leb-false kind_count kind (now (rest (rest (rest from3)))))

    -- the region, and the target in it
    pub map_region : (e : Entry) {n : ℕ} → n ≡ target_blocks f → (misfit_stored s ≡ false) × GrantsInside s.memory s.ledger e t n
    map_region e blocks_are = rw blocks_are (now all_passed, λ c g. inside)

    pub map_ready : {e : Entry} {m n : ℕ} → e ≡ mapping f t r 0 → m ≡ mapping_words f → n ≡ target_blocks f
        → Slot s p i m × (GrantsInside s.memory s.ledger e t n × ((c : Counter) → Countable added s.ledger c e t n))
    map_ready is number blocks_are =
        let t1 = now all_passed in
        let table : InTable (level f) s p i = record { fits = t1; inside = now (rest (rest all_passed)); in_table = now (rest (rest from3)) } in
        rw (is, number, blocks_are) (
          mapping_slot f (now (rest from3)) table,
          ((λ c g. inside), countable added s (mapping f t r 0) t (target_blocks f) (mapping_spreads f t r) t1 (λ c g. inside) (now (rest (rest (rest from10))))),
        )

  pub map_memory : (value : ℕ) {w m : ℕ} {memory : List ℕ} → t % target_blocks f ≡ 0 → w ≡ word_of value (mapping f t r 0) → m ≡ mapping_words f → memory ≡ fill s.memory (word_index s p i) m (λ k. w)
      → memory ≡ fill s.memory (word_index s p i) (mapping_words f) (λ k. word_of value (mapping f t r k))
  map_memory value aligned is number h = rw (is, number) at h ∙ fill_same s.memory (word_index s p i) (mapping_words f) _ _ (λ k l. sym (mapping_words_alike f value t r k aligned l))
