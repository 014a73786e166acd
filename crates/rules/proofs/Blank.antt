-- A table can be made of any block of a memory without entries: no counter is above 0, and faults are neither unaccepted nor misplaced. So
-- from zeros a list of two steps comes to a signed page that one entry alone makes writable.
use mathlib.Core.Bool.{Bool, true, false, not, cond}
use mathlib.Core.List.{List, [], ◌∷◌, ◌++◌}
use mathlib.Core.Logic.{◌⊎◌, inl, inr}
use mathlib.Core.Option.{Option, none}
use mathlib.Core.Path.{◌≡◌, refl, sym, ◌∙◌, ap}
use Prim.Native.Nat.{ℕ, ◌+◌, ◌-◌, ◌*◌, ◌/◌, ◌%◌, ◌<◌, ◌≤◌}
use native.Mathlib.Nat.{zero-add}
use native.Mathlib.Omega.{arith}
use lib.ListN.{get_or, take}
use lib.Dec.{eqb}
use borrow.Author.Tests.{le-ltb}
use Rattle.words.specs.Words.{half}
use Rattle.rules.specs.Map.{first_kind}
use Rattle.words.specs.Bounded.{above, neqb, any, num}
use Rattle.words.proofs.Bounded.{below_or_above, any_avoids, same}
use Rattle.words.proofs.Lists.{length-tabulate}
use Rattle.signature.specs.Sha256.{digest_byte, hash, sha256}
use Rattle.signature.specs.Signed.{digest_bytes, agrees, block_digest, block_message, listed, misfit_image, signed}
use Rattle.entries.specs.Entries.{Entry, fault, Level, l1, l2, entry_at, l1_entry, l2_entry, is_unaccepted, is_link, rights, place_blocks, cover_blocks, is_large}
use Rattle.entries.specs.Rights.{allows}
use Rattle.entries.proofs.RoundTrip.{read_write}
use Rattle.rules.specs.Refusals.{answer_of}
use Rattle.rules.specs.Store.{block_words, Store, blocks, base, Counter, writable, executable, linked, counter, some_counter, some_block, some_region_block, kind_at, unlawful_kinds}
use Rattle.rules.specs.Signature.{contents, signed_block}
use Rattle.rules.specs.Tables.{type_d, type_code, table_blocks, table_entries, pages, typed_entry, table_entry, grants, gain, astray}
use Rattle.rules.specs.Outcomes.{leaving}
use Rattle.rules.specs.Begin.{cached_kinds, begin_refusals, begin_after, begin_outcome}
use Rattle.rules.specs.Create.{some_count, misplaced, unfit_link, unfit_write, clash, clashes, unsigned, create_refusals, create_outcome, create_accepted}
use Rattle.rules.specs.Steps.{Step, creates, maps, obey, run, run_by, Told, typed, after_accepted, after_answer, history}
use Rattle.rules.specs.Demand3.{store_at, told_at}
use Rattle.rules.specs.Policies.{WritableByOneEntry, there_and_back}
use Rattle.rules.proofs.Refusals.{Passed, done, step, accepted}
use Rattle.rules.proofs.Gains.{gives_fault, gain_none}
use Rattle.rules.proofs.State.{inside, recorded, entry_of, Running, settle_accepted}
use Rattle.rules.proofs.Starting.{begin_accepted}
use Rattle.rules.proofs.Passing.{settle_answer, Taken, taken, no_misfit, right_type}
use Rattle.rules.proofs.InTurn.{Alone, map_goes, of_alone}
use Rattle.rules.proofs.Policies.{policies}
use Rattle.rules.proofs.Runs.{answers_append}
use Rattle.rules.proofs.SmallStores.{memory, length_memory, first_entry, rest_entry, ledger, small_store, fit_given}

-- every word is a fault, at either level
abbrev pub Blank : List ℕ → Type 0
Blank memory = (v : Level) (j : ℕ) → entry_at v memory j ≡ fault

blank_typed : (memory : List ℕ) → Blank memory → (t j : ℕ) → typed_entry t memory j ≡ fault
unfolding typed_entry
blank_typed memory blank t j = rw (blank l1 j, blank l2 j) (either (eqb t (type_code l1)) (eqb t (type_code l2))) where
  either : (a b : Bool) → cond a fault (cond b fault fault) ≡ fault
  either true b = refl
  either false true = refl
  either false false = refl

module _ {h : Told} {s : Store} (r : Running h s) (blank : Blank s.memory) where
  blank_uncounted : (c : Counter) (b : ℕ) → b < blocks s → recorded s c b ≡ 0
  blank_uncounted c b l =
      r.consistent.counts_are c b l
      ∙ gain_none (block_words * blocks s) (entry_of (base s) h s.memory) c (base s + b) (λ j _. rw (blank_typed s.memory blank (h.types (base s + j / block_words)) j) (gives_fault c (base s + b)))

  module _ (v : Level) (p : ℕ) (image : misfit_image h.golden ≡ false) (low : base s ≤ p) (high : p + table_blocks v ≤ base s + blocks s) (aligned : p % table_blocks v ≡ 0)
      (free : (k : ℕ) → k < table_blocks v → h.types (p + k) ≡ type_d) where
    abbrev entry : ℕ → Entry
    entry = table_entry v s p

    no_gain : (c : Counter) (q : ℕ) → gain (table_entries v) entry c q ≡ 0
    no_gain c q = gain_none (table_entries v) entry c q (λ i _. rw (blank v _) (gives_fault c q))

    no_count : some_count v s p ≡ false
    unfolding some_count some_counter some_block
    no_count =
        let none : (c : Counter) (k : ℕ) → k < table_blocks v → above (counter c s (p + k)) 0 ≡ false = λ c k l. le-ltb 0 (counter c s (p + k)) (omega (arith, blank_uncounted c (p + k - base s) (omega arith))) in
        any_avoids (λ k. some_counter (λ c. above (counter c s (p + k)) 0)) (table_blocks v) (λ k l. rw (none writable k l, none executable k l, none linked k l) refl)

    no_clash : some_region_block s (clashes s (table_entries v) entry) ≡ false
    unfolding some_block clash
    no_clash = any_avoids (λ k. clashes s (table_entries v) entry (base s + k)) (blocks s) (λ k l. rw (no_gain writable (base s + k), no_gain executable (base s + k)) refl)

    none_unsigned : some_region_block s (unsigned h.golden s (table_entries v) entry) ≡ false
    unfolding some_block
    none_unsigned = any_avoids (λ k. unsigned h.golden s (table_entries v) entry (base s + k)) (blocks s) (λ k l. rw (no_gain executable (base s + k)) refl)

    create_passes : Passed (take 10 (create_refusals v h.golden s p))
    unfolding misplaced unfit_link unfit_write astray is_unaccepted is_link rights cover_blocks place_blocks grants allows
    create_passes =
        step (no_misfit r) (step image (step (inside (base s) (blocks s) p (table_blocks v) low high) (step (same (p % table_blocks v) 0 aligned) (step (right_type r v p type_d low high free) (step no_count
        (step (any_avoids (λ i. is_unaccepted (entry i)) (table_entries v) (λ i _. rw (blank v _) refl))
        (step (any_avoids (λ i. misplaced v s p (entry i)) (table_entries v) (λ i _. rw (blank v _) refl))
        (step no_clash (step none_unsigned done)))))))))

    create_taken : Taken h s (creates v p) (create_accepted v s p).store
    unfolding obey create_outcome
    create_taken = taken r (creates v p) _ (create_accepted v s p) refl create_passes

-- Eight blocks of zeros, and the digest of one of them as golden image

signed_by_own_digest : (p : ℕ) (block : List ℕ) → signed p block (block_digest p block) ≡ true
unfolding signed block_digest listed agrees sha256 any
signed_by_own_digest p block =
    let d = block_digest p block in
    rw (length-tabulate (digest_byte (hash (block_message p block))) 32) (ap not (any_avoids (λ j. neqb (get_or d j 0) (get_or d (digest_bytes * 0 + j) 0)) digest_bytes (λ j l. same (get_or d j 0) (get_or d (0 + j) 0) (ap (λ (k : ℕ). get_or d k 0) (sym (zero-add j))))))

abbrev pub golden : List ℕ
golden = block_digest 5 (contents (memory 0) 5)

pub lawful : misfit_image golden ≡ false
unfolding misfit_image block_digest sha256
lawful = rw (length-tabulate (digest_byte (hash (block_message 5 (contents (memory 0) 5)))) 32) refl

pub page_signed : signed_block golden 0 (memory 0) 5 ≡ true
unfolding signed_block
page_signed = signed_by_own_digest 5 (contents (memory 0) 5)

pub begins_zeros : (begin_outcome (small_store 0 ledger) cached_kinds 0).answer ≡ 0
unfolding begin_outcome unlawful_kinds any kind_at half
begins_zeros = settle_answer _ _ _ ∙ accepted (step (fit_given 0 ledger refl) (step refl (step refl done)))

abbrev pub started : Store
started = (begin_outcome (small_store 0 ledger) cached_kinds 0).after

started_memory : started.memory ≡ memory 0
unfolding begin_outcome
started_memory = ap (λ (x : Store). x.memory) (settle_accepted (small_store 0 ledger) (leaving (begin_after (small_store 0 ledger) cached_kinds 0)) (answer_of (begin_refusals (small_store 0 ledger) cached_kinds 0)) begins_zeros).1

zeros_blank : Blank (memory 0)
unfolding l1_entry l2_entry
zeros_blank v j = go v (below_or_above 0 j) where
  go : (v : Level) → (0 < j) ⊎ (j ≤ 0) → entry_at v (memory 0) j ≡ fault
  go v (inl h) = rest_entry v 0 j h
  go l1 (inr h) = let z : j ≡ 0 = omega arith in rw z (first_entry 0 (omega arith)).0
  go l2 (inr h) = let z : j ≡ 0 = omega arith in rw z (first_entry 0 (omega arith)).1

-- what has been told since the begin, with these types and this table in use
abbrev pub told_of : (ℕ → ℕ) → Option ℕ → Told
told_of types table = record { B = 0; kinds = cached_kinds; types = types; table = table; golden = golden }

-- there are still only zeros
pub record Zeros (types : ℕ → ℕ) (s : Store) : Type 0 where
  pub runs : Running (told_of types none) s
  pub zeros : s.memory ≡ memory 0

pub zeros_started : Zeros (λ b. type_d) started
zeros_started = record { runs = begin_accepted (small_store 0 ledger) cached_kinds 0 golden begins_zeros; zeros = started_memory }

module _ {types : ℕ → ℕ} {s : Store} (z : Zeros types s) where
  pub blank : Blank s.memory
  blank = rw z.zeros zeros_blank

  pub eight : blocks s ≡ 8
  eight = rw (z.zeros, length_memory 0) refl

  pub uncounted : (c : Counter) (b : ℕ) → b < 8 → recorded s c b ≡ 0
  uncounted c b l = blank_uncounted z.runs blank c b (rw eight l)

  pub create_zeros : (v : Level) (p : ℕ) → p + table_blocks v ≤ 8 → p % table_blocks v ≡ 0 → ((k : ℕ) → k < table_blocks v → types (p + k) ≡ type_d)
      → ((obey golden s (creates v p)).answer ≡ 0) × Zeros (typed types p (table_blocks v) (type_code v)) (obey golden s (creates v p)).after
  unfolding after_accepted
  create_zeros v p high aligned free =
      let based = z.runs.told-base in
      let c = create_taken z.runs blank v p lawful (omega arith) (omega (arith, eight)) aligned free in
      (c.accepted, record { runs = c.runs; zeros = ap (λ (x : Store). x.memory) c.leaves ∙ z.zeros })

-- A page mapped writable by one entry

-- an L2 table is made of block 0, and its entry 0 maps block 5 to be read and written
abbrev pub table_and_page : List Step
table_and_page = creates l2 0 ∷ maps pages 0 0 5 3 first_kind ∷ []

abbrev with_l2 : ℕ → ℕ
with_l2 = typed (λ b. type_d) 0 (table_blocks l2) (type_code l2)

tabled_alone : {s : Store} → Zeros with_l2 s → Alone 0 (told_of with_l2 none) s 0 0 5 fault
unfolding typed num is_large
tabled_alone z =
    let n = eight z in
    record {
      table_low = omega arith;
      table_high = omega arith;
      table = refl;
      index = omega arith;
      low = omega arith;
      high = omega arith;
      free = refl;
      signs = rw z.zeros page_signed;
      holds = blank z l2 0;
      only = rw (gives_fault writable 5, gives_fault executable 5, uncounted z writable 5 (omega arith), uncounted z executable 5 (omega arith)) refl;
      not_large = refl;
      holder_unexecuted = uncounted z executable 0 (omega arith);
    }

two_steps : ((run golden started table_and_page).answers ≡ (0 ∷ 0 ∷ [])) × WritableByOneEntry (told_of with_l2 none) (run golden started table_and_page).reached 0 0 5
unfolding run_by
two_steps =
    let (created, z) = create_zeros zeros_started l2 0 (omega arith) refl (λ k l. refl) in
    let m = map_goes z.runs lawful read_write (tabled_alone z) in
    (rw (created, m.accepted) refl, of_alone m.runs m.alone)

-- after two steps there is what `Policies.in-turn` asks for
pub writable_reached : WritableByOneEntry (told_at golden cached_kinds 0 started table_and_page 2) (store_at golden started table_and_page 2) 0 0 5
unfolding history after_answer after_accepted
writable_reached = let (answers-are, one_entry) = two_steps in rw answers-are one_entry

-- and six steps in a row are accepted
pub six_accepted : (run golden started (table_and_page ++ there_and_back 0 0 5)).answers ≡ (0 ∷ 0 ∷ 0 ∷ 0 ∷ 0 ∷ 0 ∷ [])
six_accepted =
    let back = (policies golden (small_store 0 ledger) cached_kinds 0 begins_zeros table_and_page).in_turn lawful 0 0 5 2 writable_reached in
    answers_append golden started table_and_page (there_and_back 0 0 5) ∙ rw (two_steps.0, back) refl
