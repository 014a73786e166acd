-- Every number that map large and unmap large may answer is an answer: up to 8 it is computed on a small store, which has no room for a large page,
-- and from 9 on it follows in 256 blocks, of which block 4 is an L2 block.
use mathlib.Core.Bool.{true, false, not, or-true}
use mathlib.Core.List.{List, [], ◌∷◌}
use mathlib.Core.Logic.{◌≢◌}
use mathlib.Core.Path.{◌≡◌, refl, ◌∙◌, ap}
use Prim.Native.Nat.{ℕ, ◌+◌, ◌-◌, ◌*◌, ◌/◌, ◌%◌, ◌^◌, ◌<◌, ◌≤◌}
use native.Mathlib.Omega.{arith}
use lib.Dec.{eqb}
use lib.ListN.{length, drop, replicate}
use borrow.Author.Tests.{lt-ltb}
use Rattle.words.specs.Lists.{part}
use Rattle.words.specs.Bounded.{above, neqb, any}
use Rattle.words.specs.Words.{bits, word, put_word}
use Rattle.words.proofs.Bounded.{any_avoids, any_hit, same}
use Rattle.signature.specs.Signed.{misfit_image}
use Rattle.entries.specs.Entries.{Entry, fault, large, l1, l2, large_blocks, run_words, entry_at, l2_entry, is_page_form, is_large_form, is_fault, is_page, is_large, rights, place_first, place_blocks, cover_first, cover_blocks, covers}
use Rattle.entries.specs.Needs.{IsLargeStart}
use Rattle.entries.specs.Written.{word_of, kindless}
use Rattle.entries.specs.Rights.{allows, unlawful_rights}
use Rattle.entries.proofs.RoundTrip.{Grantable, read, read_write, a_link, singly, in_run}
use Rattle.entries.proofs.Decoding.{entry_at_cong}
use Rattle.rules.specs.Refusals.{answer_of}
use Rattle.rules.specs.Store.{mark_word, mark_value, marked, block_bytes, block_words, ledger_head_bytes, ledger_record_bytes, counter_limit, base_place, Store, blocks, base, put_record_word, record_word, retype, type_word, type_of, Counter, writable, executable, counter_word, counter, some_counter, fill, outside, some_block, kinds_bytes, kinds_of}
use Rattle.rules.specs.Outcomes.{settle}
use Rattle.rules.specs.Tables.{type_d, type_code, l2_words, pages, larges, mapping, takes, word_index, table_entry, grants, gives, gain, astray}
use Rattle.rules.specs.Signature.{unknown}
use Rattle.rules.specs.General.{Change, added, removed, end_value, ends_below, overruns, some_overrun}
use Rattle.rules.specs.Map.{unfit_target, clashing_target, unsigned_target, map_refusals, map_outcome, first_kind}
use Rattle.rules.specs.Link.{link_to}
use Rattle.rules.specs.Guest.{ends, walk}
use Rattle.rules.specs.Unmap.{unmap_refusals, unmap_outcome}
use Rattle.rules.specs.Steps.{maps, unmaps, obey}
use Rattle.rules.proofs.Refusals.{Decides, here, past, none}
use Rattle.rules.proofs.Gains.{gain-most, gain_hit}
use Rattle.rules.proofs.Memory.{length-fill, word-fill_other, entry_at-fill}
use Rattle.rules.proofs.Accepted.{map_enters, large_grants}
use Rattle.rules.proofs.State.{inside, some_block_hit, some_counter_hit}
use Rattle.rules.proofs.Ledger.{InRecord, counter_in_record, counter_not_type, length-put_record_word, head_put_record_word, record_word_put_same, record_word_put_other, counter-retype, type_retype_out, mark_retype, kinds_put_record_word}
use Rattle.rules.proofs.Acceptance.{Ready, Vacant, ReadTarget, nothing_gained, reads_give_nothing, map_from_9, map_accepted_lem, unmap_from_8}
use Rattle.rules.proofs.Edges.{blank_ledger, wide, wide_blocks, wide_table, length_wide, wide_base, wide_kinds}
use Rattle.rules.proofs.SmallStores.{zeros, length-zeros, zero_entry, zero_record, unsigned, length_memory, first_entry, ledger, small_store, fit, unfit, one_l2}
use Rattle.rules.proofs.Witnesses.{answers}

-- On eight blocks

-- a table outside; an index, or a target, that is no multiple of 16; an index beyond the table; a block of data
numbers_2_to_5 : answers [] (small_store 0 ledger)
    (maps larges 8 0 0 0 first_kind ∷ maps larges 0 1 0 0 first_kind ∷ maps larges 0 0 1 0 first_kind ∷ maps larges 0 1024 0 0 first_kind ∷ maps larges 0 0 0 0 first_kind
    ∷ unmaps larges 8 0 ∷ unmaps larges 0 1 ∷ unmaps larges 0 1024 ∷ unmaps larges 0 0 ∷ [])
    ≡ (2 ∷ 3 ∷ 3 ∷ 4 ∷ 5 ∷ 2 ∷ 3 ∷ 4 ∷ 5 ∷ [])
unfolding answers obey map_outcome unmap_outcome settle answer_of outside some_block any record_word word misfit_image kinds_of part
numbers_2_to_5 = rw (fit 0 ledger (refl, refl) refl, length_memory 0) refl

number_1 : answers [] (small_store 0 (put_word ledger base_place 1)) (maps larges 0 0 0 0 first_kind ∷ unmaps larges 0 0 ∷ []) ≡ (1 ∷ 1 ∷ [])
unfolding answers obey map_outcome unmap_outcome settle answer_of word put_word
number_1 = rw (unfit 0 (put_word ledger base_place 1) refl refl) refl

number_1_image : answers (0 ∷ []) (small_store 0 ledger) (maps larges 0 0 0 0 first_kind ∷ []) ≡ (1 ∷ [])
unfolding answers obey map_outcome settle answer_of misfit_image word kinds_of part
number_1_image = rw (fit 0 ledger (refl, refl) refl) refl

number_7 : answers [] (small_store 0 (put_record_word one_l2 (counter_word executable) 0 1)) (maps larges 0 0 0 0 first_kind ∷ unmaps larges 0 0 ∷ []) ≡ (7 ∷ 7 ∷ [])
unfolding answers obey map_outcome unmap_outcome settle answer_of outside some_block any record_word put_record_word word put_word misfit_image kinds_of part
number_7 = rw (fit 0 (put_record_word one_l2 (counter_word executable) 0 1) (refl, refl) refl, length_memory 0) refl

-- a page among the sixteen entries; sixteen faults
number_8 : (answers [] (small_store 0x1F one_l2) (maps larges 0 0 0 0 first_kind ∷ []) ≡ (8 ∷ [])) × (answers [] (small_store 0 one_l2) (unmaps larges 0 0 ∷ []) ≡ (8 ∷ []))
unfolding answers obey map_outcome unmap_outcome settle answer_of outside some_block any record_word put_record_word word put_word misfit_image l2_entry is_page_form is_large_form is_fault is_large takes kinds_of part
number_8 =
    let (_, e) = first_entry 0x1F (omega arith) in
    let (_, f) = first_entry 0 (omega arith) in
    (rw (fit 0x1F one_l2 (refl, refl) refl, length_memory 0x1F, e) refl, rw (fit 0 one_l2 (refl, refl) refl, length_memory 0, f) refl)

-- In 256 blocks

-- the ledger of `wide`: an L1 table, an L2 block, and data with no counts
wide_type_4 : record_word wide.ledger type_word 4 ≡ type_code l2
unfolding word put_word record_word put_record_word retype
wide_type_4 = refl

wide_type : (b : ℕ) → 5 ≤ b → record_word wide.ledger type_word b ≡ type_d
wide_type b h =
    record_word_put_other (retype blank_ledger 0 4 (type_code l1)) type_word 4 (type_code l2) type_word b (omega arith) (omega arith) (λ e _. omega arith)
    ∙ type_retype_out blank_ledger 0 4 (type_code l1) b (λ _. omega arith) ∙ zero_record (ledger_head_bytes + ledger_record_bytes * 256) type_word b

wide_counter : (c : Counter) (b : ℕ) → record_word wide.ledger (counter_word c) b ≡ 0
wide_counter c b =
    record_word_put_other (retype blank_ledger 0 4 (type_code l1)) type_word 4 (type_code l2) (counter_word c) b (omega arith) (counter_in_record c) (λ _. counter_not_type c)
    ∙ counter-retype blank_ledger 0 4 (type_code l1) c b ∙ zero_record (ledger_head_bytes + ledger_record_bytes * 256) (counter_word c) b

wide_mark : (b : ℕ) → record_word wide.ledger mark_word b ≡ 0
wide_mark b =
    record_word_put_other (retype blank_ledger 0 4 (type_code l1)) type_word 4 (type_code l2) mark_word b (omega arith) (omega arith) (λ _ z. omega arith)
    ∙ mark_retype blank_ledger 0 4 (type_code l1) b ∙ zero_record (ledger_head_bytes + ledger_record_bytes * 256) mark_word b

-- the same with this w of block 20, and a memory
abbrev writes_to20 : ℕ → List ℕ
writes_to20 count = put_record_word wide.ledger (counter_word writable) 20 count

abbrev wide_store : List ℕ → ℕ → Store
wide_store mem count = record { memory = mem; ledger = writes_to20 count }

module _ (mem : List ℕ) (long : length mem ≡ block_bytes * 256) (count : ℕ) where
  abbrev s : Store
  s = wide_store mem count

  based : base s ≡ 0
  based = head_put_record_word wide.ledger (counter_word writable) 20 count base_place (omega arith) ∙ wide_base

  length_ledger : length (writes_to20 count) ≡ ledger_head_bytes + ledger_record_bytes * 256
  length_ledger = length-put_record_word wide.ledger (counter_word writable) 20 count ∙ length_wide

  zero_kinds : kinds_of (writes_to20 count) ≡ replicate kinds_bytes 0
  zero_kinds = kinds_put_record_word wide.ledger (counter_word writable) 20 count ∙ wide_kinds

  size : blocks s ≡ 256
  size = wide_blocks s long length_ledger based zero_kinds

  -- a word of a record other than the w of block 20
  kept : (k b : ℕ) → InRecord k → (20 ≡ b → counter_word writable ≢ k) → record_word (writes_to20 count) k (b - base s) ≡ record_word wide.ledger k b
  kept k b in_record other =
      let at : b - base s ≡ b = omega (arith, based) in
      ap (record_word (writes_to20 count) k) at ∙ record_word_put_other wide.ledger (counter_word writable) 20 count k b (omega arith) in_record other

  is_data : (b : ℕ) → 5 ≤ b → type_of s b ≡ type_d
  is_data b h = kept type_word b (omega arith) (λ _ z. omega arith) ∙ wide_type b h

  unexecuted : (b : ℕ) → counter executable s b ≡ 0
  unexecuted b = kept (counter_word executable) b (omega arith) (λ _ z. omega arith) ∙ wide_counter executable b

  unwritten : (b : ℕ) → 20 < b → counter writable s b ≡ 0
  unwritten b h = kept (counter_word writable) b (omega arith) (λ e _. omega arith) ∙ wide_counter writable b

  unmarked : (b : ℕ) → marked s b ≡ false
  unmarked b = ap (λ (x : ℕ). eqb x mark_value) (kept mark_word b (omega arith) (λ _ z. omega arith) ∙ wide_mark b)

  written : count < 2 ^ 32 → counter writable s 20 ≡ count
  written h = rw based (record_word_put_same wide.ledger (counter_word writable) 20 count (omega arith) 256 length_wide (omega arith) h)

  ready : Ready l2 s 4 0
  ready = wide_table s long length_ledger based zero_kinds l2 4 0 (omega arith) refl (λ k l. let z : k ≡ 0 = omega arith in rw z (kept type_word 4 (omega arith) (λ _ e. omega arith) ∙ wide_type_4)) (unexecuted 4)

  readable : (r : ℕ) → r ≤ 1 → ReadTarget larges [] s 16 r
  unfolding misfit_image
  readable r l = record { image = refl; low = omega (arith, based); high = omega (arith, based, size); aligned = refl; reads = l }

  -- a target from block 5 on is data, and nothing in it is executable; from block 21 on nothing is writable either
  module _ (t : ℕ) where
    in_region : t + 16 ≤ 256 → outside (base s) (blocks s) t 16 ≡ false
    in_region h = inside (base s) (blocks s) t 16 (omega (arith, based)) (omega (arith, based, size))

    all_data : 5 ≤ t → some_block t 16 (λ b. neqb (type_of s b) type_d) ≡ false
    unfolding some_block
    all_data h = any_avoids (λ k. neqb (type_of s (t + k)) type_d) 16 (λ k l. same _ _ (is_data (t + k) (omega arith)))

    none_executable : some_block t 16 (λ b. above (counter executable s b) 0) ≡ false
    unfolding some_block
    none_executable = any_avoids (λ k. above (counter executable s (t + k)) 0) 16 (λ k l. rw (unexecuted (t + k)) refl)

    none_writable : 20 < t → some_block t 16 (λ b. above (counter writable s b) 0) ≡ false
    unfolding some_block
    none_writable h = any_avoids (λ k. above (counter writable s (t + k)) 0) 16 (λ k l. rw (unwritten (t + k) (omega arith)) refl)

  -- sixteen entries change the w of block 20 beyond its bounds
  overrun : (d : Change) (e : ℕ → Entry) → count < 2 ^ 32 → overruns d count (gain 16 e writable 20) ≡ true → some_overrun d s 16 e ≡ true
  unfolding some_overrun
  overrun d e h over =
      some_block_hit (base s) (blocks s) (λ b. some_counter (λ c. overruns d (counter c s b) (gain 16 e c b))) 20 (omega (arith, based)) (omega (arith, based, size))
      (some_counter_hit (λ c. overruns d (counter c s 20) (gain 16 e c 20)) writable (rw (written h) over))

-- Map large, where block 4 has sixteen faults

abbrev empty : List ℕ
empty = zeros (block_bytes * 256)

abbrev vacant : ℕ → Store
vacant count = wide_store empty count

long : length empty ≡ block_bytes * 256
long = length-zeros (block_bytes * 256)

room : (count : ℕ) → Vacant larges (vacant count) 4 0
room count = record { ready = ready empty long count; empty = λ k l. zero_entry l2 (block_bytes * 256) _ }

map_0 : (map_outcome larges [] (vacant 0) 4 0 16 0 first_kind).answer ≡ 0
map_0 = map_accepted_lem larges 0 refl first_kind (room 0) (omega arith) (omega arith) (readable empty long 0 0 (omega arith))

-- what follows 8 decides, for a target that is a multiple of 16
map_wide : (count t r : ℕ) {k : ℕ} → t % 16 ≡ 0 → Decides (drop 11 (map_refusals larges [] (vacant count) 4 0 t r first_kind)) k → (map_outcome larges [] (vacant count) 4 0 t r first_kind).answer ≡ k
unfolding misfit_image
map_wide count t r aligned d = map_from_9 larges 0 refl [] t r first_kind (room count) (omega arith) (omega arith) refl aligned d

map_9 : (map_outcome larges [] (vacant 0) 4 0 16 2 first_kind).answer ≡ 9
unfolding unlawful_rights allows
map_9 = map_wide 0 16 2 refl (here refl)

-- a target outside; one with a table, to be written; one with the holder, to be executed
map_10_outside : (map_outcome larges [] (vacant 0) 4 0 256 0 first_kind).answer ≡ 10
unfolding unlawful_rights allows unfit_target outside
map_10_outside = map_wide 0 256 0 refl (past refl (here (rw (based empty long 0, size empty long 0) refl)))

map_10_table : (map_outcome larges [] (vacant 0) 4 0 0 3 first_kind).answer ≡ 10
unfolding unlawful_rights allows unfit_target
map_10_table =
    let s = vacant 0 in
    let hit = some_block_hit 0 16 (λ b. neqb (type_of s b) type_d) 4 (omega arith) (omega arith) (rw ((ready empty long 0).typed 0 (omega arith)) refl) in
    map_wide 0 0 3 refl (past refl (here (rw (in_region empty long 0 0 (omega arith), hit) refl)))

map_10_holder : (map_outcome larges [] (vacant 0) 4 0 0 5 first_kind).answer ≡ 10
unfolding unlawful_rights allows unfit_target
map_10_holder = map_wide 0 0 5 refl (past refl (here (rw (in_region empty long 0 0 (omega arith)) refl)))

-- write and execute at once
map_11 : (map_outcome larges [] (vacant 0) 4 0 16 7 first_kind).answer ≡ 11
unfolding unlawful_rights allows unfit_target clashing_target
map_11 = map_wide 0 16 7 refl (past refl (past (rw (in_region empty long 0 16 (omega arith), all_data empty long 0 16 (omega arith)) refl) (here refl)))

map_12 : (map_outcome larges [] (vacant 0) 4 0 32 5 first_kind).answer ≡ 12
unfolding unlawful_rights allows unfit_target clashing_target unsigned_target unknown
map_12 =
    let s = vacant 0 in
    map_wide 0 32 5 refl (past refl (past (rw (in_region empty long 0 32 (omega arith)) refl) (past (rw (none_writable empty long 0 32 (omega arith)) refl)
    (here (some_block_hit 32 16 (unknown [] s) 32 (omega arith) (omega arith) (rw (unmarked empty long 0 32, unsigned empty (base s) 32) refl))))))

-- the w of block 20 is at the limit already
map_13 : (map_outcome larges [] (vacant counter_limit) 4 0 16 3 first_kind).answer ≡ 13
unfolding unlawful_rights allows unfit_target clashing_target unsigned_target gives grants rights covers cover_first cover_blocks overruns ends_below end_value
map_13 =
    let e : ℕ → Entry = mapping larges 16 3 in
    let W = gain 16 e writable 20 in
    let more = gain_hit 16 e writable 20 4 (omega arith) refl in
    map_wide counter_limit 16 3 refl (past refl (past (rw (in_region empty long counter_limit 16 (omega arith), all_data empty long counter_limit 16 (omega arith)) refl)
    (past (rw (none_executable empty long counter_limit 16) refl) (past refl
    (here (overrun empty long counter_limit added e (omega arith) (rw (lt-ltb 0 W more, lt-ltb counter_limit (counter_limit + W) (omega arith)) refl)))))))

-- Unmap large, where the first sixteen words of block 4 are a large page

-- its words, and the entries that they are
abbrev mapped : ℕ → ℕ → List ℕ
mapped t r = fill empty (block_words * 4) run_words (λ k. word_of 0 (large (t + k) r))

module _ (t r : ℕ) (start : IsLargeStart t) (g : Grantable r) (count : ℕ) where
  abbrev held : Store
  held = wide_store (mapped t r) count

  long_mapped : length (mapped t r) ≡ block_bytes * 256
  long_mapped = length-fill empty (block_words * 4) (λ k. word_of 0 (large (t + k) r)) run_words ∙ long

  entries : (k : ℕ) → k < run_words → table_entry l2 held 4 (0 + k) ≡ large (t + k) r
  entries k l =
      let at : word_index held 4 (0 + k) ≡ block_words * 4 + k = omega (arith, based (mapped t r) long_mapped count) in
      ap (entry_at l2 (mapped t r)) at
      ∙ entry_at-fill l2 empty (block_words * 4) 0 (λ k. large (t + k) r) run_words (in_run refl start g (λ k. refl)) (rw long (omega arith)) k l

  -- what follows 8 decides
  unmap_wide : {k : ℕ} → Decides (drop 8 (unmap_refusals larges held 4 0)) k → (unmap_outcome larges held 4 0).answer ≡ k
  unfolding takes is_large
  unmap_wide d =
      unmap_from_8 larges 0 refl (ready (mapped t r) long_mapped count) (omega arith) (past (any_avoids (λ k. not (takes larges (table_entry l2 held 4 (0 + k)))) run_words (λ k l. rw (entries k l) refl)) d)

  -- and what follows 10, if it lies in the region
  unmap_inside : {k : ℕ} → t + 16 ≤ 256 → Decides (drop 9 (unmap_refusals larges held 4 0)) k → (unmap_outcome larges held 4 0).answer ≡ k
  unfolding astray place_first place_blocks
  unmap_inside h d = unmap_wide (past (any_avoids (λ k. astray (base held) (blocks held) (table_entry l2 held 4 (0 + k))) run_words near) d) where
    near : (k : ℕ) → k < run_words → astray (base held) (blocks held) (table_entry l2 held 4 (0 + k)) ≡ false
    near k l =
        let first : large_blocks * ((t + k) / large_blocks) ≡ t = omega arith in
        rw (entries k l, first, in_region (mapped t r) long_mapped count t h) refl

  -- unmap L2 does not take it
  unmap_page_8 : (unmap_outcome pages held 4 0).answer ≡ 8
  unfolding takes is_fault is_page
  unmap_page_8 =
      unmap_from_8 pages 0 refl (ready (mapped t r) long_mapped count) (omega arith)
      (here (any_hit (λ k. not (takes pages (table_entry l2 held 4 (0 + k)))) 1 0 (omega arith) (rw (entries 0 (omega arith)) refl)))

starts : IsLargeStart 16
starts = (omega arith, refl)

-- the removal of one that is read only
unmap_0 : (unmap_outcome larges (wide_store (mapped 16 1) 0) 4 0).answer ≡ 0
unmap_0 =
    let s = wide_store (mapped 16 1) 0 in
    unmap_inside 16 1 starts read 0 (omega arith)
    (past (nothing_gained removed s run_words (λ k. table_entry l2 s 4 (0 + k)) (λ c k b l. rw (entries 16 1 starts read 0 k l) (reads_give_nothing larges 16 1 (omega arith) c k b))) none)

-- and of one outside
unmap_10 : (unmap_outcome larges (wide_store (mapped 256 1) 0) 4 0).answer ≡ 10
unfolding astray place_first place_blocks outside
unmap_10 =
    let s = wide_store (mapped 256 1) 0 in
    let start : IsLargeStart 256 = (omega arith, refl) in
    unmap_wide 256 1 start read 0
    (here (any_hit (λ k. astray (base s) (blocks s) (table_entry l2 s 4 (0 + k))) run_words 0 (omega arith)
    (rw (entries 256 1 start read 0 0 (omega arith), based (mapped 256 1) (long_mapped 256 1 start read 0) 0, size (mapped 256 1) (long_mapped 256 1 start read 0) 0) refl)))

-- a large page through which block 20 is written
module _ (count : ℕ) where
  abbrev writing : ℕ → Entry
  writing k = table_entry l2 (wide_store (mapped 16 3) count) 4 (0 + k)

  unmap_overruns : count < 2 ^ 32 → overruns removed count (gain run_words writing writable 20) ≡ true → (unmap_outcome larges (wide_store (mapped 16 3) count) 4 0).answer ≡ 13
  unmap_overruns h over =
      unmap_inside 16 3 starts read_write count (omega arith) (here (overrun (mapped 16 3) (long_mapped 16 3 starts read_write count) count removed writing h over))

  gains : 0 < gain run_words writing writable 20
  unfolding gives grants allows rights covers cover_first cover_blocks
  gains = gain_hit run_words writing writable 20 4 (omega arith) (rw (entries 16 3 starts read_write count 4 (omega arith)) refl)

-- a counter of 0 that falls, and one that stays above the limit
unmap_13_below : (unmap_outcome larges (wide_store (mapped 16 3) 0) 4 0).answer ≡ 13
unfolding overruns ends_below
unmap_13_below =
    let W = gain run_words (writing 0) writable 20 in
    unmap_overruns 0 (omega arith) (rw (lt-ltb 0 W (gains 0)) refl)

unmap_13_above : (unmap_outcome larges (wide_store (mapped 16 3) (2 ^ 31)) 4 0).answer ≡ 13
unfolding overruns ends_below end_value
unmap_13_above =
    let W = gain run_words (writing (2 ^ 31)) writable 20 in
    let few = gain-most run_words (writing (2 ^ 31)) writable 20 in
    unmap_overruns (2 ^ 31) (omega arith) (rw (lt-ltb 0 W (gains (2 ^ 31)), lt-ltb counter_limit (2 ^ 31 - W) (omega arith), or-true) refl)

-- Map large where the first entry of the table is a link to block 4, and walks to the large page

abbrev linked : List ℕ
linked = fill empty 0 1 (λ k. word_of kindless (link_to 4 0))

abbrev leading : Store
leading = wide_store linked 0

long_linked : length linked ≡ block_bytes * 256
long_linked = length-fill empty 0 (λ k. word_of kindless (link_to 4 0)) 1 ∙ long

room_linked : Vacant larges leading 4 0
room_linked = record { ready = ready linked long_linked 0; empty = λ k l. still k } where
  still : (k : ℕ) → table_entry l2 leading 4 (0 + k) ≡ fault
  still k =
      let at : word_index leading 4 (0 + k) ≡ block_words * 4 + k = omega (arith, based linked long_linked 0) in
      ap (entry_at l2 linked) at
      ∙ entry_at_cong l2 linked empty (block_words * 4 + k) (λ j near. word-fill_other empty 0 (λ k. word_of kindless (link_to 4 0)) 1 j (λ _. omega arith))
      ∙ zero_entry l2 (block_bytes * 256) (block_words * 4 + k)

accepted : (map_outcome larges [] leading 4 0 16 1 first_kind).answer ≡ 0
accepted = map_accepted_lem larges 0 refl first_kind room_linked (omega arith) (omega arith) (readable linked long_linked 0 1 (omega arith))

-- the address of page k leads to block k of the sixteen
large_walks : (k : ℕ) → k < run_words → walk (base leading) (blocks leading) (map_outcome larges [] leading 4 0 16 1 first_kind).after.memory 0 (block_bytes * k) ≡ ends l2 (16 + k) 1
large_walks k l = large_grants [] leading 4 0 16 1 first_kind accepted k l 0 (block_bytes * k) through (omega arith) where
  through : entry_at l1 (map_outcome larges [] leading 4 0 16 1 first_kind).after.memory (word_index leading 0 (bits (block_bytes * k) 20 12)) ≡ link_to 4 ((0 + k) / l2_words)
  through =
      let after = (map_outcome larges [] leading 4 0 16 1 first_kind).after.memory in
      let B = based linked long_linked 0 in
      let first : word_index leading 0 (bits (block_bytes * k) 20 12) ≡ 0 + 0 = omega arith in
      let table : 0 ≡ (0 + k) / l2_words = omega arith in
      ap (entry_at l1 after) first
      ∙ entry_at_cong l1 after linked 0 (λ j near. (map_enters larges [] leading 4 0 16 1 first_kind accepted).others j (λ e. omega arith))
      ∙ entry_at-fill l1 empty 0 kindless (λ k. link_to 4 0) 1 (singly (λ _ _. a_link (omega arith))) (rw long (omega arith)) 0 (omega arith)
      ∙ ap (link_to 4) table
