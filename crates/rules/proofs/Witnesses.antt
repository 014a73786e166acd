-- Every number of begin 1, map list, link list, unmap list, switch list, guest list and acknowledge list is an answer: it is computed on a small store.
use mathlib.Core.List.{List, [], ◌∷◌, map}
use mathlib.Core.Path.{◌≡◌, refl, ◌∙◌, ap}
use Prim.Native.Nat.{ℕ, ◌+◌, ◌*◌}
use native.Mathlib.Omega.{arith}
use lib.ListN.{length, set, replicate, drop}
use Rattle.rules.specs.Forget.{forget_outcome}
use Rattle.rules.specs.Free.{free_outcome}
use Rattle.rules.specs.Create.{create_outcome}
use Rattle.words.specs.Lists.{part, put_list}
use Rattle.words.specs.Bounded.{any, sum, num}
use Rattle.words.specs.Words.{word, put_word, half}
use Rattle.words.proofs.Words.{length-put_word, word-put_word_same, word-put_word_other}
use Rattle.signature.specs.Signed.{misfit_image}
use Rattle.entries.specs.Entries.{l1, l2, entry_at, l1_entry, l2_entry, is_run, is_link_form, is_section_form, is_page_form, is_large_form, is_fault, is_unaccepted, is_link, is_section, is_page, rights, place_first, cover_first, place_blocks, cover_blocks, covers}
use Rattle.entries.specs.Rights.{may_read, may_write, may_execute, rights_of}
use Rattle.entries.specs.Rights.{allows}
use Rattle.entries.specs.Rights.{unlawful_rights}
use Rattle.rules.specs.Refusals.{answer_of}
use Rattle.rules.specs.Store.{block_bytes, counter_limit, base_place, active_place, Store, record_word, put_record_word, retype, type_word, counter_word, executable, linked, some_counter, misfit, outside, some_block, kinds_of, unlawful_kinds, kind_at, misfit_stored, kinds_place, kinds_bytes}
use Rattle.rules.specs.Outcomes.{settle}
use Rattle.rules.specs.Tables.{type_code, sections, pages, takes, grants, gives, gain, astray}
use Rattle.rules.specs.General.{end_value, ends_below, overruns, some_overrun}
use Rattle.rules.specs.Begin.{begin_outcome, cached_kinds}
use Rattle.rules.specs.Signature.{unknown}
use Rattle.rules.specs.Map.{map_outcome, unfit_target, clashing_target, unsigned_target, first_kind}
use Rattle.rules.specs.Link.{link_outcome}
use Rattle.rules.specs.Unmap.{unmap_outcome}
use Rattle.rules.specs.Switch.{switch_outcome}
use Rattle.rules.specs.Registers.{clear_registers, acknowledge_outcome}
use Rattle.rules.specs.Guest.{reads, guest_outcome, walk, passes, follow, walk_refusals, needed}
use Rattle.rules.specs.Steps.{Step, begins, maps, links, unmaps, switches, accesses, acknowledges, obey, creates, frees, forgets}
use Rattle.rules.proofs.SmallStores.{memory, length_memory, first_entry, ledger, small_store, fit, unfit, one_l2, one_l1, writes_to5, unsigned, fit_given, unfit_given}

-- the answers of some steps, each taken in the same store
unfoldable pub answers : List ℕ → Store → List Step → List ℕ
answers golden s steps = map (λ step. (obey golden s step).answer) steps

-- begin is accepted, so that lists start
accepted_begin : answers [] (small_store 0 ledger) (begins cached_kinds 0 ∷ []) ≡ (0 ∷ [])
unfolding answers obey begin_outcome settle answer_of unlawful_kinds any kind_at half
accepted_begin = rw (fit_given 0 ledger refl) refl

-- Numbers before the entry is looked at

numbers_2_to_5 : answers [] (small_store 0 ledger)
    (switches 8 ∷ switches 1 ∷ switches 0
    ∷ links 8 0 0 0 ∷ links 1 0 0 0 ∷ links 0 4096 0 0 ∷ links 0 0 0 4 ∷ links 0 0 0 0
    ∷ maps pages 8 0 0 0 first_kind ∷ maps sections 1 0 0 0 first_kind ∷ maps sections 0 0 1 0 first_kind ∷ maps pages 0 1024 0 0 first_kind ∷ maps pages 0 0 0 0 first_kind
    ∷ unmaps pages 8 0 ∷ unmaps sections 1 0 ∷ unmaps pages 0 1024 ∷ unmaps pages 0 0 ∷ [])
    ≡ (2 ∷ 3 ∷ 5 ∷ 2 ∷ 3 ∷ 4 ∷ 4 ∷ 5 ∷ 2 ∷ 3 ∷ 3 ∷ 4 ∷ 5 ∷ 2 ∷ 3 ∷ 4 ∷ 5 ∷ [])
unfolding answers obey switch_outcome link_outcome map_outcome unmap_outcome settle answer_of outside some_block any record_word word misfit_image kinds_of part
numbers_2_to_5 = rw (fit 0 ledger (refl, refl) refl, length_memory 0) refl

-- 1, for a stored or given B that is no multiple of 256, and for a golden image of one byte
number_1 : answers [] (small_store 0 (put_word ledger base_place 1)) (begins cached_kinds 1 ∷ switches 0 ∷ links 0 0 0 0 ∷ maps pages 0 0 0 0 first_kind ∷ unmaps pages 0 0 ∷ accesses reads clear_registers 0 ∷ []) ≡ (1 ∷ 1 ∷ 1 ∷ 1 ∷ 1 ∷ 1 ∷ [])
unfolding answers obey begin_outcome switch_outcome link_outcome map_outcome unmap_outcome guest_outcome settle answer_of word put_word
number_1 = rw (unfit_given 0 (put_word ledger base_place 1) refl, unfit 0 (put_word ledger base_place 1) refl refl) refl

-- the kinds of which the last is this one, and the others are 0
last_kind : ℕ → List ℕ
last_kind kind = set (replicate kinds_bytes 0) 14 kind

-- 1, for a stored kind with bit 7 set, the last of the eight, in every call but begin; and a begin that gives such a kind, or fifteen bytes
number_1_kinds : (answers [] (small_store 0 (put_list ledger kinds_place (last_kind 0x80)))
    (begins cached_kinds 0 ∷ creates l2 0 ∷ frees l2 0 ∷ maps pages 0 0 0 0 first_kind ∷ links 0 0 0 0 ∷ unmaps pages 0 0 ∷ switches 0 ∷ accesses reads clear_registers 0 ∷ forgets 0 0 ∷ [])
    ≡ (0 ∷ 1 ∷ 1 ∷ 1 ∷ 1 ∷ 1 ∷ 1 ∷ 1 ∷ 1 ∷ []))
    × (answers [] (small_store 0 ledger) (begins (last_kind 0x7F) 0 ∷ begins (last_kind 0x80) 0 ∷ begins (replicate 15 0) 0 ∷ []) ≡ (0 ∷ 1 ∷ 1 ∷ []))
unfolding answers obey begin_outcome create_outcome free_outcome switch_outcome link_outcome map_outcome unmap_outcome guest_outcome forget_outcome settle answer_of misfit_stored unlawful_kinds any kind_at half kinds_of part last_kind put_list word
number_1_kinds = (
  rw (fit_given 0 (put_list ledger kinds_place (last_kind 0x80)) refl) refl,
  rw (fit_given 0 ledger refl) refl,
)

number_1_image : answers (0 ∷ []) (small_store 0 ledger) (maps pages 0 0 0 0 first_kind ∷ []) ≡ (1 ∷ [])
unfolding answers obey map_outcome settle answer_of misfit_image word kinds_of part
number_1_image = rw (fit 0 ledger (refl, refl) refl) refl

-- 4, for a kind above 7
number_4_kind : answers [] (small_store 0 one_l2) (maps pages 0 0 4 0 7 ∷ maps pages 0 0 4 0 8 ∷ maps pages 0 0 4 0 0xFFFFFFFF ∷ []) ≡ (0 ∷ 4 ∷ 4 ∷ [])
unfolding answers obey map_outcome settle answer_of outside some_block any sum num record_word put_record_word word put_word misfit_image l2_entry is_fault unlawful_rights allows unfit_target clashing_target unsigned_target some_overrun some_counter overruns end_value ends_below gain gives grants rights is_link covers cover_first place_first cover_blocks place_blocks kinds_of part
number_4_kind = let (_, e) = first_entry 0 (omega arith) in rw (fit 0 one_l2 (refl, refl) refl, length_memory 0, e) refl

-- Map and unmap in an L2 block, link in an L1 table

number_7 : (answers [] (small_store 0 (put_record_word one_l2 (counter_word executable) 0 1)) (maps pages 0 0 4 0 first_kind ∷ unmaps pages 0 0 ∷ []) ≡ (7 ∷ 7 ∷ []))
    × (answers [] (small_store 0 (put_record_word one_l1 (counter_word executable) 0 1)) (links 0 0 4 0 ∷ []) ≡ (7 ∷ []))
unfolding answers obey link_outcome map_outcome unmap_outcome settle answer_of outside some_block any record_word put_record_word word put_word retype misfit_image kinds_of part
number_7 = (
  rw (fit 0 (put_record_word one_l2 (counter_word executable) 0 1) (refl, refl) refl, length_memory 0) refl,
  rw (fit 0 (put_record_word one_l1 (counter_word executable) 0 1) (refl, refl) refl, length_memory 0) refl,
)

-- the first word is 1: an L1 entry that is a link, an L2 entry that is not accepted
number_8 : (answers [] (small_store 1 one_l2) (maps pages 0 0 4 0 first_kind ∷ unmaps pages 0 0 ∷ []) ≡ (8 ∷ 8 ∷ [])) × (answers [] (small_store 1 one_l1) (links 0 0 4 0 ∷ []) ≡ (8 ∷ []))
unfolding answers obey link_outcome map_outcome unmap_outcome settle answer_of outside some_block any record_word put_record_word word put_word retype misfit_image l1_entry l2_entry is_link_form is_page_form is_large_form is_fault takes is_section is_page is_link kinds_of part
number_8 =
    let (e1, e2) = first_entry 1 (omega arith) in
    (rw (fit 1 one_l2 (refl, refl) refl, length_memory 1, e2) refl, rw (fit 1 one_l1 (refl, refl) refl, length_memory 1, e1) refl)

-- rights 2; a target outside; write and execute
numbers_9_to_11 : answers [] (small_store 0 one_l2) (maps pages 0 0 4 2 first_kind ∷ maps pages 0 0 8 0 first_kind ∷ maps pages 0 0 4 7 first_kind ∷ []) ≡ (9 ∷ 10 ∷ 11 ∷ [])
unfolding answers obey map_outcome settle answer_of outside some_block any record_word put_record_word word put_word misfit_image l2_entry is_fault unlawful_rights allows unfit_target clashing_target kinds_of part
numbers_9_to_11 = let (_, e) = first_entry 0 (omega arith) in rw (fit 0 one_l2 (refl, refl) refl, length_memory 0, e) refl

number_12 : answers [] (small_store 0 one_l2) (maps pages 0 0 4 5 first_kind ∷ []) ≡ (12 ∷ [])
unfolding answers obey map_outcome settle answer_of outside some_block any record_word put_record_word word put_word misfit_image l2_entry is_fault unlawful_rights allows unfit_target clashing_target unsigned_target unknown kinds_of part
number_12 = let (_, e) = first_entry 0 (omega arith) in rw (fit 0 one_l2 (refl, refl) refl, length_memory 0, e, unsigned (memory 0) 0 4) refl

-- a link to a block outside, or to data; the removal of page 100
number_10 : (answers [] (small_store 0 one_l1) (links 0 0 8 0 ∷ links 0 0 4 0 ∷ []) ≡ (10 ∷ 10 ∷ [])) × (answers [] (small_store 0x6403F one_l2) (unmaps pages 0 0 ∷ []) ≡ (10 ∷ []))
unfolding answers obey link_outcome unmap_outcome settle answer_of outside some_block any record_word put_record_word word put_word retype l1_entry l2_entry is_page_form is_large_form is_fault takes is_section is_page is_link astray cover_first place_first cover_blocks place_blocks kinds_of part
number_10 =
    let (e, _) = first_entry 0 (omega arith) in
    let (_, f) = first_entry 0x6403F (omega arith) in
    (rw (fit 0 one_l1 (refl, refl) refl, length_memory 0, e) refl, rw (fit 0x6403F one_l2 (refl, refl) refl, length_memory 0x6403F, f) refl)

-- Counters: block 5 is written by the page 503F (hexadecimal), or linked to

-- a counter at the limit that rises; one of 0 that falls; one that falls to the limit and 1; one that falls to the limit is accepted
number_13_map : answers [] (small_store 0 (writes_to5 counter_limit)) (maps pages 0 0 5 3 first_kind ∷ []) ≡ (13 ∷ [])
unfolding answers obey map_outcome settle answer_of outside some_block any sum num record_word put_record_word word put_word misfit_image l2_entry is_fault unlawful_rights allows unfit_target clashing_target unsigned_target some_overrun some_counter overruns end_value ends_below gain gives grants rights is_link covers cover_first place_first cover_blocks place_blocks kinds_of part
number_13_map = let (_, e) = first_entry 0 (omega arith) in rw (fit 0 (writes_to5 counter_limit) (refl, refl) refl, length_memory 0, e) refl

number_13_unmap : (answers [] (small_store 0x503F (writes_to5 0)) (unmaps pages 0 0 ∷ []) ≡ (13 ∷ []))
    × (answers [] (small_store 0x503F (writes_to5 (counter_limit + 2))) (unmaps pages 0 0 ∷ []) ≡ (13 ∷ []))
    × (answers [] (small_store 0x503F (writes_to5 (counter_limit + 1))) (unmaps pages 0 0 ∷ []) ≡ (0 ∷ []))
unfolding answers obey unmap_outcome settle answer_of outside some_block any sum num record_word put_record_word word put_word l2_entry is_page_form is_large_form takes is_section is_page is_link astray some_overrun some_counter overruns end_value ends_below gain gives grants allows rights rights_of may_read may_write may_execute covers cover_first place_first cover_blocks place_blocks is_fault kinds_of part
number_13_unmap =
    let (_, e) = first_entry 0x503F (omega arith) in (
      rw (fit 0x503F (writes_to5 0) (refl, refl) refl, length_memory 0x503F, e) refl,
      rw (fit 0x503F (writes_to5 (counter_limit + 2)) (refl, refl) refl, length_memory 0x503F, e) refl,
      rw (fit 0x503F (writes_to5 (counter_limit + 1)) (refl, refl) refl, length_memory 0x503F, e) refl,
    )

number_13_link : answers [] (small_store 0 (put_record_word (put_record_word one_l1 type_word 5 (type_code l2)) (counter_word linked) 5 counter_limit)) (links 0 0 5 0 ∷ []) ≡ (13 ∷ [])
unfolding answers obey link_outcome settle answer_of outside some_block any sum num record_word put_record_word word put_word retype l1_entry is_fault some_overrun some_counter overruns end_value ends_below gain gives grants allows rights is_link covers cover_first place_first cover_blocks place_blocks kinds_of part
number_13_link =
    let (e, _) = first_entry 0 (omega arith) in
    rw (fit 0 (put_record_word (put_record_word one_l1 type_word 5 (type_code l2)) (counter_word linked) 5 counter_limit) (refl, refl) refl, length_memory 0, e) refl

-- The guest

-- active 1; a fault; the word 3, which no L1 entry may be
numbers_21_22_24 : (answers [] (small_store 0 (put_word ledger active_place 1)) (accesses reads clear_registers 0 ∷ []) ≡ (21 ∷ []))
    × (answers [] (small_store 0 ledger) (accesses reads clear_registers 0 ∷ []) ≡ (22 ∷ []))
    × (answers [] (small_store 3 ledger) (accesses reads clear_registers 0 ∷ []) ≡ (24 ∷ []))
unfolding answers obey guest_outcome settle answer_of outside word put_word walk passes walk_refusals l1_entry is_link_form is_section_form is_fault is_unaccepted astray cover_first place_first cover_blocks place_blocks kinds_of part
numbers_21_22_24 =
    let (e, _) = first_entry 0 (omega arith) in
    let (f, _) = first_entry 3 (omega arith) in (
      rw (fit 0 (put_word ledger active_place 1) (refl, refl) refl, length_memory 0) refl,
      rw (fit 0 ledger (refl, refl) refl, length_memory 0, e) refl,
      rw (fit 3 ledger (refl, refl) refl, length_memory 3, f) refl,
    )

-- the first word is a link to the memory's first L2 table, whose entry 5 is page 0 with no rights
two_words : List ℕ
two_words = put_word (memory 1) (4 * 5) 0x1F

length_two : length two_words ≡ block_bytes * 8
unfolding two_words
length_two = length-put_word (memory 1) (4 * 5) 0x1F ∙ length_memory 1

entries_two : (entry_at l1 two_words 0 ≡ l1_entry 1) × (entry_at l2 two_words 5 ≡ l2_entry (is_run two_words 5) 5 0x1F)
unfolding two_words entry_at
entries_two = (
  ap l1_entry (word-put_word_other (memory 1) (4 * 5) 0x1F (4 * 0) (λ e. omega arith)) ∙ (first_entry 1 (omega arith)).0,
  ap (l2_entry (is_run two_words 5) 5) (word-put_word_same (memory 1) (4 * 5) 0x1F (rw (length_memory 1) (omega arith)) (omega arith)),
)

number_23 : answers [] (record { memory = two_words; ledger = ledger }) (accesses reads clear_registers 0x5000 ∷ []) ≡ (23 ∷ [])
unfolding answers obey guest_outcome settle answer_of misfit misfit_stored unlawful_kinds any kind_at half kinds_of part outside word walk passes follow walk_refusals needed allows l1_entry l2_entry is_link_form is_page_form is_large_form rights_of may_read may_write may_execute num is_fault is_unaccepted astray cover_first place_first cover_blocks place_blocks rights
number_23 = let (e, f) = entries_two in rw (length_two, e, f) refl

-- 1 for registers that are too few or too many, in a store that fits, and an acknowledge that is accepted
number_1_registers : answers [] (small_store 0 ledger)
    (accesses reads (drop 1 clear_registers) 0 ∷ accesses reads (0 ∷ clear_registers) 0 ∷ acknowledges (drop 1 clear_registers) ∷ acknowledges (0 ∷ clear_registers) ∷ acknowledges clear_registers ∷ [])
    ≡ (1 ∷ 1 ∷ 1 ∷ 1 ∷ 0 ∷ [])
unfolding answers obey guest_outcome acknowledge_outcome settle answer_of word kinds_of part
number_1_registers = rw (fit 0 ledger (refl, refl) refl) refl
