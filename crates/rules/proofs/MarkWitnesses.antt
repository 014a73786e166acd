-- Every number of forget list is an answer; a mark of 1 is believed, and one of 2 is not; and a block that several entries execute is counted once.
use mathlib.Core.List.{List, [], ◌∷◌}
use mathlib.Core.Path.{◌≡◌, refl}
use Prim.Native.Nat.{ℕ}
use native.Mathlib.Omega.{arith}
use Rattle.words.specs.Lists.{part}
use Rattle.words.specs.Bounded.{any, sum, num}
use Rattle.words.specs.Words.{word, put_word}
use Rattle.signature.specs.Signed.{misfit_image}
use Rattle.entries.specs.Entries.{page, l2, l2_entry, is_fault, is_link, rights, place_first, cover_first, place_blocks, cover_blocks, covers}
use Rattle.entries.specs.Rights.{allows, unlawful_rights}
use Rattle.rules.specs.Refusals.{answer_of}
use Rattle.rules.specs.Store.{base_place, record_word, put_record_word, mark_word, some_counter, outside, some_block, kinds_of}
use Rattle.rules.specs.Outcomes.{settle}
use Rattle.rules.specs.Tables.{table_entries, pages, grants, gives, gain}
use Rattle.rules.specs.Signature.{unknown}
use Rattle.rules.specs.General.{end_value, ends_below, overruns, some_overrun, hashed_blocks}
use Rattle.rules.specs.Map.{map_outcome, unfit_target, clashing_target, unsigned_target, first_kind}
use Rattle.rules.specs.Forget.{forget_outcome, stray_blocks}
use Rattle.rules.specs.Steps.{forgets, obey}
use Rattle.rules.proofs.SmallStores.{memory, length_memory, first_entry, ledger, small_store, fit, unfit, one_l2, unsigned}
use Rattle.rules.proofs.Witnesses.{answers}
use Rattle.rules.proofs.Blank.{golden, lawful, page_signed}

-- Forget

-- a stored B that is no multiple of 256
forget_1 : answers [] (small_store 0 (put_word ledger base_place 1)) (forgets 0 0 ∷ []) ≡ (1 ∷ [])
unfolding answers obey forget_outcome settle answer_of word put_word
forget_1 = rw (unfit 0 (put_word ledger base_place 1) refl refl) refl

-- the last block and one behind it; the last block; none, behind the region
forget_2_and_0 : answers [] (small_store 0 ledger) (forgets 7 2 ∷ forgets 7 1 ∷ forgets 9 0 ∷ []) ≡ (2 ∷ 0 ∷ 0 ∷ [])
unfolding answers obey forget_outcome settle answer_of stray_blocks outside word kinds_of part
forget_2_and_0 = rw (fit 0 ledger (refl, refl) refl, length_memory 0) refl

-- Map L2 of block 5 with execute

-- the mark of block 5 is this
abbrev marked5 : ℕ → List ℕ
marked5 k = put_record_word one_l2 mark_word 5 k

-- under an empty image a mark of 1 is believed, and nothing is hashed
mark_1 : ((map_outcome pages [] (small_store 0 (marked5 1)) 0 0 5 5 first_kind).answer ≡ 0) × ((map_outcome pages [] (small_store 0 (marked5 1)) 0 0 5 5 first_kind).hashed ≡ 0)
unfolding map_outcome settle answer_of outside some_block any sum num record_word put_record_word word put_word misfit_image l2_entry is_fault unlawful_rights allows unfit_target clashing_target unsigned_target unknown some_overrun some_counter overruns end_value ends_below gain gives grants rights is_link covers cover_first place_first cover_blocks place_blocks hashed_blocks kinds_of part
mark_1 = let (_, e) = first_entry 0 (omega arith) in rw (fit 0 (marked5 1) (refl, refl) refl, length_memory 0, e) (refl, refl)

-- a mark of 2 is not; under an image that signs the block it is hashed
mark_2 : (map_outcome pages [] (small_store 0 (marked5 2)) 0 0 5 5 first_kind).answer ≡ 12
unfolding map_outcome settle answer_of outside some_block any record_word put_record_word word put_word misfit_image l2_entry is_fault unlawful_rights allows unfit_target clashing_target unsigned_target unknown kinds_of part
mark_2 = let (_, e) = first_entry 0 (omega arith) in rw (fit 0 (marked5 2) (refl, refl) refl, length_memory 0, e, unsigned (memory 0) 0 5) refl

mark_2_signed : ((map_outcome pages golden (small_store 0 (marked5 2)) 0 0 5 5 first_kind).answer ≡ 0) × ((map_outcome pages golden (small_store 0 (marked5 2)) 0 0 5 5 first_kind).hashed ≡ 1)
unfolding map_outcome settle answer_of outside some_block any sum num record_word put_record_word word put_word l2_entry is_fault unlawful_rights allows unfit_target clashing_target unsigned_target unknown some_overrun some_counter overruns end_value ends_below gain gives grants rights is_link covers cover_first place_first cover_blocks place_blocks hashed_blocks kinds_of part
mark_2_signed = let (_, e) = first_entry 0 (omega arith) in rw (fit 0 (marked5 2) (refl, refl) refl, lawful, length_memory 0, e, page_signed) (refl, refl)

-- The number of a table

-- each of its 1,024 entries executes block 5: one block is hashed, or none if it is marked
counted_once : (hashed_blocks (small_store 0 ledger) (table_entries l2) (λ i. page 5 5) ≡ 1) × (hashed_blocks (small_store 0 (marked5 1)) (table_entries l2) (λ i. page 5 5) ≡ 0)
unfolding sum num record_word put_record_word word put_word allows gain gives grants rights covers cover_first cover_blocks hashed_blocks
counted_once = rw (length_memory 0) (refl, refl)
