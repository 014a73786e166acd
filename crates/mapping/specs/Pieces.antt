-- Pieces of the lists of refusals that have a function of their own; the promises of the calls cite whole lists (RULES: map, link, unmap, refusal).
use Rattle.std.specs.Prelude.{not, List, [], ◌∷◌, ◌++◌, ℕ}
use Rattle.words.specs.Bounded.{any, neqb}
use Rattle.entries.specs.Entries.{Entry, Level, l2}
use Rattle.rules.specs.Refusals.{Refusal, ◌if◌}
use Rattle.rules.specs.Store.{Store, base, blocks, type_of, misfit_stored}
use Rattle.rules.specs.Signature.{image_refusals}
use Rattle.rules.specs.Tables.{type_code, table_blocks, Form, level, target_blocks, mapping_words, mapping, takes, astray}
use Rattle.rules.specs.General.{other_type, executable_holder, table_outside, misaligned, beyond_table, some_overrun, added, removed}
use Rattle.rules.specs.Link.{link_to}
use Rattle.rules.specs.Map.{no_kind, unfit_target, clashing_target, unsigned_target}

-- refusal 5, refusal 7: of a table at block p, and of the holder of its entry i
abbrev pub holder_refusals : Level → Store → ℕ → ℕ → List Refusal
holder_refusals v s p i = 5 if other_type v s p (type_code v) ∷ 7 if executable_holder s p i ∷ []

-- unmap list: from 1 to 7
abbrev pub slot_refusals : Form → Store → ℕ → ℕ → List Refusal
slot_refusals f s p i =
    1 if misfit_stored s ∷ 2 if table_outside (level f) s p ∷ 3 if misaligned p (table_blocks (level f)) ∷ 3 if misaligned i (mapping_words f) ∷ 4 if beyond_table (level f) i
    ∷ holder_refusals (level f) s p i

-- unmap 8, unmap 10, refusal 13: of the entries x, which are to be taken away
abbrev pub removal_refusals : Form → Store → (ℕ → Entry) → List Refusal
removal_refusals f s x =
    8 if any (mapping_words f) (λ k. not (takes f (x k))) ∷ 10 if any (mapping_words f) (λ k. astray (base s) (blocks s) (x k)) ∷ 13 if some_overrun removed s (mapping_words f) x ∷ []

-- link 10, refusal 13: of table j of block t, to which a link is to lead
abbrev pub link_target_refusals : Store → ℕ → ℕ → List Refusal
link_target_refusals s t j = 10 if table_outside l2 s t ∷ 10 if neqb (type_of s t) (type_code l2) ∷ 13 if some_overrun added s 1 (λ k. link_to t j) ∷ []

-- map list: from 1 to 4
abbrev pub map_place_refusals : Form → List ℕ → Store → ℕ → ℕ → ℕ → ℕ → List Refusal
map_place_refusals f golden s p i t k =
    1 if misfit_stored s ∷ image_refusals golden ++ 2 if table_outside (level f) s p ∷ 3 if misaligned p (table_blocks (level f))
    ∷ 3 if misaligned t (target_blocks f) ∷ 3 if misaligned i (mapping_words f) ∷ 4 if beyond_table (level f) i ∷ 4 if no_kind k ∷ []

-- map 10, map 11, map 12, refusal 13: of a target and rights
abbrev pub map_target_refusals : Form → List ℕ → Store → ℕ → ℕ → ℕ → ℕ → List Refusal
map_target_refusals f golden s p i t r =
    10 if unfit_target s p i t (target_blocks f) r ∷ 11 if clashing_target s t (target_blocks f) r ∷ 12 if unsigned_target golden s t (target_blocks f) r ∷ 13 if some_overrun added s (mapping_words f) (mapping f t r) ∷ []
