-- Map L1, map L2 and map large: a section, a page or a large page is entered (RULES: map, refusal).
use Rattle.std.specs.Prelude.{Bool, ◌&&◌, ◌||◌, List, [], ◌∷◌, ◌++◌, ℕ, leb}
use Rattle.words.specs.Bounded.{above, neqb, among}
use Rattle.rules.specs.Refusals.{Refusal, ◌if◌}
use Rattle.rules.specs.Store.{Store, kind_count, blocks, base, kinds_of, kind_at, writable, executable, type_of, counter, outside, some_block, misfit_stored}
use Rattle.rules.specs.Outcomes.{Outcome, Accepted, call_outcome}
use Rattle.rules.specs.Signature.{image_refusals, unknown}
use Rattle.rules.specs.Tables.{type_d, type_code, table_blocks, Form, level, target_blocks, mapping_words, mapping}
use Rattle.entries.specs.Rights.{write, execute, allows, unlawful_rights}
use Rattle.rules.specs.General.{table_outside, misaligned, beyond_table, other_type, holder, executable_holder, some_overrun, occupied, entered, admitting, added}

-- map 10: one of the m target blocks from t on lies outside the region, is not D where the rights hold write, or is the holder where they hold execute
unfoldable pub unfit_target : Store → ℕ → ℕ → ℕ → ℕ → ℕ → Bool
unfit_target s p i t m r =
    outside (base s) (blocks s) t m
    || allows r write && some_block t m (λ b. neqb (type_of s b) type_d)
    || allows r execute && among t m (holder p i)

-- map 11: write and execute are asked for at once, or one of them where a target block has a count of the other
unfoldable pub clashing_target : Store → ℕ → ℕ → ℕ → Bool
clashing_target s t m r =
    allows r write && allows r execute
    || allows r write && some_block t m (λ b. above (counter executable s b) 0)
    || allows r execute && some_block t m (λ b. above (counter writable s b) 0)

-- map 12: a target block is to be executed and is neither marked nor signed
unfoldable pub unsigned_target : List ℕ → Store → ℕ → ℕ → ℕ → Bool
unsigned_target golden s t m r = allows r execute && some_block t m (unknown golden s)

-- map 4: there is no kind of this number
abbrev pub no_kind : ℕ → Bool
no_kind k = leb kind_count k

-- map list, map 3, map 4, map 9: 3 if table, target or index is misaligned; 4 if the index or the number of the kind is too high; 9 for unlawful rights
abbrev pub map_refusals : Form → List ℕ → Store → ℕ → ℕ → ℕ → ℕ → ℕ → List Refusal
map_refusals f golden s p i t r k =
    1 if misfit_stored s
    ∷ image_refusals golden
    ++ 2 if table_outside (level f) s p
    ∷ 3 if misaligned p (table_blocks (level f))
    ∷ 3 if misaligned t (target_blocks f)
    ∷ 3 if misaligned i (mapping_words f)
    ∷ 4 if beyond_table (level f) i
    ∷ 4 if no_kind k
    ∷ 5 if other_type (level f) s p (type_code (level f))
    ∷ 7 if executable_holder s p i
    ∷ 8 if occupied (level f) s p i (mapping_words f)
    ∷ 9 if unlawful_rights r
    ∷ 10 if unfit_target s p i t (target_blocks f) r
    ∷ 11 if clashing_target s t (target_blocks f) r
    ∷ 12 if unsigned_target golden s t (target_blocks f) r
    ∷ 13 if some_overrun added s (mapping_words f) (mapping f t r)
    ∷ []

-- map kind, ledger 11: the kind that the ledger has under this number
abbrev pub stored_kind : Store → ℕ → ℕ
stored_kind s k = kind_at (kinds_of s.ledger) k

-- map leaves, calls 8: the entries are written with the bits of the kind and added to the counters, and what they execute is marked
abbrev pub map_accepted : Form → Store → ℕ → ℕ → ℕ → ℕ → ℕ → Accepted
map_accepted f s p i t r k = admitting s (mapping_words f) (mapping f t r) (entered (stored_kind s k) s p i (mapping_words f) (mapping f t r))

-- map list, map leaves, calls 8: what map answers, leaves and gives
unfoldable pub map_outcome : Form → List ℕ → Store → ℕ → ℕ → ℕ → ℕ → ℕ → Outcome
map_outcome f golden s p i t r k = call_outcome (map_refusals f golden s p i t r k) s (map_accepted f s p i t r k)

-- map kind: the number of the kind where a map names none
abbrev pub first_kind : ℕ
first_kind = 0
