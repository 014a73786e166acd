-- Begin: a region starts (RULES: begin, refusal).
use Rattle.std.specs.Prelude.{List, [], ◌∷◌, ℕ, length}
use Rattle.words.specs.Bounded.{neqb}
use Rattle.words.specs.Lists.{put_list}
use Rattle.words.specs.Words.{put_word}
use Rattle.rules.specs.Refusals.{Refusal, ◌if◌}
use Rattle.rules.specs.Store.{no_table, Store, kinds_bytes, base_place, active_place, kinds_place, blocks, unlawful_kinds, retype, recount, clear_marks, misfit}
use Rattle.rules.specs.Outcomes.{Outcome, leaving, call_outcome}
use Rattle.rules.specs.Tables.{type_d}

-- begin kinds, ledger 12: the kinds of a begin that names none, B and C eight times
abbrev pub cached_kinds : List ℕ
cached_kinds =
    0x03 ∷ 0x00 ∷ 0x03 ∷ 0x00 ∷ 0x03 ∷ 0x00 ∷ 0x03 ∷ 0x00 ∷ 0x03 ∷ 0x00 ∷ 0x03 ∷ 0x00 ∷ 0x03 ∷ 0x00 ∷ 0x03 ∷ 0x00 ∷ []

-- begin 1: refusal 1 for the B and the kinds that are given, and no other
abbrev pub begin_refusals : Store → List ℕ → ℕ → List Refusal
begin_refusals s kinds B =
    1 if misfit s B
    ∷ 1 if neqb (length kinds) kinds_bytes
    ∷ 1 if unlawful_kinds kinds
    ∷ []

-- begin leaves: the ledger with every type, every counter and every mark 0
abbrev pub cleared : Store → List ℕ
cleared s = clear_marks (recount (retype s.ledger 0 (blocks s) type_d) (blocks s) (λ c b. 0)) 0 (blocks s)

-- begin leaves: then the kinds and B stored, and no table in use; the memory as it was
abbrev pub begin_after : Store → List ℕ → ℕ → Store
begin_after s kinds B = record { memory = s.memory; ledger = put_word (put_word (put_list (cleared s) kinds_place kinds) base_place B) active_place no_table }

-- begin 1, begin leaves: what begin answers and leaves
unfoldable pub begin_outcome : Store → List ℕ → ℕ → Outcome
begin_outcome s kinds B = call_outcome (begin_refusals s kinds B) s (leaving (begin_after s kinds B))
