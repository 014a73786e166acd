-- Link: an L1 entry that leads to an L2 table (RULES: link, refusal).
use Rattle.std.specs.Prelude.{List, [], ◌∷◌, ℕ, ◌+◌, ◌*◌, leb}
use Rattle.words.specs.Bounded.{neqb}
use Rattle.entries.specs.Entries.{Entry, link, l1, l2, block_tables}
use Rattle.rules.specs.Refusals.{Refusal, ◌if◌}
use Rattle.rules.specs.Store.{Store, type_of, misfit_stored}
use Rattle.rules.specs.Outcomes.{Outcome, leaving, call_outcome}
use Rattle.rules.specs.Tables.{type_code, table_blocks}
use Rattle.rules.specs.General.{table_outside, misaligned, beyond_table, other_type, executable_holder, some_overrun, occupied, entered, added}
use Rattle.entries.specs.Written.{kindless}

-- link leaves, entries 6: the link to table j of block t
abbrev pub link_to : ℕ → ℕ → Entry
link_to t j = link (block_tables * t + j)

-- link list, link 4, link 10: 4 also if the block has no table j, 10 if the target lies outside the region or is not L2
abbrev pub link_refusals : Store → ℕ → ℕ → ℕ → ℕ → List Refusal
link_refusals s p i t j =
    1 if misfit_stored s
    ∷ 2 if table_outside l1 s p
    ∷ 3 if misaligned p (table_blocks l1)
    ∷ 4 if beyond_table l1 i
    ∷ 4 if leb block_tables j
    ∷ 5 if other_type l1 s p (type_code l1)
    ∷ 7 if executable_holder s p i
    ∷ 8 if occupied l1 s p i 1
    ∷ 10 if table_outside l2 s t
    ∷ 10 if neqb (type_of s t) (type_code l2)
    ∷ 13 if some_overrun added s 1 (λ k. link_to t j)
    ∷ []

-- link list, link leaves: what link answers and leaves
unfoldable pub link_outcome : Store → ℕ → ℕ → ℕ → ℕ → Outcome
link_outcome s p i t j = call_outcome (link_refusals s p i t j) s (leaving (entered kindless s p i 1 (λ k. link_to t j)))
