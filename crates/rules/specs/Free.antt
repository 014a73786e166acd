-- Free L1 and free L2: a table becomes data (RULES: free, refusal).
use Rattle.std.specs.Prelude.{Bool, List, [], ◌∷◌, ℕ, eqb}
use Rattle.words.specs.Bounded.{above, any}
use Rattle.entries.specs.Entries.{Level, l1, l2, is_unaccepted}
use Rattle.rules.specs.Refusals.{Refusal, ◌if◌}
use Rattle.rules.specs.Store.{Store, blocks, base, active, linked, counter, misfit_stored}
use Rattle.rules.specs.Outcomes.{Outcome, leaving, call_outcome}
use Rattle.rules.specs.Tables.{type_code, table_blocks, table_entries, table_entry, astray}
use Rattle.rules.specs.General.{table_outside, misaligned, other_type, some_overrun, retyped, removed}

-- free 6: an L1 table is the active one, or an L2 block's l is above 0
unfoldable pub in_use : Level → Store → ℕ → Bool
in_use l1 s p = eqb (active s) p
in_use l2 s p = above (counter linked s p) 0

-- free list, free 8, free 10: 8 if an entry is not accepted, 10 if a part of an entry's place lies outside the region
abbrev pub free_refusals : Level → Store → ℕ → List Refusal
free_refusals v s p =
    1 if misfit_stored s
    ∷ 2 if table_outside v s p
    ∷ 3 if misaligned p (table_blocks v)
    ∷ 5 if other_type v s p (type_code v)
    ∷ 6 if in_use v s p
    ∷ 8 if any (table_entries v) (λ i. is_unaccepted (table_entry v s p i))
    ∷ 10 if any (table_entries v) (λ i. astray (base s) (blocks s) (table_entry v s p i))
    ∷ 13 if some_overrun removed s (table_entries v) (table_entry v s p)
    ∷ []

-- free leaves: the blocks are data, and the entries are taken from the counters
abbrev pub free_after : Level → Store → ℕ → Store
free_after = retyped removed

-- free list, free leaves: what free answers and leaves
unfoldable pub free_outcome : Level → Store → ℕ → Outcome
free_outcome v s p = call_outcome (free_refusals v s p) s (leaving (free_after v s p))
