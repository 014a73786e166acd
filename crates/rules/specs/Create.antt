-- Create L1 and create L2: blocks become a table (RULES: create, refusal).
use Rattle.std.specs.Prelude.{Bool, ◌&&◌, ◌||◌, List, [], ◌∷◌, ◌++◌, ℕ, ◌+◌}
use Rattle.words.specs.Bounded.{above, neqb, among, any}
use Rattle.entries.specs.Entries.{Entry, Level, l2, is_unaccepted, is_link, cover_first, cover_blocks}
use Rattle.rules.specs.Refusals.{Refusal, ◌if◌}
use Rattle.rules.specs.Store.{Store, blocks, base, writable, executable, some_counter, type_of, counter, some_block, some_region_block, misfit_stored}
use Rattle.rules.specs.Outcomes.{Outcome, Accepted, call_outcome}
use Rattle.rules.specs.Signature.{image_refusals, unknown}
use Rattle.rules.specs.Tables.{type_d, type_code, table_blocks, table_entries, table_entry, grants, gain, executed, astray}
use Rattle.rules.specs.General.{table_outside, misaligned, other_type, some_overrun, retyped, admitting, added}

-- create 6: a counter of one of the table's blocks is above 0
unfoldable pub some_count : Level → Store → ℕ → Bool
some_count v s p = some_block p (table_blocks v) (λ b. some_counter (λ c. above (counter c s b) 0))

-- create 10: the entry links to a block that is not L2
unfoldable pub unfit_link : Store → Entry → Bool
unfit_link s e = is_link e && some_block (cover_first e) (cover_blocks e) (λ b. neqb (type_of s b) (type_code l2))

-- create 10: the entry gives write to a block that is not D, or that is being typed
unfoldable pub unfit_write : Level → Store → ℕ → Entry → Bool
unfit_write v s p e = grants writable e && some_block (cover_first e) (cover_blocks e) (λ b. neqb (type_of s b) type_d || among p (table_blocks v) b)

-- create 10: a part of the entry's place lies outside the region, or one of the two above holds
unfoldable pub misplaced : Level → Store → ℕ → Entry → Bool
misplaced v s p e = astray (base s) (blocks s) e || unfit_link s e || unfit_write v s p e

-- create 11: the new entries add to a block's w or x, and both would end above 0
unfoldable pub clash : ℕ → ℕ → ℕ → ℕ → Bool
clash w x moreW moreX = (above moreW 0 || above moreX 0) && above (w + moreW) 0 && above (x + moreX) 0

-- create 11: so it is on block b, when the m entries e are added
abbrev pub clashes : Store → ℕ → (ℕ → Entry) → ℕ → Bool
clashes s m e b = clash (counter writable s b) (counter executable s b) (gain m e writable b) (gain m e executable b)

-- create 12: one of the m entries e gives execute to block b, which is neither marked nor signed
abbrev pub unsigned : List ℕ → Store → ℕ → (ℕ → Entry) → ℕ → Bool
unsigned golden s m e b = executed m e b && unknown golden s b

-- create list, create 8: each test goes over the whole table before the next; 8 if an entry is not accepted
abbrev pub create_refusals : Level → List ℕ → Store → ℕ → List Refusal
create_refusals v golden s p =
    1 if misfit_stored s
    ∷ image_refusals golden
    ++ 2 if table_outside v s p
    ∷ 3 if misaligned p (table_blocks v)
    ∷ 5 if other_type v s p type_d
    ∷ 6 if some_count v s p
    ∷ 8 if any (table_entries v) (λ i. is_unaccepted (table_entry v s p i))
    ∷ 10 if any (table_entries v) (λ i. misplaced v s p (table_entry v s p i))
    ∷ 11 if some_region_block s (clashes s (table_entries v) (table_entry v s p))
    ∷ 12 if some_region_block s (unsigned golden s (table_entries v) (table_entry v s p))
    ∷ 13 if some_overrun added s (table_entries v) (table_entry v s p)
    ∷ []

-- create leaves, calls 8: the blocks have the table's type, its entries are added to the counters, and what they execute is marked
abbrev pub create_accepted : Level → Store → ℕ → Accepted
create_accepted v s p = admitting s (table_entries v) (table_entry v s p) (retyped added v s p)

-- create list, create leaves, calls 8: what create answers, leaves and gives
unfoldable pub create_outcome : Level → List ℕ → Store → ℕ → Outcome
create_outcome v golden s p = call_outcome (create_refusals v golden s p) s (create_accepted v s p)
