-- What several calls have in common (RULES: refusal, create, free, map, link, unmap).
use Rattle.std.specs.Prelude.{Bool, false, not, ◌&&◌, ◌||◌, List, ℕ, ◌+◌, ◌-◌, ◌/◌, ◌%◌, leb}
use Rattle.words.specs.Bounded.{above, neqb, any, count}
use Rattle.entries.specs.Entries.{Entry, Level, is_fault}
use Rattle.entries.specs.Written.{word_of}
use Rattle.rules.specs.Store.{block_words, counter_limit, Store, blocks, base, executable, record_word, counter_word, some_counter, type_of, counter, marked, retype, recount, clear_mark, mark_blocks, fill, outside, some_block, some_region_block}
use Rattle.rules.specs.Outcomes.{Accepted}
use Rattle.rules.specs.Tables.{type_d, type_code, table_blocks, table_entries, word_index, table_entry, gain, executed}

-- refusal 2, link 10, guest 21: one of the blocks of the table at p lies outside the region; their numbers do not wrap
abbrev pub table_outside : Level → Store → ℕ → Bool
table_outside v s p = outside (base s) (blocks s) p (table_blocks v)

-- refusal 3, map 3, unmap 3, guest 21: p is no multiple of m
abbrev pub misaligned : ℕ → ℕ → Bool
misaligned p m = neqb (p % m) 0

-- refusal 4: the table has no entry i
abbrev pub beyond_table : Level → ℕ → Bool
beyond_table v i = leb (table_entries v) i

-- refusal 5: one of the blocks of the table at p is not of type t
abbrev pub other_type : Level → Store → ℕ → ℕ → Bool
other_type v s p t = some_block p (table_blocks v) (λ b. neqb (type_of s b) t)

-- entries 3: the holder of entry i of the table at p
abbrev pub holder : ℕ → ℕ → ℕ
holder p i = p + i / block_words

-- refusal 7: the holder's x is above 0
abbrev pub executable_holder : Store → ℕ → ℕ → Bool
executable_holder s p i = above (counter executable s (holder p i)) 0

-- refusal 13: entries are added to the counters, or taken from them
pub data Change : Type 0 where
  added : Change
  removed : Change

-- refusal 13: where a counter ends that k entries change (0 stands for less)
unfoldable pub end_value : Change → ℕ → ℕ → ℕ
end_value added old k = old + k
end_value removed old k = old - k

-- refusal 13: it would end below 0
unfoldable pub ends_below : Change → ℕ → ℕ → Bool
ends_below added old k = false
ends_below removed old k = above k old

-- refusal 13, ledger 8: it would end below 0 or above the limit; one that no entry changes is not judged
unfoldable pub overruns : Change → ℕ → ℕ → Bool
overruns d old k = above k 0 && (ends_below d old k || above (end_value d old k) counter_limit)

-- refusal 13: some counter of the region would, the m entries e taken together
unfoldable pub some_overrun : Change → Store → ℕ → (ℕ → Entry) → Bool
some_overrun d s m e = some_region_block s (λ b. some_counter (λ c. overruns d (counter c s b) (gain m e c b)))

-- create leaves, free leaves, map leaves, link leaves, unmap leaves: the ledger when the m entries e are added or taken;
-- every counter of the region is stored, most with the value that it has
abbrev pub recounted : Change → Store → ℕ → (ℕ → Entry) → List ℕ
recounted d s m e = recount s.ledger (blocks s) (λ c b. end_value d (record_word s.ledger (counter_word c) b) (gain m e c (base s + b)))

-- What create and free have in common

-- create leaves, free leaves: the type of the table's blocks afterwards
abbrev pub type_after : Change → Level → ℕ
type_after added v = type_code v
type_after removed v = type_d

-- create leaves, free leaves: the counters changed by the table's entries, then its blocks' types; the memory as it was
abbrev pub retyped : Change → Level → Store → ℕ → Store
retyped d v s p =
    record { memory = s.memory; ledger = retype (recounted d s (table_entries v) (table_entry v s p)) (p - base s) (table_blocks v) (type_after d v) }

-- What create and map have in common

-- calls 8: how many blocks the m entries e execute that are not marked
unfoldable pub hashed_blocks : Store → ℕ → (ℕ → Entry) → ℕ
hashed_blocks s m e = count (blocks s) (λ b. executed m e (base s + b) && not (marked s (base s + b)))

-- create leaves, map leaves, calls 8: after with the blocks marked that the m entries e execute, and how many of these were not marked in s, the store at the call
abbrev pub admitting : Store → ℕ → (ℕ → Entry) → Store → Accepted
admitting s m e after =
    record { store = record { memory = after.memory; ledger = mark_blocks after.ledger (blocks s) (λ b. executed m e (base s + b)) }; byte = 0; hashed = hashed_blocks s m e }

-- What map, link and unmap have in common

-- map leaves, link leaves, unmap leaves, ledger 10: the m words w stored from entry i on, the entries e added to the counters or taken, and the
-- holder's mark cleared
abbrev pub edited : Change → Store → ℕ → ℕ → ℕ → (ℕ → Entry) → (ℕ → ℕ) → Store
edited d s p i m e w = record { memory = fill s.memory (word_index s p i) m w; ledger = clear_mark (recounted d s m e) (holder p i - base s) }

-- map 8, link 8: one of the m entries from i on is no fault
abbrev pub occupied : Level → Store → ℕ → ℕ → ℕ → Bool
occupied v s p i m = any m (λ k. not (is_fault (table_entry v s p (i + k))))

-- map leaves, link leaves: the words of the m entries e, of this memory kind, stored from entry i on (entries 15, entries 16), and the entries added
abbrev pub entered : ℕ → Store → ℕ → ℕ → ℕ → (ℕ → Entry) → Store
entered kind s p i m e = edited added s p i m e (λ k. word_of kind (e k))
