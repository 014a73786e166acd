-- What functions owe each other: a word that lies in the memory, a place that has an address, a bit, a number of a packed table (RULES: entries, calls, forms).
use Rattle.std.specs.Prelude.{Bool, true, false, List, ◌≡◌, ℕ, ◌+◌, ◌*◌, ◌/◌, ◌%◌, ◌^◌, ◌≤◌, ◌<◌, eqb, length, get_or}
use Rattle.words.specs.Words.{bits}
use Rattle.entries.specs.Entries.{Entry, Level, l1, l2, l1_entry, l2_entry, section_blocks, large_blocks, run_words}

-- calls 1, memory 4: word j lies in the lent memory
abbrev pub HoldsWord : List ℕ → ℕ → Type 0
HoldsWord mem j = 4 * j + 4 ≤ length mem

-- calls 1, entries 21: so do the aligned sixteen words around it
abbrev pub HoldsRun : List ℕ → ℕ → Type 0
HoldsRun mem j = 4 * (run_words * (j / run_words) + run_words) ≤ length mem

-- entries 8: b can be the block of a page, whose number has 20 bits
abbrev pub IsBlock : ℕ → Type 0
IsBlock b = b < 2 ^ 20

-- entries 7: b can be the first block of a section
abbrev pub IsSectionStart : ℕ → Type 0
IsSectionStart b = (b < 2 ^ 20) × (b % section_blocks ≡ 0)

-- entries 20: b can be the first block of a large page
abbrev pub IsLargeStart : ℕ → Type 0
IsLargeStart b = (b < 2 ^ 20) × (b % large_blocks ≡ 0)

-- entries 6: p can be the address of an L2 table / 1,024, which has 22 bits
abbrev pub IsTablePlace : ℕ → Type 0
IsTablePlace p = p < 2 ^ 22

-- entries 21: what word w at index j of a table of this level means, where it is accepted: if it has the form of a large page, it stands in a run
abbrev pub accepted_at : Level → ℕ → ℕ → Entry
accepted_at l1 j w = l1_entry w
accepted_at l2 j w = l2_entry true (j % run_words) w

-- entries 8: bit 1, which at level 2 tells pages from all else that is accepted
abbrev pub has_page_bit : Level → ℕ → Bool
has_page_bit l1 w = false
has_page_bit l2 w = eqb (bits w 1 1) 1

-- forms 5: the number at an index of a packed table, which has two to a byte, that of an even index in the low half
unfoldable pub packed_at : List ℕ → ℕ → ℕ
packed_at pairs i = bits (get_or pairs (i / 2) 0) (4 * (i % 2)) 4
