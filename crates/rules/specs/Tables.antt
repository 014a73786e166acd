-- Tables, mappings, and on which blocks an entry counts (RULES: ledger, entries, map, unmap).
use Rattle.std.specs.Prelude.{Bool, cond, ◌&&◌, ◌||◌, List, ℕ, ◌+◌, ◌-◌, ◌*◌, eqb}
use Rattle.words.specs.Bounded.{above, count}
use Rattle.entries.specs.Entries.{Entry, fault, section, page, large, Level, l1, l2, section_blocks, large_blocks, run_words, entry_at, is_fault, is_link, is_section, is_page, is_large, rights, place_first, place_blocks, covers}
use Rattle.entries.specs.Rights.{write, execute, allows}
use Rattle.rules.specs.Store.{block_words, Store, base, Counter, writable, executable, linked, outside}

-- ledger 4: the type of data
abbrev pub type_d : ℕ
type_d = 0

-- ledger 4: the types of an L1 table's blocks and of an L2 block
abbrev pub type_code : Level → ℕ
type_code l1 = 1
type_code l2 = 2

-- entries 1, entries 2: the blocks of an L1 table and of an L2 block; the first is a multiple of their number
abbrev pub table_blocks : Level → ℕ
table_blocks l1 = 4
table_blocks l2 = 1

-- entries 1, entries 2: how many entries there are: one for each word
abbrev pub table_entries : Level → ℕ
table_entries v = block_words * table_blocks v

-- entries 2: the words of one L2 table
abbrev pub l2_words : ℕ
l2_words = 256

-- entries 7, entries 8, entries 20: what a map enters: a section in an L1 table, a page in an L2 block, or a large page there
pub data Form : Type 0 where
  sections : Form
  pages : Form
  larges : Form

-- entries 7, entries 8, entries 20: the level at which a form stands
abbrev pub level : Form → Level
level sections = l1
level pages = l2
level larges = l2

-- map target, map 3: how many blocks a target has; its first has to be a multiple of that
abbrev pub target_blocks : Form → ℕ
target_blocks sections = section_blocks
target_blocks pages = 1
target_blocks larges = large_blocks

-- map leaves, unmap leaves, map 3, unmap 3: the words that a mapping takes; its index has to be a multiple of their number
abbrev pub mapping_words : Form → ℕ
mapping_words sections = 1
mapping_words pages = 1
mapping_words larges = run_words

-- map leaves: the entry of word k of the mapping of target t with rights r
abbrev pub mapping : Form → ℕ → ℕ → ℕ → Entry
mapping sections t r k = section t r
mapping pages t r k = page t r
mapping larges t r k = large (t + k) r

-- unmap 8: the entry is one that this unmap takes: unmap L1 any accepted one, unmap L2 a fault or a page, unmap large an entry of a large page
unfoldable pub takes : Form → Entry → Bool
takes sections e = is_fault e || is_section e || is_link e
takes pages e = is_fault e || is_page e
takes larges e = is_large e

-- ledger 5: word j of the memory as an entry of a block of type t; a fault, which counts nowhere, if t is no table's
unfoldable pub typed_entry : ℕ → List ℕ → ℕ → Entry
typed_entry t memory j = cond (eqb t (type_code l1)) (entry_at l1 memory j) (cond (eqb t (type_code l2)) (entry_at l2 memory j) fault)

-- entries 1, entries 2: which word of the memory entry i of the table at physical block p is; below B this says nothing, and 2 comes first
abbrev pub word_index : Store → ℕ → ℕ → ℕ
word_index s p i = block_words * (p - base s) + i

-- entries 1, entries 2: entry i of the table at physical block p
abbrev pub table_entry : Level → Store → ℕ → ℕ → Entry
table_entry v s p i = entry_at v s.memory (word_index s p i)

-- ledger 6: the entry does what c counts: lets the guest write, lets it execute, or links
unfoldable pub grants : Counter → Entry → Bool
grants writable e = allows (rights e) write
grants executable e = allows (rights e) execute
grants linked e = is_link e

-- ledger 6, ledger 7: the entry counts in c of physical block p
unfoldable pub gives : Counter → Entry → ℕ → Bool
gives c e p = grants c e && covers e p

-- ledger 6, ledger 7: how many of the m entries e count in c of physical block p
unfoldable pub gain : ℕ → (ℕ → Entry) → Counter → ℕ → ℕ
gain m e c p = count m (λ i. gives c (e i) p)

-- create 12, create leaves, map leaves, calls 8: one of the m entries e gives execute to physical block p
abbrev pub executed : ℕ → (ℕ → Entry) → ℕ → Bool
executed m e p = above (gain m e executable p) 0

-- entries 17, create 10, free 10, unmap 10, guest 24: the entry has a place, and a part of it lies outside the region
unfoldable pub astray : ℕ → ℕ → Entry → Bool
astray B n e = above (place_blocks e) 0 && outside B n (place_first e) (place_blocks e)
