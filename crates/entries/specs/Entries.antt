-- What a word of a table means (RULES: entries, processor).
use Rattle.std.specs.Prelude.{Bool, true, false, cond, not, ◌&&◌, List, ℕ, ◌+◌, ◌*◌, ◌/◌, ◌%◌, eqb}
use Rattle.words.specs.Bounded.{neqb, among, any}
use Rattle.words.specs.Words.{bits, word}
use Rattle.entries.specs.Rights.{accepted_ap, rights_of}

-- entries 4: the five sorts of entry, or not accepted. A link has the address of its L2 table / 1,024, a section its first block and its rights,
-- a page its block and its rights, an entry of a large page its own one of the page's blocks and its rights
pub data Entry : Type 0 where
  fault : Entry
  unaccepted : Entry
  link : ℕ → Entry
  section : ℕ → ℕ → Entry
  page : ℕ → ℕ → Entry
  large : ℕ → ℕ → Entry

-- entries 1, entries 2: the two levels of tables
pub data Level : Type 0 where
  l1 : Level
  l2 : Level

-- entries 2: the L2 tables of an L2 block
abbrev pub block_tables : ℕ
block_tables = 4

-- entries 7: the blocks of a section
abbrev pub section_blocks : ℕ
section_blocks = 256

-- entries 20: the blocks of a large page
abbrev pub large_blocks : ℕ
large_blocks = 16

-- entries 21: the words of a run, one for each block of a large page
abbrev pub run_words : ℕ
run_words = 16

-- entries 7: AP of a section, bits 15, 11 and 10
abbrev pub section_ap : ℕ → ℕ
section_ap w = 4 * bits w 15 1 + bits w 10 2

-- entries 7: XN of a section, bit 4
abbrev pub section_xn : ℕ → ℕ
section_xn w = bits w 4 1

-- entries 8, entries 20: AP of a page, large or not, bits 9, 5 and 4
abbrev pub page_ap : ℕ → ℕ
page_ap w = 4 * bits w 9 1 + bits w 4 2

-- entries 8: XN of a page, bit 0
abbrev pub page_xn : ℕ → ℕ
page_xn w = bits w 0 1

-- entries 20: XN of a large page, bit 15
abbrev pub large_xn : ℕ → ℕ
large_xn w = bits w 15 1

-- entries 6, processor 2: the word is a link; among the bits that are 0 is the domain, 8..5
unfoldable pub is_link_form : ℕ → Bool
is_link_form w = eqb (bits w 0 2) 0b01 && eqb (bits w 2 8) 0

-- entries 7, processor 2, processor 4: the bits that are 0 in a section; 18 would be a supersection, 8..5 are the domain
abbrev pub section_zeros : ℕ → Bool
section_zeros w = eqb (bits w 18 2) 0 && eqb (bits w 5 5) 0

-- entries 7, entries 9: the word is an accepted section
unfoldable pub is_section_form : ℕ → Bool
is_section_form w = eqb (bits w 0 2) 0b10 && section_zeros w && accepted_ap (section_ap w)

-- entries 8, entries 9: the word is an accepted page
unfoldable pub is_page_form : ℕ → Bool
is_page_form w = eqb (bits w 1 1) 1 && accepted_ap (page_ap w)

-- entries 20, entries 9: the word has the form of a large page
unfoldable pub is_large_form : ℕ → Bool
is_large_form w = eqb (bits w 0 2) 0b01 && eqb (bits w 6 3) 0 && accepted_ap (page_ap w)

-- entries 4, entries 5, entries 6, entries 7, processor 1: what a word of an L1 table means
unfoldable pub l1_entry : ℕ → Entry
l1_entry w =
    cond (eqb (bits w 0 2) 0b00) fault
    (cond (is_link_form w) (link (bits w 10 22))
    (cond (is_section_form w) (section (section_blocks * bits w 20 12) (rights_of (section_ap w) (section_xn w)))
    unaccepted))

-- entries 4, entries 5, entries 8, entries 20, entries 21, processor 1: what word w of an L2 table means at position k of its aligned sixteen words, which
-- are all w, a run, or not
unfoldable pub l2_entry : Bool → ℕ → ℕ → Entry
l2_entry run k w =
    cond (eqb (bits w 0 2) 0b00) fault
    (cond (is_page_form w) (page (bits w 12 20) (rights_of (page_ap w) (page_xn w)))
    (cond (is_large_form w && run) (large (large_blocks * bits w 16 16 + k) (rights_of (page_ap w) (large_xn w)))
    unaccepted))

-- entries 21: word k of the aligned sixteen words of the memory around word j
abbrev pub run_word : List ℕ → ℕ → ℕ → ℕ
run_word mem j k = word mem (4 * (run_words * (j / run_words) + k))

-- entries 21: these sixteen all equal word j
unfoldable pub is_run : List ℕ → ℕ → Bool
is_run mem j = not (any run_words (λ k. neqb (run_word mem j k) (word mem (4 * j))))

-- entries 1, entries 2, memory 4: word j of the memory, read as an entry of a table of this level; no meaning behind the memory. Tables are whole blocks, so
-- that words are aligned in the memory as they are in their table
unfoldable pub entry_at : Level → List ℕ → ℕ → Entry
entry_at l1 mem j = l1_entry (word mem (4 * j))
entry_at l2 mem j = l2_entry (is_run mem j) (j % run_words) (word mem (4 * j))

-- entries 13: the number of page rights of an L2 entry; no meaning for links and sections, which are none
unfoldable pub code_of : Entry → ℕ
code_of fault = 0
code_of unaccepted = 7
code_of (link p) = 7
code_of (section b r) = 8 + r
code_of (page b r) = 8 + r
code_of (large b r) = 8 + r

-- entries 13: the page rights of a whole L2 word; of the form of a large page, those that it has in a run
unfoldable pub word_code : ℕ → ℕ
word_code w = code_of (l2_entry true 0 w)

-- entries 22: the number of the table where the whole word has to be looked at
abbrev pub whole_word : ℕ
whole_word = 6

-- entries 22, entries 14: the number of the table at this index, which is bits 9..0 of an L2 word
unfoldable pub page_code : ℕ → ℕ
page_code low = cond (eqb (bits low 0 2) 0b01) whole_word (word_code low)

-- entries 5: the entry is a fault
unfoldable pub is_fault : Entry → Bool
is_fault fault = true
is_fault unaccepted = false
is_fault (link p) = false
is_fault (section b r) = false
is_fault (page b r) = false
is_fault (large b r) = false

-- entries 4: the word is not accepted
unfoldable pub is_unaccepted : Entry → Bool
is_unaccepted fault = false
is_unaccepted unaccepted = true
is_unaccepted (link p) = false
is_unaccepted (section b r) = false
is_unaccepted (page b r) = false
is_unaccepted (large b r) = false

-- entries 6: the entry is a link
unfoldable pub is_link : Entry → Bool
is_link fault = false
is_link unaccepted = false
is_link (link p) = true
is_link (section b r) = false
is_link (page b r) = false
is_link (large b r) = false

-- entries 7: the entry is a section
unfoldable pub is_section : Entry → Bool
is_section fault = false
is_section unaccepted = false
is_section (link p) = false
is_section (section b r) = true
is_section (page b r) = false
is_section (large b r) = false

-- entries 8: the entry is a page
unfoldable pub is_page : Entry → Bool
is_page fault = false
is_page unaccepted = false
is_page (link p) = false
is_page (section b r) = false
is_page (page b r) = true
is_page (large b r) = false

-- entries 20: the entry is one of a large page
unfoldable pub is_large : Entry → Bool
is_large fault = false
is_large unaccepted = false
is_large (link p) = false
is_large (section b r) = false
is_large (page b r) = false
is_large (large b r) = true

-- entries 12: the rights that a section or a page, large or not, gives, as one number; all else gives none
unfoldable pub rights : Entry → ℕ
rights fault = 0
rights unaccepted = 0
rights (link p) = 0
rights (section b r) = r
rights (page b r) = r
rights (large b r) = r

-- entries 17: the first block of the place of an entry, which of a large page is a multiple of 16; no meaning where there is none
unfoldable pub place_first : Entry → ℕ
place_first fault = 0
place_first unaccepted = 0
place_first (link p) = p / block_tables
place_first (section b r) = b
place_first (page b r) = b
place_first (large b r) = large_blocks * (b / large_blocks)

-- entries 17: the number of blocks of this place; 0 for a fault, and for what is not accepted
unfoldable pub place_blocks : Entry → ℕ
place_blocks fault = 0
place_blocks unaccepted = 0
place_blocks (link p) = 1
place_blocks (section b r) = section_blocks
place_blocks (page b r) = 1
place_blocks (large b r) = large_blocks

-- entries 18: the first block that an entry covers, as of its place but for a large page; no meaning where it covers none
unfoldable pub cover_first : Entry → ℕ
cover_first fault = 0
cover_first unaccepted = 0
cover_first (link p) = p / block_tables
cover_first (section b r) = b
cover_first (page b r) = b
cover_first (large b r) = b

-- entries 18: the number of blocks that it covers
unfoldable pub cover_blocks : Entry → ℕ
cover_blocks fault = 0
cover_blocks unaccepted = 0
cover_blocks (link p) = 1
cover_blocks (section b r) = section_blocks
cover_blocks (page b r) = 1
cover_blocks (large b r) = 1

-- entries 18: it covers block b
unfoldable pub covers : Entry → ℕ → Bool
covers e b = among (cover_first e) (cover_blocks e) b
