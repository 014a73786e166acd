-- The words that the monitor writes: place, access bits and memory kind (RULES: entries).
use Rattle.std.specs.Prelude.{Bool, true, cond, List, ◌≢◌, ◌≡◌, ℕ, ◌+◌, ◌-◌, ◌*◌, ◌/◌, ◌^◌, ◌<◌, eqb}
use Rattle.words.specs.Words.{bits, put_bits, word}
use Rattle.entries.specs.Entries.{Entry, fault, unaccepted, link, section, page, large, Level, l1, l2, large_blocks, run_words, l1_entry, l2_entry, run_word, is_run, entry_at}

-- entries 15: the lowest bit of TEX in a page
abbrev pub page_tex : ℕ
page_tex = 6

-- entries 15: in a section
abbrev pub section_tex : ℕ
section_tex = 12

-- entries 15: in a large page
abbrev pub large_tex : ℕ
large_tex = 12

-- entries 15: the bit of S in a page, below that of nG
abbrev pub page_s : ℕ
page_s = 10

-- entries 15: in a section
abbrev pub section_s : ℕ
section_s = 16

-- entries 15: in a large page
abbrev pub large_s : ℕ
large_s = 10

-- entries 15, ledger 12: the bits of a kind at their places in a word, by the weights that the lowest bit of TEX and the bit of S have there; those of B
-- and C are 4 and 8 in every form
abbrev pub kind_bits : ℕ → ℕ → ℕ → ℕ
kind_bits tex s kind = 2 ^ 2 * bits kind 0 2 + tex * bits kind 2 3 + s * bits kind 5 1 + 2 * s * bits kind 6 1

-- entries 15: AP for rights 0, 1, 3 and 5; others are not written
abbrev pub written_ap : ℕ → ℕ
written_ap r = cond (eqb (bits r 1 1) 1) 0b011 (cond (eqb (bits r 0 1) 1) 0b010 0b001)

-- entries 15: XN for rights 0, 1, 3 and 5; others are not written
abbrev pub written_xn : ℕ → ℕ
written_xn r = 1 - bits r 2 1

-- entries 15: the low bits of a page of this kind with these rights
unfoldable pub page_bits : ℕ → ℕ → ℕ
page_bits kind r = kind_bits (2 ^ page_tex) (2 ^ page_s) kind + 2 ^ 4 * written_ap r + 2 + written_xn r

-- entries 15: the low bits of a section, likewise
unfoldable pub section_bits : ℕ → ℕ → ℕ
section_bits kind r = kind_bits (2 ^ section_tex) (2 ^ section_s) kind + 2 ^ 10 * written_ap r + 2 ^ 4 * written_xn r + 2

-- entries 15: the low bits of a large page, likewise
unfoldable pub large_bits : ℕ → ℕ → ℕ
large_bits kind r = kind_bits (2 ^ large_tex) (2 ^ large_s) kind + 2 ^ 4 * written_ap r + 2 ^ 15 * written_xn r + 1

-- entries 16, entries 23: what stands for the kind of a link and of a fault, which have none: no bit of it is written
abbrev pub kindless : ℕ
kindless = 0

-- entries 15, entries 16: the word for an entry of this kind, 0 where one is taken away; no meaning if it is not accepted or its place has no 32-bit address
unfoldable pub word_of : ℕ → Entry → ℕ
word_of kind fault = 0
word_of kind unaccepted = 0
word_of kind (link p) = 2 ^ 10 * p + 1
word_of kind (section b r) = 2 ^ 12 * b + section_bits kind r
word_of kind (page b r) = 2 ^ 12 * b + page_bits kind r
word_of kind (large b r) = 2 ^ 12 * (large_blocks * (b / large_blocks)) + large_bits kind r

-- entries 23: word w with the bits of its kind replaced by those of another, TEX from bit tex on, S and nG from bit s on
abbrev pub put_kind : ℕ → ℕ → ℕ → ℕ → ℕ
put_kind tex s kind w = put_bits (put_bits (put_bits w 2 2 (bits kind 0 2)) tex 3 (bits kind 2 3)) s 2 (bits kind 5 2)

-- entries 23: a word of a table of this level with another kind, at the places of its form; a fault and a link have none
unfoldable pub with_kind : Level → ℕ → ℕ → ℕ
with_kind l1 kind w = cond (eqb (bits w 0 2) 0b10) (put_kind section_tex section_s kind w) w
with_kind l2 kind w = cond (eqb (bits w 1 1) 1) (put_kind page_tex page_s kind w) (cond (eqb (bits w 0 2) 0b01) (put_kind large_tex large_s kind w) w)

-- entries 23: form, place and rights of an entry do not depend on its kind, whichever the two kinds are
pub record KindsApart : Type 0 where
  -- entries 23: of any word of an L1 table
  pub at_l1 : (kind w : ℕ) → l1_entry (with_kind l1 kind w) ≡ l1_entry w
  -- entries 23: of any word of an L2 table, in a run or not, at any position
  pub at_l2 : (kind w : ℕ) (run : Bool) (k : ℕ) → l2_entry run k (with_kind l2 kind w) ≡ l2_entry run k w
  -- entries 23: of any word of an L2 table that has not the low bits of a large page, whatever becomes of the words beside it
  pub alone : (kind : ℕ) (mem after : List ℕ) (j : ℕ) → bits (word mem (4 * j)) 0 2 ≢ 0b01 → word after (4 * j) ≡ with_kind l2 kind (word mem (4 * j))
      → entry_at l2 after j ≡ entry_at l2 mem j
  -- entries 23, entries 21: of a word of a run, where all sixteen get the same kind
  pub in_run : (kind : ℕ) (mem after : List ℕ) (j : ℕ) → is_run mem j ≡ true → ((k : ℕ) → k < run_words → run_word after j k ≡ with_kind l2 kind (run_word mem j k))
      → entry_at l2 after j ≡ entry_at l2 mem j
