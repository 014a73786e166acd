-- The numbers that entries 14 and 15 list come out of the definitions by computation, and so do the places of a kind's bits and of a packed table's numbers.
use mathlib.Core.Path.{◌≡◌, refl}
use mathlib.Core.List.{List, [], ◌∷◌, map}
use Prim.Native.Nat.{ℕ}
use Rattle.words.specs.Bounded.{num}
use Rattle.entries.specs.Rights.{may_read, may_write, may_execute, rights_of}
use Rattle.entries.specs.Entries.{is_page_form, is_large_form, l2_entry, code_of, word_code, page_code}
use Rattle.entries.specs.Written.{page_bits, section_bits, large_bits}
use Rattle.entries.specs.Needs.{packed_at}

-- entries 14: bits 9..0 of twelve words, and the numbers that the table of entries 22 has for them
abbrev pub indices : List ℕ
indices = 0x3FC ∷ 0x00D ∷ 0x20E ∷ 0x00F ∷ 0x01F ∷ 0x21E ∷ 0x02F ∷ 0x23F ∷ 0x03F ∷ 0x02E ∷ 0x22E ∷ 0x03E ∷ []

abbrev pub values : List ℕ
values = 0x0 ∷ 0x6 ∷ 0x7 ∷ 0x8 ∷ 0x8 ∷ 0x8 ∷ 0x9 ∷ 0x9 ∷ 0xB ∷ 0xD ∷ 0xD ∷ 0xF ∷ []

pub twelve_by_rule : map page_code indices ≡ values
unfolding page_code word_code code_of l2_entry is_page_form is_large_form rights_of may_read may_write may_execute num
twelve_by_rule = refl

-- forms 5: the bytes 60 and 9D have the numbers 0, 6, D and 9
pub unpacked : map (packed_at (0x60 ∷ 0x9D ∷ [])) (0 ∷ 1 ∷ 2 ∷ 3 ∷ []) ≡ (0x0 ∷ 0x6 ∷ 0xD ∷ 0x9 ∷ [])
unfolding packed_at
unpacked = refl

-- entries 15: the rights that a map can grant
abbrev pub granted : List ℕ
granted = 0 ∷ 1 ∷ 3 ∷ 5 ∷ []

-- entries 15: the access bits of a page for each of them
pub written_pages : map (page_bits 0) granted ≡ (0x013 ∷ 0x023 ∷ 0x033 ∷ 0x022 ∷ [])
unfolding page_bits
written_pages = refl

-- entries 15: and of a section
pub written_sections : map (section_bits 0) granted ≡ (0x412 ∷ 0x812 ∷ 0xC12 ∷ 0x802 ∷ [])
unfolding section_bits
written_sections = refl

-- entries 15: and of a large page
pub written_larges : map (large_bits 0) granted ≡ (0x8011 ∷ 0x8021 ∷ 0x8031 ∷ 0x0021 ∷ [])
unfolding large_bits
written_larges = refl

-- entries 15, ledger 12: B, C, the lowest bit of TEX, S and nG, each by itself
abbrev pub single_bits : List ℕ
single_bits = 0b1 ∷ 0b10 ∷ 0b100 ∷ 0b100000 ∷ 0b1000000 ∷ []

-- entries 15: where a page, a section and a large page with no rights have them
pub kinds_placed : (map (λ kind. page_bits kind 0) single_bits ≡ (0x017 ∷ 0x01B ∷ 0x053 ∷ 0x413 ∷ 0x813 ∷ []))
    × (map (λ kind. section_bits kind 0) single_bits ≡ (0x416 ∷ 0x41A ∷ 0x1412 ∷ 0x10412 ∷ 0x20412 ∷ []))
    × (map (λ kind. large_bits kind 0) single_bits ≡ (0x8015 ∷ 0x8019 ∷ 0x9011 ∷ 0x8411 ∷ 0x8811 ∷ []))
unfolding page_bits section_bits large_bits
kinds_placed = (refl, refl, refl)

-- entries 15: with B and C, as every mapping was written before there were kinds
pub written_cached : (map (page_bits 0b11) granted ≡ (0x01F ∷ 0x02F ∷ 0x03F ∷ 0x02E ∷ []))
    × (map (section_bits 0b11) granted ≡ (0x41E ∷ 0x81E ∷ 0xC1E ∷ 0x80E ∷ []))
    × (map (large_bits 0b11) granted ≡ (0x801D ∷ 0x802D ∷ 0x803D ∷ 0x002D ∷ []))
unfolding page_bits section_bits large_bits
written_cached = (refl, refl, refl)
