-- Words of 32 bits, and numbers of 16, in a list of bytes; bits of a number (RULES: memory, ledger).
use Rattle.std.specs.Prelude.{List, ℕ, ◌+◌, ◌*◌, ◌/◌, ◌%◌, ◌^◌, get_or, set}

-- the n bits of v from bit lo on
abbrev pub bits : ℕ → ℕ → ℕ → ℕ
bits v lo n = v / 2 ^ lo % 2 ^ n

-- v with its n bits from bit lo on replaced by the lowest n bits of u
unfoldable pub put_bits : ℕ → ℕ → ℕ → ℕ → ℕ
put_bits v lo n u = 2 ^ (n + lo) * (v / 2 ^ (n + lo)) + (2 ^ lo * (u % 2 ^ n) + v % 2 ^ lo)

-- ledger 11: the number whose two bytes stand from place a on, the lower first; a byte behind the end of the list counts as 0
unfoldable pub half : List ℕ → ℕ → ℕ
half xs a = get_or xs a 0 + 2 ^ 8 * get_or xs (a + 1) 0

-- memory 4: the word whose four bytes stand from place a on; a byte behind the end of the list counts as 0
unfoldable pub word : List ℕ → ℕ → ℕ
word xs a = get_or xs a 0 + 2 ^ 8 * get_or xs (a + 1) 0 + 2 ^ 16 * get_or xs (a + 2) 0 + 2 ^ 24 * get_or xs (a + 3) 0

-- memory 4: xs with the low 32 bits of v stored from place a on; a byte behind the end of the list is not stored
unfoldable pub put_word : List ℕ → ℕ → ℕ → List ℕ
put_word xs a v =
    set (set (set (set xs a (bits v 0 8)) (a + 1) (bits v 8 8)) (a + 2) (bits v 16 8)) (a + 3) (bits v 24 8)
