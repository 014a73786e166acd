-- Rights: what a number of them holds, which are lawful in a call, and which AP and XN give (RULES: entries, map).
use Rattle.std.specs.Prelude.{Bool, not, ◌&&◌, ◌||◌, ℕ, ◌+◌, ◌*◌, eqb}
use Rattle.words.specs.Bounded.{above, neqb, num}
use Rattle.words.specs.Words.{bits}

-- entries 12: the three rights
pub data Right : Type 0 where
  read : Right
  write : Right
  execute : Right

-- entries 12: the rights r hold this one; bits of r above bit 2 are no rights
unfoldable pub allows : ℕ → Right → Bool
allows r read = eqb (bits r 0 1) 1
allows r write = eqb (bits r 1 1) 1
allows r execute = eqb (bits r 2 1) 1

-- map 9: the rights are above 7, or hold write or execute and not read
unfoldable pub unlawful_rights : ℕ → Bool
unlawful_rights r = above r 7 || not (allows r read) && (allows r write || allows r execute)

-- entries 9: AP of an accepted section or page, large or not
abbrev pub accepted_ap : ℕ → Bool
accepted_ap ap = neqb ap 0b100

-- entries 10, processor 3: AP gives read
unfoldable pub may_read : ℕ → Bool
may_read ap = eqb ap 0b010 || eqb ap 0b110 || eqb ap 0b111 || eqb ap 0b011

-- entries 10, processor 3: AP gives write
unfoldable pub may_write : ℕ → Bool
may_write ap = eqb ap 0b011

-- entries 11, processor 3: AP and XN give execute
unfoldable pub may_execute : ℕ → ℕ → Bool
may_execute ap xn = may_read ap && eqb xn 0

-- entries 12: the rights that AP and XN give, as one number; no meaning for AP 100, which is not accepted
unfoldable pub rights_of : ℕ → ℕ → ℕ
rights_of ap xn = 1 * num (may_read ap) + 2 * num (may_write ap) + 4 * num (may_execute ap xn)
