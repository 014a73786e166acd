-- What the functions of the padding require (RULES: signature).
use Rattle.std.specs.Prelude.{ℕ, ◌+◌, ◌^◌, ◌<◌}

-- signature 5: a message of n bytes for which no sum of the padding passes 2 ^ 64: any that can be lent, with a few bytes in front
abbrev pub Paddable : ℕ → Type 0
Paddable n = n < 2 ^ 63 + 64
