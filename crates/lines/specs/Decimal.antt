-- Numbers in decimal, in ASCII (RULES: program).
use Rattle.std.specs.Prelude.{cond, List, [], ◌∷◌, ◌++◌, ℕ, zero, suc, ◌+◌, ◌/◌, ◌%◌, ltb}

-- program 4: the character of a digit; no meaning from 10 on
abbrev pub digit : ℕ → ℕ
digit d = 48 + d

-- program 4: the last digits of v, as many as asked for, or all if there are fewer
unfoldable pub digits : ℕ → ℕ → List ℕ
digits zero v = []
digits (suc n) v = cond (ltb v 10) [] (digits n (v / 10)) ++ (digit (v % 10) ∷ [])

-- program 4: v in decimal, the most significant digit first; v + 1 digits are enough for every v
unfoldable pub decimal : ℕ → List ℕ
decimal v = digits (suc v) v
