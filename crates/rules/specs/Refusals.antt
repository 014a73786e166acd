-- Refusals: the tests of a call, in the order of its list (RULES: calls).
use Rattle.std.specs.Prelude.{Bool, true, false, List, [], ◌∷◌, ℕ}

infix 68 ◌if◌
-- calls 2: a refusal: its number, and the test by which it applies
pub data Refusal : Type 0 where
  ◌if◌ : ℕ → Bool → Refusal

-- calls 2: the first refusal whose test holds answers, and 0 if none does
unfoldable pub answer_of : List Refusal → ℕ
answer_of [] = 0
answer_of (k if true ∷ rs) = k
answer_of (k if false ∷ rs) = answer_of rs
