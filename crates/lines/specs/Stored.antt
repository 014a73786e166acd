-- What a function owes that stores a text (RULES: program).
use Rattle.std.specs.Prelude.{List, ◌≡◌, ℕ, ◌+◌, length}
use Rattle.words.specs.Lists.{put_list}

-- program 4, program 5: ys are stored in xs from place a on, which leaves zs, and e is the place after them
pub record Stored (xs : List ℕ) (a : ℕ) (ys zs : List ℕ) (e : ℕ) : Type 0 where
  pub bytes : zs ≡ put_list xs a ys
  pub end : e ≡ a + length ys
