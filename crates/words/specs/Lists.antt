-- Parts of lists, lists by their elements, and lists stored over others. Plain mathematics.
use Rattle.std.specs.Prelude.{List, [], ◌∷◌, ◌++◌, ℕ, zero, suc, take, drop, set}

-- the m elements of xs from place a on (as many of them as there are)
unfoldable pub part : List ℕ → ℕ → ℕ → List ℕ
part xs a m = take m (drop a xs)

-- f 0, f 1, .., f (n - 1)
unfoldable pub tabulate : (ℕ → ℕ) → ℕ → List ℕ
tabulate f zero = []
tabulate f (suc n) = tabulate f n ++ (f n ∷ [])

-- xs with ys stored over its own elements from place a on, as far as xs reaches
unfoldable pub put_list : List ℕ → ℕ → List ℕ → List ℕ
put_list xs a [] = xs
put_list xs a (y ∷ ys) = put_list (set xs a y) (suc a) ys
