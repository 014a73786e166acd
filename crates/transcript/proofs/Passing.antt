-- A list that is passed part by part: what is left stands behind what was passed, and so does the part that comes next.
use mathlib.Core.List.{List, ◌++◌}
use mathlib.Core.Path.{◌≡◌, sym, ap, ◌∙◌}
use Prim.Native.Nat.{ℕ, ◌+◌, ◌≤◌, ◌<◌}
use native.Mathlib.Omega.{arith}
use lib.ListN.{length, get_or, drop, length-append, length-drop, get_or-append}
use lib.Seq.{drop-append_seam, drop-drop, get_or-drop}

module _ (xs : List ℕ) (n : ℕ) (part rest : List ℕ) {left : List ℕ} (passed : left ≡ drop n xs) (next : left ≡ part ++ rest) where
  pub passed_more : (m : ℕ) → n + length part ≡ m → rest ≡ drop m xs
  passed_more m e = sym (drop-append_seam part rest) ∙ ap (drop (length part)) (sym next ∙ passed) ∙ drop-drop (length part) n xs ∙ ap (λ k. drop k xs) e

  pub next_inside : 0 < length part → n + length part ≤ length xs
  next_inside h = omega (arith, ap length (sym next ∙ passed), length-append part rest, length-drop n xs)

  pub next_at : (i : ℕ) → i < length part → get_or part i 0 ≡ get_or xs (n + i) 0
  next_at i h = sym (get_or-append part rest 0 i h) ∙ ap (λ l. get_or l i 0) (sym next ∙ passed) ∙ get_or-drop n xs i 0
