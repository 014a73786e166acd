-- Laws of storing a text: texts stored one behind the other are one text stored, and the bytes stay as many.
use mathlib.Core.List.{List, ◌++◌}
use mathlib.Core.Path.{◌≡◌, ◌∙◌, ap}
use Prim.Native.Nat.{ℕ}
use native.Mathlib.Omega.{arith}
use lib.ListN.{length, length-append}
use Rattle.words.proofs.Lists.{put_list-append, length-put_list}
use Rattle.lines.specs.Stored.{Stored}

pub stored_then : (xs : List ℕ) (a : ℕ) (ys ws : List ℕ) {zs vs : List ℕ} {b e : ℕ} → Stored xs a ys zs b → Stored zs b ws vs e → Stored xs a (ys ++ ws) vs e
stored_then xs a ys ws first second =
    record { bytes = rw (first.bytes, first.end, put_list-append xs a ys ws) at second.bytes; end = simp length-append (omega arith) }

pub stored_length : (xs : List ℕ) (a : ℕ) (ys : List ℕ) {zs : List ℕ} {e : ℕ} → Stored xs a ys zs e → length zs ≡ length xs
stored_length xs a ys stored = ap length stored.bytes ∙ length-put_list xs a ys
