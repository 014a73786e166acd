-- Laws of lines: a line is its first word, a space and the line of the rest; none is longer than the longest; and what is stored where one fits.
use mathlib.Core.Path.{◌≡◌, refl, sym, ap, ◌∙◌}
use mathlib.Core.List.{List, [], ◌∷◌, ◌++◌, append_assoc}
use Prim.Native.Nat.{ℕ, ◌+◌, ◌-◌, ◌^◌, ◌<◌, ◌≤◌}
use native.Mathlib.Omega.{arith}
use lib.ListN.{length, length-append}
use borrow.Author.Tests.{le-leb, lt-leb}
use Rattle.words.specs.Lists.{put_list}
use Rattle.lines.specs.declared.Line.{Line}
use Rattle.lines.specs.declared.Line.TheVariants.{Answer, AnswerWithByte, Bad}
use Rattle.lines.specs.Decimal.{decimal, digits}
use Rattle.lines.specs.Lines.{space, line_feed, bad, line, text_of, longest_line, fitting}
use Rattle.lines.specs.Stored.{Stored}
use Rattle.lines.proofs.Decimal.{length-decimal}
use Rattle.lines.proofs.Stored.{stored_then}

line_more : (w v : List ℕ) (ws : List (List ℕ)) → line (w ∷ v ∷ ws) ≡ (w ++ (space ∷ [])) ++ line (v ∷ ws)
unfolding line
line_more w v ws = sym (append_assoc w (space ∷ []) (line (v ∷ ws)))

pub stored_word : (xs : List ℕ) (a : ℕ) (w v : List ℕ) (ws : List (List ℕ)) {zs vs : List ℕ} {b e : ℕ}
    → Stored xs a (w ++ (space ∷ [])) zs b → Stored zs b (line (v ∷ ws)) vs e → Stored xs a (line (w ∷ v ∷ ws)) vs e
stored_word xs a w v ws first rest = rw (line_more w v ws) (stored_then xs a (w ++ (space ∷ [])) (line (v ∷ ws)) first rest)

-- Lengths

length-line_one : (w : List ℕ) → length (line (w ∷ [])) ≡ length w + 1
unfolding line
length-line_one w = length-append w (line_feed ∷ [])

length-line_more : (w v : List ℕ) (ws : List (List ℕ)) → length (line (w ∷ v ∷ ws)) ≡ length w + 1 + length (line (v ∷ ws))
length-line_more w v ws = ap length (line_more w v ws) ∙ simp length-append

module _ (call answer : ℕ) where
  pub length_answer : length (text_of (Answer call answer)) ≡ length (decimal call) + length (decimal answer) + 2
  unfolding text_of
  length_answer = omega (arith, length-line_more (decimal call) (decimal answer) [], length-line_one (decimal answer))

  pub length_answer_with_byte : (byte : ℕ) → length (text_of (AnswerWithByte call answer byte)) ≡ length (decimal call) + length (decimal answer) + length (decimal byte) + 3
  unfolding text_of
  length_answer_with_byte byte =
      omega (arith, length-line_more (decimal call) (decimal answer) (decimal byte ∷ []), length-line_more (decimal answer) (decimal byte) [], length-line_one (decimal byte))

pub length-bad : (obeyed : ℕ) → length (text_of (Bad obeyed)) ≡ length (decimal obeyed) + 5
unfolding text_of
length-bad obeyed = omega (arith, length-line_more bad (decimal obeyed) [], length-line_one (decimal obeyed))

-- No line of the code's numbers is longer than the longest

pub longest_answer : (call answer : ℕ) → call < 2 ^ 8 → answer < 2 ^ 32 → length (text_of (Answer call answer)) ≤ longest_line
longest_answer call answer hc ha =
    omega (arith, length_answer call answer, length-decimal 2 call (omega arith), length-decimal 9 answer (omega arith))

pub longest_answer_with_byte : (call answer byte : ℕ) → call < 2 ^ 8 → answer < 2 ^ 32 → byte < 2 ^ 8
    → length (text_of (AnswerWithByte call answer byte)) ≤ longest_line
longest_answer_with_byte call answer byte hc ha hb =
    omega (
      arith,
      length_answer_with_byte call answer byte,
      length-decimal 2 call (omega arith),
      length-decimal 9 answer (omega arith),
      length-decimal 2 byte (omega arith),
    )

-- the same bounds, by the lengths of the words
pub words_answer : (call answer : ℕ) → call < 2 ^ 8 → answer < 2 ^ 32 → length (decimal call) + length (decimal answer) + 2 ≤ longest_line
words_answer call answer hc ha = omega (arith, length_answer call answer, longest_answer call answer hc ha)

pub words_answer_with_byte : (call answer byte : ℕ) → call < 2 ^ 8 → answer < 2 ^ 32 → byte < 2 ^ 8
    → length (decimal call) + length (decimal answer) + length (decimal byte) + 3 ≤ longest_line
words_answer_with_byte call answer byte hc ha hb =
    omega (arith, length_answer_with_byte call answer byte, longest_answer_with_byte call answer byte hc ha hb)

pub longest_bad : (obeyed : ℕ) → obeyed < 2 ^ 64 → length (text_of (Bad obeyed)) ≤ longest_line
longest_bad obeyed h = omega (arith, length-bad obeyed, length-decimal 19 obeyed (omega arith))

-- Lines in a room

pub fitting-line : (room : ℕ) (l : Line) → longest_line ≤ room → fitting room l ≡ text_of l
unfolding fitting
fitting-line room l h = rw (le-leb longest_line room h) refl

pub stored_fitting : (xs : List ℕ) (a : ℕ) {l m : Line} {zs : List ℕ} {e : ℕ}
    → longest_line ≤ length xs - a → l ≡ m → Stored xs a (text_of m) zs e → Stored xs a (fitting (length xs - a) l) zs e
stored_fitting xs a {l} h is stored = rw (fitting-line (length xs - a) l h, is) stored

pub stored_none : (xs : List ℕ) (a : ℕ) (l : Line) → length xs - a < longest_line → Stored xs a (fitting (length xs - a) l) xs a
unfolding fitting put_list
stored_none xs a l h = rw (lt-leb longest_line (length xs - a) h) (record { bytes = refl; end = omega arith })

-- the turn of a loop that stores line after line
pub stored_line : (xs : List ℕ) (a : ℕ) (ys : List ℕ) (l : Line) {zs vs : List ℕ} {b e : ℕ}
    → longest_line ≤ length zs - b → Stored xs a ys zs b → Stored zs b (fitting (length zs - b) l) vs e → Stored xs a (ys ++ text_of l) vs e
stored_line xs a ys l {zs} {b = b} h before last = stored_then xs a ys (text_of l) before (rw (fitting-line (length zs - b) l h) at last)

-- two lines of crates/pagemon/stdout (program 7), and one of a bad record
samples : text_of (Answer 14 23) ++ text_of (AnswerWithByte 12 0 65) ++ text_of (Bad 11)
    ≡ 49 ∷ 52 ∷ 32 ∷ 50 ∷ 51 ∷ 10 ∷ 49 ∷ 50 ∷ 32 ∷ 48 ∷ 32 ∷ 54 ∷ 53 ∷ 10 ∷ 98 ∷ 97 ∷ 100 ∷ 32 ∷ 49 ∷ 49 ∷ 10 ∷ []
unfolding text_of line decimal digits
samples = refl
