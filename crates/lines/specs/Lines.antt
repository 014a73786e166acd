-- The lines that the program prints, in ASCII (RULES: program).
use Rattle.std.specs.Prelude.{cond, List, [], ◌∷◌, ◌++◌, ℕ, leb}
use Rattle.lines.specs.declared.Line.{Line}
use Rattle.lines.specs.declared.Line.TheVariants.{Answer, AnswerWithByte, Bad}
use Rattle.lines.specs.Decimal.{decimal}

-- program 4, program 5: a space
abbrev pub space : ℕ
space = 32

-- program 4, program 5: the end of a line
abbrev pub line_feed : ℕ
line_feed = 10

-- program 5: the word bad
abbrev pub bad : List ℕ
bad = 98 ∷ 97 ∷ 100 ∷ []

-- program 4, program 5: the words of a line with a space between each two, and a line feed at the end
unfoldable pub line : List (List ℕ) → List ℕ
line [] = line_feed ∷ []
line (w ∷ []) = w ++ (line_feed ∷ [])
line (w ∷ v ∷ ws) = w ++ (space ∷ line (v ∷ ws))

-- program 4, program 5: the text of a line
unfoldable pub text_of : Line → List ℕ
text_of (Answer call answer) = line (decimal call ∷ decimal answer ∷ [])
text_of (AnswerWithByte call answer byte) = line (decimal call ∷ decimal answer ∷ decimal byte ∷ [])
text_of (Bad obeyed) = line (bad ∷ decimal obeyed ∷ [])

-- program 5: the bytes of the longest line: bad, a space, a number of 64 bits in 20 digits, and a line feed
abbrev pub longest_line : ℕ
longest_line = 25

-- program 4, program 5: the text of a line where there is room for the longest, else nothing
unfoldable pub fitting : ℕ → Line → List ℕ
fitting room l = cond (leb longest_line room) (text_of l) []
