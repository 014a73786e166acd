-- The lines of records, with the answers and bytes that its steps gave (RULES: program).
use Rattle.std.specs.Prelude.{Bool, cond, ◌&&◌, ◌||◌, List, [], ◌++◌, ℕ, zero, suc, ◌+◌, ◌*◌, eqb, get_or}
use Rattle.lines.specs.declared.Line.{Line}
use Rattle.lines.specs.declared.Line.TheVariants.{Answer, AnswerWithByte}
use Rattle.lines.specs.Lines.{text_of}
use Rattle.steps.specs.Records.{record_bytes, call_place}

-- program 3, program 4: the call byte is that of a read or a fetch
abbrev pub gives_byte : ℕ → Bool
gives_byte call = eqb call 12 || eqb call 14

-- program 4: the line of a call byte, an answer and a byte
unfoldable pub line_of : ℕ → ℕ → ℕ → Line
line_of call answer byte = cond (eqb answer 0 && gives_byte call) (AnswerWithByte call answer byte) (Answer call answer)

-- program 4: the lines of the first n records; no meaning if there are fewer records, answers or bytes
unfoldable pub transcript : List ℕ → List ℕ → List ℕ → ℕ → List ℕ
transcript records answers bytes zero = []
transcript records answers bytes (suc n) =
    transcript records answers bytes n ++ text_of (line_of (get_or records (record_bytes * n + call_place) 0) (get_or answers n 0) (get_or bytes n 0))

-- program 9: the most records that are obeyed between two reads
abbrev pub batch : ℕ
batch = 2048
