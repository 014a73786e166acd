-- What the program prints of an input, all at once and as the input arrives (RULES: program).
use Rattle.std.specs.Prelude.{Bool, true, false, cond, List, [], ◌++◌, ◌≡◌, ℕ, ◌+◌, ◌-◌, ◌*◌, ltb, length, drop, replicate}
use Rattle.lines.specs.declared.Line.TheVariants.{Bad}
use Rattle.lines.specs.Lines.{text_of}
use Rattle.rules.specs.Store.{Store, lent, block_bytes, ledger_head_bytes, ledger_record_bytes}
use Rattle.rules.specs.Steps.{Run, run}
use Rattle.steps.specs.Records.{record_bytes, all_steps}
use Rattle.steps.specs.Spoilt.{spoilt}
use Rattle.transcript.specs.Transcript.{transcript}

-- program 4: what the records of these bytes come to, up to the first that holds no step
abbrev pub obeyed : List ℕ → Store → List ℕ → Run
obeyed golden s bytes = run golden s (all_steps bytes)

-- program 4: how many they are
abbrev pub count : List ℕ → ℕ
count bytes = length (all_steps bytes)

-- program 4: their lines
abbrev pub answered : List ℕ → Store → List ℕ → List ℕ
answered golden s bytes = transcript bytes (obeyed golden s bytes).answers (obeyed golden s bytes).bytes (count bytes)

-- program 5, program 6: what is printed where the input ends, with so many bytes left over behind so many records: if there are any, bad
unfoldable pub ending : ℕ → ℕ → List ℕ
ending left number = cond (ltb 0 left) (text_of (Bad number)) []

-- program 4, program 5, program 6: all that is printed of an input: the lines of its records, and what is due for the bytes left over
unfoldable pub output : List ℕ → Store → List ℕ → List ℕ
output golden s input = answered golden s input ++ ending (length input - record_bytes * count input) (count input)

-- program 9: what the program keeps between two arrivals: memory and ledger, the bytes that are not obeyed yet, how many records are obeyed, and
-- whether it has said bad
pub record Session : Type 0 where
  pub store : Store
  pub rest : List ℕ
  pub number : ℕ
  pub over : Bool

-- program 9: these make a session
abbrev pub session : Store → List ℕ → ℕ → Bool → Session
session s rest number over = record { store = s; rest = rest; number = number; over = over }

-- program 1: the blocks of the program's memory
abbrev pub program_blocks : ℕ
program_blocks = 16

-- program 1: memory and ledger of zeros
abbrev pub zeros : Store
zeros = lent (replicate (block_bytes * program_blocks) 0) (replicate (ledger_head_bytes + ledger_record_bytes * program_blocks) 0)

-- program 1: an image without a digest
abbrev pub no_digest : List ℕ
no_digest = []

-- program 1: a session starts
abbrev pub start : Store → Session
start s = session s [] 0 false

-- program 9: what is left of these bytes when their records are obeyed begins no record
abbrev pub failing : List ℕ → Bool
failing bytes = spoilt bytes (record_bytes * count bytes)

-- program 9: the session when the records of these bytes are obeyed, after so many before them
unfoldable pub turned : List ℕ → Store → ℕ → List ℕ → Session
turned golden s earlier bytes =
    session (obeyed golden s bytes).reached (drop (record_bytes * count bytes) bytes) (earlier + count bytes) (failing bytes)

-- program 4, program 9: what is printed of these bytes then: the lines of their records, and a line that says bad if no record can follow
unfoldable pub told : List ℕ → Store → ℕ → List ℕ → List ℕ
told golden s earlier bytes = answered golden s bytes ++ cond (failing bytes) (text_of (Bad (earlier + count bytes))) []

-- program 9: the session after an arrival, which comes behind the bytes that are not obeyed yet
abbrev pub heard : List ℕ → Session → List ℕ → Session
heard golden s chunk = turned golden s.store s.number (s.rest ++ chunk)

-- program 9: what is printed at an arrival
abbrev pub said : List ℕ → Session → List ℕ → List ℕ
said golden s chunk = told golden s.store s.number (s.rest ++ chunk)

-- program 5, program 6: what is printed where the input ends, unless bad is said already
unfoldable pub closing : Session → List ℕ
closing s = cond s.over [] (ending (length s.rest) s.number)

-- program 9: a session in which this input has arrived and this text was printed, in whatever parts, none of them after bad
pub data Reached (golden : List ℕ) (s : Store) : List ℕ → List ℕ → Session → Type 0 where
  started : Reached golden s [] [] (start s)
  arrived : {input text : List ℕ} {now : Session} → Reached golden s input text now → now.over ≡ false → (chunk : List ℕ)
      → Reached golden s (input ++ chunk) (text ++ said golden now chunk) (heard golden now chunk)

-- program 6, program 9: what was printed of an input, with what is due if it ends here, is the text of the whole; and where bad was said, whatever
-- came behind would add nothing
pub record Prints (golden : List ℕ) (s : Store) (input text : List ℕ) (now : Session) : Type 0 where
  pub all : text ++ closing now ≡ output golden s input
  pub last : now.over ≡ true → (more : List ℕ) → text ≡ output golden s (input ++ more)

-- program 6: what is printed of an input does not depend on the sizes in which it arrives
abbrev pub Sizes-do-not-matter : Type 0
Sizes-do-not-matter = (golden : List ℕ) (s : Store) (input text : List ℕ) (now : Session) → Reached golden s input text now → Prints golden s input text now
