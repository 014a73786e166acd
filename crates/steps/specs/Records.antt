-- Records, and the steps that they hold (RULES: program, runner).
use Rattle.std.specs.Prelude.{Bool, cond, ◌||◌, List, [], ◌∷◌, ℕ, zero, suc, ◌+◌, min, length, get_or}
use Rattle.std.proofs.Math.Option.{Option, none, some}
use Rattle.words.specs.Bounded.{above, neqb}
use Rattle.words.specs.Words.{word}
use Rattle.entries.specs.Entries.{l1, l2}
use Rattle.rules.specs.Store.{Store}
use Rattle.rules.specs.Tables.{sections, pages, larges}
use Rattle.rules.specs.Begin.{cached_kinds}
use Rattle.rules.specs.Map.{first_kind}
use Rattle.rules.specs.Registers.{clear_registers}
use Rattle.rules.specs.Guest.{reads, writes, fetches}
use Rattle.rules.specs.Steps.{Step, begins, creates, frees, maps, links, unmaps, switches, accesses, Run, run}

-- program 2, program 3, runner 2: the step of each call byte, from 0 on, with these four words as its arguments; 0 has none
abbrev pub calls : ℕ → ℕ → ℕ → ℕ → List (Option Step)
calls a b c d =
    none
    ∷ some (begins cached_kinds a)
    ∷ some (creates l1 a)
    ∷ some (creates l2 a)
    ∷ some (frees l1 a)
    ∷ some (frees l2 a)
    ∷ some (maps sections a b c d first_kind)
    ∷ some (maps pages a b c d first_kind)
    ∷ some (links a b c d)
    ∷ some (unmaps sections a b)
    ∷ some (unmaps pages a b)
    ∷ some (switches a)
    ∷ some (accesses reads clear_registers a)
    ∷ some (accesses (writes b) clear_registers a)
    ∷ some (accesses fetches clear_registers a)
    ∷ some (maps larges a b c d first_kind)
    ∷ some (unmaps larges a b)
    ∷ []

-- program 3: the step of a call byte and four words; none for a call byte that is not in the table
unfoldable pub step_of : ℕ → ℕ → ℕ → ℕ → ℕ → Option Step
step_of call a b c d = get_or (calls a b c d) call none

-- program 2: the bytes of a record
abbrev pub record_bytes : ℕ
record_bytes = 19

-- program 5: the record at place p is cut short; so too where the records end and none begins
abbrev pub short : List ℕ → ℕ → Bool
short records p = above (p + record_bytes) (length records)

-- program 2, program 5: the record at place p has another mark
abbrev pub unmarked : List ℕ → ℕ → Bool
unmarked records p = neqb (get_or records p 0) 0x50 || neqb (get_or records (p + 1) 0) 0x54

-- program 2: the place of the call byte in a record
abbrev pub call_place : ℕ
call_place = 2

-- program 2: the step of the record at place p, whatever its mark; no meaning if it is cut short
abbrev pub whole_step : List ℕ → ℕ → Option Step
whole_step records p =
    step_of (get_or records (p + call_place) 0) (word records (p + 3)) (word records (p + 7)) (word records (p + 11)) (word records (p + 15))

-- runner 1, program 5: the step that the record at place p holds, if any
unfoldable pub step_at : List ℕ → ℕ → Option Step
step_at records p = cond (short records p || unmarked records p) none (whole_step records p)

-- runner 1: a step in front of a list; where there is none, the list ends
unfoldable pub and_then : Option Step → List Step → List Step
and_then none rest = []
and_then (some step) rest = step ∷ rest

-- runner 1: the steps of the records from place p on, no more than asked for, up to the first record that holds none
unfoldable pub steps_from : List ℕ → ℕ → ℕ → List Step
steps_from records p zero = []
steps_from records p (suc m) = and_then (step_at records p) (steps_from records (p + record_bytes) m)

-- runner 1: the steps of the records from the first on, at most m
abbrev pub steps_in : List ℕ → ℕ → List Step
steps_in records m = steps_from records 0 m

-- program 4, program 9: the steps of all records up to the first that holds none; no list has more records than bytes
abbrev pub all_steps : List ℕ → List Step
all_steps records = steps_in records (length records)

-- runner 1: how many steps have a place for the answer and one for the byte
abbrev pub room : List ℕ → List ℕ → ℕ
room answers bytes = min (length answers) (length bytes)

-- runner 2: what the list of the steps comes to for which there is room
abbrev pub ran : List ℕ → Store → List ℕ → List ℕ → List ℕ → Run
ran golden s records answers bytes = run golden s (steps_in records (room answers bytes))
