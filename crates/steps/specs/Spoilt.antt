-- Bytes that begin no record (RULES: program).
use Rattle.std.specs.Prelude.{Bool, not, ◌||◌, List, ℕ, ◌+◌, get_or}
use Rattle.words.specs.Bounded.{neqb}
use Rattle.steps.specs.Records.{step_of, call_place}
use Rattle.steps.specs.Turns.{is_step}

-- program 5, program 9: no record that holds a step begins with the bytes from place p on: of mark and call byte, one that is there is wrong
unfoldable pub spoilt : List ℕ → ℕ → Bool
spoilt records p =
    neqb (get_or records p 0x50) 0x50
    || neqb (get_or records (p + 1) 0x54) 0x54
    || not (is_step (step_of (get_or records (p + call_place) 1) 0 0 0 0))
