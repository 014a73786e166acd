-- One record is obeyed (RULES: runner).
use Rattle.std.specs.Prelude.{Bool, true, false, List, ℕ}
use Rattle.std.proofs.Math.Option.{Option, none, some}
use Rattle.rules.specs.Store.{Store}
use Rattle.rules.specs.Outcomes.{Outcome}
use Rattle.rules.specs.Steps.{Step, obey}

-- runner 1: a record holds a step
unfoldable pub is_step : Option Step → Bool
is_step none = false
is_step (some step) = true

-- runner 2: the outcome of the step that a record holds; where it holds none, nothing changes, and answer and byte mean nothing
unfoldable pub attempt : List ℕ → Store → Option Step → Outcome
attempt golden s none = record { answer = 0; after = s; byte = 0; hashed = 0 }
attempt golden s (some step) = obey golden s step
