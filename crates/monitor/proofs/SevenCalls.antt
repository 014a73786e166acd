-- An instance of the theorem: a begin over eight blocks of zeros, and the six calls behind it that end in a fetch of signed code.
use mathlib.Core.List.{List, [], ◌∷◌}
use mathlib.Core.Path.{◌≡◌, refl}
use lib.ListN.{drop}
use Rattle.rules.specs.Steps.{Step, begins, obey, run, run_by, Run}
use Rattle.rules.specs.Begin.{cached_kinds}
use Rattle.rules.specs.Upheld.{Upheld}
use Rattle.rules.proofs.SmallStores.{ledger, small_store}
use Rattle.rules.proofs.Blank.{golden, begins_zeros, started}
use Rattle.rules.proofs.Fetching.{to_fetch, fetch_accepted}
use Rattle.monitor.specs.Calls.{Calls}
use Rattle.monitor.proofs.Calls.{run_called, calls_uphold_demand3}

abbrev seven : List Step
seven = begins cached_kinds 0 ∷ to_fetch

abbrev seven_run : Run
seven_run = run golden (small_store 0 ledger) seven

accepted : seven_run.answers ≡ (0 ∷ 0 ∷ 0 ∷ 0 ∷ 0 ∷ 0 ∷ 0 ∷ [])
unfolding run_by obey
accepted = rw (begins_zeros, fetch_accepted) refl

pub seven_calls : Calls golden (small_store 0 ledger) seven seven_run.reached (0 ∷ 0 ∷ 0 ∷ 0 ∷ 0 ∷ 0 ∷ 0 ∷ []) seven_run.bytes
seven_calls = rw accepted at (run_called golden (small_store 0 ledger) seven)

pub seven_upheld : Upheld golden cached_kinds 0 started to_fetch seven_run.reached (0 ∷ 0 ∷ 0 ∷ 0 ∷ 0 ∷ 0 ∷ []) (drop 1 seven_run.bytes)
unfolding run_by obey
seven_upheld = calls_uphold_demand3 seven_calls (small_store 0 ledger) [] refl 0 cached_kinds 0 refl refl
