-- Each turn obeys one record more, and at the end the theorem speaks of what is left and handed out.
use mathlib.Core.Path.{◌≡◌}
use Prim.Native.Nat.{◌*◌}
use lib.ListN.{length}
use Rattle.rules.specs.Store.{lent}
use Rattle.steps.specs.Records.{record_bytes}
use Rattle.steps.proofs.Running.{Going}
use Rattle.steps.proofs.pagemon_run.Given as goal

abbrev pub invariant-loop-i : goal.invariant-loop-i
invariant-loop-i l = record {
  memory_length : length l.memory ≡ length l.initial.memory;
  ledger_length : length l.ledger ≡ length l.initial.ledger;
  going : Going l.golden l.records l.room (lent l.initial.memory l.initial.ledger) l.initial.answers l.initial.bytes l.i (l.i * record_bytes) (lent l.memory l.ledger) l.answers l.bytes;
}
