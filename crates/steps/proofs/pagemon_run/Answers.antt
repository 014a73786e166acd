-- A turn obeys a record more or ends the run, and what the run has come to is what is promised.
use mathlib.Core.Path.{◌≡◌, sym}
use Prim.Native.Nat.{◌+◌, ◌*◌}
use native.Mathlib.Omega.{arith}
use Rattle.steps.specs.Records.{record_bytes}
use Rattle.steps.proofs.Running.{going_turn, going_full, going_stops}
use Rattle.steps.proofs.Upheld.{promised}
use Rattle.steps.proofs.pagemon_run.Goals as goal

pub returns-in_default : goal.returns-in_default
returns-in_default c =
    let o = c.in_default.ensures in
    promised _ _ _ _ _ c.min-room.ensures (going_stops _ _ _ _ _ _ c.loop-i.invariant.going c.loop-i-test.true _ c.decode.ensures (sym o.obeyed_value) o.ledger_after)

pub loop-i-preserved : goal.loop-i-preserved
loop-i-preserved c =
    let o = c.in-Some.ensures in
    let place : (c.loop-i.i + 1) * record_bytes ≡ c.loop-i.i * record_bytes + record_bytes = omega arith in
    record {
      memory_length = omega arith;
      ledger_length = omega arith;
      going = rw place (going_turn _ _ _ _ _ _ c.loop-i.invariant.going c.loop-i-test.true _ c.decode.ensures (sym o.obeyed_value) o.answer_value o.byte_value o.ledger_after);
    }

pub returns : goal.returns
returns c =
    let full : c.loop-i.i ≡ c.min-room.result = omega arith in
    promised _ _ _ _ _ c.min-room.ensures (rw full at (going_full _ _ _ _ _ _ c.loop-i.invariant.going c.loop-i-test.false))
