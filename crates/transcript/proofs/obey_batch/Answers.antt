-- The runner's outputs are of a batch's length, so its steps are the batch's, and their answers and bytes stand in front.
use Prim.Native.Nat.{ℕ}
use mathlib.Core.Path.{sym}
use native.Mathlib.Omega.{arith}
use lib.ListN.{length-replicate}
use lib.Seq.{length-take-le}
use Rattle.rules.specs.Store.{lent}
use Rattle.steps.proofs.Decoding.{within_room}
use Rattle.transcript.proofs.Batches.{batched}
use Rattle.transcript.proofs.obey_batch.Goals as goal

pub slice_bounds-answers-end : goal.slice_bounds-answers-end
slice_bounds-answers-end c = let few = within_room c.args.records.now 0 2048 in omega arith

pub slice_bounds-push_lines-end : goal.slice_bounds-push_lines-end
slice_bounds-push_lines-end c = let few = within_room c.args.records.now 0 2048 in sym (length-take-le _ _ (omega arith))

pub slice_bounds-bytes-end : goal.slice_bounds-bytes-end
slice_bounds-bytes-end c = let few = within_room c.args.records.now 0 2048 in omega arith

pub slice_bounds-push_lines-end-2 : goal.slice_bounds-push_lines-end-2
slice_bounds-push_lines-end-2 c = let few = within_room c.args.records.now 0 2048 in sym (length-take-le _ _ (omega arith))

pub push_lines-requires : goal.push_lines-requires
push_lines-requires c =
    let a = c.args in
    let e = c.pagemon_run-obeyed.ensures in
    let b = batched a.golden.now (lent a.memory.now a.ledger.now) a.records.now _ _ (length-replicate {A = ℕ} 2048 0) (length-replicate {A = ℕ} 2048 0) (omega arith) e.value e.ledger_after e.answers_after e.bytes_after in
    let few = b.few in
    let whole = b.whole in
    let answers = length-take-le c.pagemon_run-obeyed.result c.pagemon_run-obeyed.new.answers (omega arith) in
    let bytes = length-take-le c.pagemon_run-obeyed.result c.pagemon_run-obeyed.new.bytes (omega arith) in
    record { whole_records = omega arith; byte_for_each = omega arith; room = omega arith }

pub returns : goal.returns
returns c =
    let a = c.args in
    let e = c.pagemon_run-obeyed.ensures in
    let b = batched a.golden.now (lent a.memory.now a.ledger.now) a.records.now _ _ (length-replicate {A = ℕ} 2048 0) (length-replicate {A = ℕ} 2048 0) (omega arith) e.value e.ledger_after e.answers_after e.bytes_after in
    let few = b.few in
    let count = length-take-le c.pagemon_run-obeyed.result c.pagemon_run-obeyed.new.answers (omega arith) in
    let p = rw count at c.push_lines.ensures in
    record {
      value = b.counted;
      ledger_after = b.reached;
      same_reference = p.same_reference;
      added = rw b.lines at p.added;
      upper_bounds = (few, b.whole, omega arith);
    }
