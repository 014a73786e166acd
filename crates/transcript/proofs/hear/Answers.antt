-- The records obeyed, the line that says bad and the bytes moved to the front are those of the bytes that have arrived.
use native.Mathlib.Omega.{arith}
use lib.Seq.{length-take-le}
use Rattle.std.proofs.Common.{rules}
use Rattle.lines.proofs.Stored.{stored_length}
use Rattle.transcript.proofs.Batches.{heard_all, moved_front, stored_as, ends_as}
use Rattle.transcript.proofs.hear.Goals as goal

pub judge_rest-is_over-requires-clause-room : goal.judge_rest-is_over-requires-clause-room
judge_rest-is_over-requires-clause-room c =
    let o = c.obey_batch-done.ensures in
    let few = o.upper_bounds in
    let long = stored_length _ _ _ o.added in
    omega arith

pub returns : goal.returns
returns c =
    let a = c.args in
    let o = c.obey_batch-done.ensures in
    let few = o.upper_bounds in
    let j = c.judge_rest-is_over.ensures in
    let n = length-take-le a.filled a.input.now c.requires.filled_in_bounds.0 in
    let moved = moved_front a.input.now _ a.filled (omega arith) (omega arith) c.copy_within.ensures.after in
    let h = heard_all _ _ a.earlier a.text.now a.input.now a.filled c.requires.filled_in_bounds.0 o.value o.ledger_after o.added (few.0, few.1) j.value j.added _ moved in
    record { is_over_after = h.0; stored = stored_as (search rules) h.1.0; advance = h.1.1; end_in_bounds = ends_as (search rules) j.end_in_bounds }
