-- Each turn adds the line of the record, the answer and the byte that come next.
use mathlib.Core.List.{[], ◌∷◌}
use mathlib.Core.Path.{◌≡◌, refl, ◌∙◌}
use Prim.Native.Nat.{◌+◌, ◌*◌, ◌≤◌}
use native.Mathlib.Omega.{arith}
use native.Mathlib.Nat.{add-zero}
use Rattle.std.proofs.Common.{rules}
use lib.ListN.{length, get_or, length-append}
use Rattle.steps.specs.Records.{record_bytes, call_place}
use Rattle.transcript.proofs.Laying.{laying_starts, laying_turn}
use Rattle.transcript.proofs.Passing.{passed_more, next_inside, next_at}
use Rattle.transcript.proofs.push_lines.Goals as goal

pub loop-record-init : goal.loop-record-init
loop-record-init c = (refl, laying_starts _ _ _ _ _, search rules, search rules, search rules, search rules)

pub loop-record-preserved : goal.loop-record-preserved
loop-record-preserved c =
    let a = c.args in
    let i = length c.loop-record.yielded in
    let before = c.loop-record.invariant in
    let s = c.in-Some.ensures.steps in
    let bytes = c.in-Some.record.now in
    let long : length bytes ≡ record_bytes = s.0.0.1.1 ∙ before.2 in
    let call : get_or bytes call_place 0 ≡ get_or a.records.now (record_bytes * i + call_place) 0 =
    next_at a.records.now _ bytes _ before.3 s.0.0.1.0 call_place (omega arith) in
    let answer : c.in-Some.answer.now ≡ get_or a.answers.now (i + 0) 0 = next_at a.answers.now i (c.in-Some.answer.now ∷ []) _ before.4 s.0.1 0 (omega arith) in
    let byte : c.in-Some.byte.now ≡ get_or a.bytes.now (i + 0) 0 = next_at a.bytes.now i (c.in-Some.byte.now ∷ []) _ before.5 s.1 0 (omega arith) in
    let inside : i + 1 ≤ length a.answers.now = next_inside a.answers.now i (c.in-Some.answer.now ∷ []) _ before.4 s.0.1 (omega arith) in
    rw length-append (
      c.push_line.ensures.same_reference ∙ before.0,
      laying_turn _ _ _ _ _ before.1 (omega (arith, c.requires.room))
          (omega (arith, c.type_inv.records (record_bytes * i + call_place))) (omega (arith, c.type_inv.answers i)) (omega (arith, c.type_inv.bytes i))
          (rw (call, answer, byte, add-zero) at c.line_of.ensures) c.push_line.ensures.added,
      s.0.0.0 ∙ before.2,
      passed_more a.records.now _ bytes _ before.3 s.0.0.1.0 _ (omega arith),
      passed_more a.answers.now i (c.in-Some.answer.now ∷ []) _ before.4 s.0.1 _ (omega arith),
      passed_more a.bytes.now i (c.in-Some.byte.now ∷ []) _ before.5 s.1 _ (omega arith),
    )
