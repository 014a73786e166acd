use mathlib.Core.Path.{◌≡◌}
use Prim.Native.Nat.{◌+◌, ◌*◌}
use native.Mathlib.Omega.{arith}
use Rattle.validation.proofs.Hashing.{known_start, known_most, known_next, known_answer, unknown-among, answer_known}
use Rattle.validation.proofs.hash.hash_eight.Goals as goal

pub loop-k-init : goal.loop-k-init
loop-k-init c = (omega arith, known_start _ _ _ _)

pub returns-in_err-n : goal.returns-in_err-n
returns-in_err-n c = let from = 8 * c.args.i in rw c.from_residual.ensures (unknown-among _ _ _ from 8 (from + c.loop-k.k) 1 (omega arith) (omega arith) c.in_err-n.ensures)

pub overflow_add-n : goal.overflow_add-n
overflow_add-n c =
    let next = known_most _ _ _ (answer_known _ _ _ _ 1 c.in_ok-n.ensures) in
    let passed = known_most _ _ _ c.loop-k.invariant.1 in
    omega arith

pub loop-k-preserved : goal.loop-k-preserved
loop-k-preserved c = (omega arith, known_next _ _ _ _ c.loop-k.k _ 1 _ (omega arith) (omega arith) c.loop-k.invariant.1 c.in_ok-n.ensures)

pub returns : goal.returns
returns c = let e : c.loop-k.k ≡ 8 = omega arith in known_answer _ _ _ (rw e at c.loop-k.invariant.1)
