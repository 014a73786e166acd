use Prim.Native.Nat.{◌*◌}
use native.Mathlib.Omega.{arith}
use Rattle.rules.proofs.State.{fits_stored}
use Rattle.validation.proofs.Bits.{byte_empty}
use Rattle.validation.proofs.Hashing.{known_start, known_most, known_next, known_past, known_answer, known_region, unknown_region, answer_known}
use Rattle.validation.proofs.hash.hash_members.Goals as goal
use Rattle.validation.proofs.hash.hash_members.Goals.{then-byte-ne0+in_ok-n, else-byte-ne0}

pub loop-i-init : goal.loop-i-init
loop-i-init c = (omega arith, known_start _ _ _ _)

pub returns-in_err-n : goal.returns-in_err-n
returns-in_err-n c = rw c.from_residual.ensures (unknown_region _ _ _ c.requires (8 * c.loop-i.i) 8 c.in_err-n.ensures)

pub overflow_add-n : goal.overflow_add-n
overflow_add-n c =
    let next = known_most _ _ _ (answer_known _ _ _ _ 8 c.in_ok-n.ensures) in
    let passed = known_most _ _ _ c.loop-i.invariant.1 in
    omega arith

pub loop-i-preserved : goal.loop-i-preserved
loop-i-preserved c =
    elim c.if-byte-ne0.branch [
      | then-byte-ne0+in_ok-n w ↦ (omega arith, rw w.n-is (known_next _ _ _ 0 (8 * c.loop-i.i) _ 8 _ (omega arith) (omega arith) c.loop-i.invariant.1 w.in_ok-n.ensures))
      | else-byte-ne0 w ↦ (omega arith, rw w.n-is (known_past _ _ _ 0 (8 * c.loop-i.i) _ 8 _ (omega arith) (omega arith) c.loop-i.invariant.1 (byte_empty _ c.loop-i.i w.if-byte-ne0.false)))
    ]

pub returns : goal.returns
returns c = let fit = fits_stored _ c.args.region.now.fits in known_answer _ _ _ (known_region _ _ _ c.requires (8 * c.loop-i.i) (omega arith) c.loop-i.invariant.1)
