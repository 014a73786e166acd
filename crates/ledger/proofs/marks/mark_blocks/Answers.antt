use mathlib.Core.Path.{◌≡◌, refl}
use native.Mathlib.Omega.{arith}
use Rattle.ledger.proofs.Marking.{mark_start, mark_more}
use Rattle.ledger.proofs.marks.mark_blocks.Goals as goal

pub loop-i-init : goal.loop-i-init
loop-i-init c = (omega arith, (refl, mark_start _ _))

pub mark-requires : goal.mark-requires
mark-requires c = let n = c.loop-i.invariant.1 in omega arith

pub loop-i-preserved : goal.loop-i-preserved
loop-i-preserved c = let at = c.loop-i in (omega arith, (omega arith, mark_more _ _ at.i at.invariant.1.1 c.mark.ensures))

pub shape_of-ledger : goal.shape_of-ledger
shape_of-ledger c = c.loop-i.invariant.1.0

pub returns : goal.returns
returns c = let e : c.loop-i.i ≡ c.args.m = omega arith in rw e at c.loop-i.invariant.1.1
