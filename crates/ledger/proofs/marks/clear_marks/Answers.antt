use mathlib.Core.Path.{◌≡◌, refl}
use native.Mathlib.Omega.{arith}
use Rattle.rules.specs.Store.{clear_marks}
use Rattle.ledger.proofs.Marking.{clear_more}
use Rattle.ledger.proofs.marks.clear_marks.Goals as goal

pub loop-i-init : goal.loop-i-init
unfolding clear_marks
loop-i-init c = (omega arith, (refl, refl))

pub clear_mark-requires : goal.clear_mark-requires
clear_mark-requires c = let n = c.loop-i.invariant.1 in omega arith

pub loop-i-preserved : goal.loop-i-preserved
loop-i-preserved c = let at = c.loop-i in (omega arith, (omega arith, clear_more _ _ at.i at.invariant.1.1 c.clear_mark.ensures))

pub shape_of-ledger : goal.shape_of-ledger
shape_of-ledger c = c.loop-i.invariant.1.0

pub returns : goal.returns
returns c = let e : c.loop-i.i ≡ c.args.m = omega arith in rw e at c.loop-i.invariant.1.1
