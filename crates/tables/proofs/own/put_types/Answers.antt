use mathlib.Core.Path.{◌≡◌, refl, sym, ◌∙◌}
use native.Mathlib.Omega.{arith}
use Rattle.rules.specs.Store.{retype}
use Rattle.tables.proofs.TableRecords.{retype_more}
use Rattle.tables.proofs.own.put_types.Goals as goal

pub loop-i-init : goal.loop-i-init
unfolding retype
loop-i-init c = (omega arith, (refl, refl))

pub overflow_add-b : goal.overflow_add-b
overflow_add-b c = let inv = c.loop-i.invariant.1 in omega arith

pub put-requires : goal.put-requires
put-requires c = let inv = c.loop-i.invariant.1 in omega arith

pub loop-i-preserved : goal.loop-i-preserved
loop-i-preserved c = (omega arith, (omega arith, (rw c.loop-i.invariant.1.1 at c.put.ensures) ∙ sym (retype_more _ _ c.loop-i.i _)))

pub shape_of-ledger : goal.shape_of-ledger
shape_of-ledger c = c.loop-i.invariant.1.0

pub returns : goal.returns
returns c = let e : c.loop-i.i ≡ c.args.m = omega arith in rw e at c.loop-i.invariant.1.1
