use mathlib.Core.Path.{◌≡◌, refl, ◌∙◌}
use native.Mathlib.Omega.{arith}
use Rattle.rules.specs.Store.{recount, retype, clear_marks}
use Rattle.rules.specs.Tables.{type_d}
use Rattle.tables.proofs.Clearing.{cleared_more}
use Rattle.tables.proofs.begin.clear_records.Goals as goal

pub loop-b-init : goal.loop-b-init
unfolding recount retype clear_marks
loop-b-init c = (omega arith, (refl, refl))

pub clear_record-requires : goal.clear_record-requires
clear_record-requires c = let n = c.loop-b.invariant.1 in omega arith

pub loop-b-preserved : goal.loop-b-preserved
loop-b-preserved c = (omega arith, (omega arith, c.clear_record.ensures ∙ (rw c.loop-b.invariant.1.1 (cleared_more _ type_d c.loop-b.b (λ c i. 0)))))

pub shape_of-ledger : goal.shape_of-ledger
shape_of-ledger c = c.loop-b.invariant.1.0

pub returns : goal.returns
returns c = let e : c.loop-b.b ≡ c.args.n = omega arith in rw e at c.loop-b.invariant.1.1
