use mathlib.Core.Path.{refl, ap, ◌∙◌}
use native.Mathlib.Omega.{arith}
use lib.ListN.{length}
use lib.Seq.{take_all}
use Rattle.words.specs.Lists.{put_list}
use Rattle.words.proofs.Lists.{length-put_list, put_list_turn}
use Rattle.words.proofs.put_bytes.Goals as goal

pub loop-i-init : goal.loop-i-init
unfolding put_list
loop-i-init c = (omega arith, refl)

pub bounds-s-at : goal.bounds-s-at
bounds-s-at c = rw c.loop-i.invariant.1 (simp length-put_list (omega arith))

pub loop-i-preserved : goal.loop-i-preserved
loop-i-preserved c =
    let a = c.args in
    let at = c.loop-i in
    (omega arith, put_list_turn a.s.now a.at a.bytes.now at.i (omega arith) at.invariant.1)

pub shape_of-s : goal.shape_of-s
shape_of-s c = ap length c.loop-i.invariant.1 ∙ simp length-put_list

pub returns : goal.returns
returns c =
    let at = c.loop-i in
    rw (take_all at.i c.args.bytes.now (omega arith)) at at.invariant.1
