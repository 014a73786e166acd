use mathlib.Core.Path.{refl, ◌∙◌}
use native.Mathlib.Numerals.{add-one}
use native.Mathlib.Omega.{arith}
use Rattle.rules.specs.Store.{mark_blocks}
use Rattle.validation.proofs.executed.mark_members.Goals as goal

pub loop-b-init : goal.loop-b-init
unfolding mark_blocks
loop-b-init c = (omega arith, (refl, refl))

pub loop-b-preserved : goal.loop-b-preserved
unfolding mark_blocks
loop-b-preserved c =
    let at = c.loop-b in
    (omega arith, (omega arith, c.mark_member.ensures ∙ rw at.invariant.1.1 (rw add-one refl)))
