use mathlib.Core.Path.{sym, ◌∙◌}
use native.Mathlib.Omega.{arith}
use Rattle.validation.proofs.Surveys.{new_start, new_left, new_next, is_unaccepted_finding, greater_first, gathered_none, gathered_more}
use Rattle.validation.proofs.table.Table.survey_new.Goals as goal

pub loop-i-init : goal.loop-i-init
loop-i-init c = (omega arith, new_start _ _ _ 0 _, λ z. gathered_none _ _ _ c.requires)

pub returns-then-eq : goal.returns-then-eq
returns-then-eq c =
    let at = c.loop-i in
    let next = new_next _ _ _ at.i _ at.i at.invariant.1 (rw c.entry.ensures at c.found_with-found.ensures.value) in
    let found = is_unaccepted_finding _ (sym c.eq.ensures ∙ c.if-eq.true) in
    record { value = found ∙ new_left _ _ _ _ _ at.i (omega arith) (sym found ∙ next); all_gathered = λ z. let f : ⊥ = omega arith in absurd f }

pub loop-i-preserved : goal.loop-i-preserved
loop-i-preserved c =
    let at = c.loop-i in
    let one = rw c.entry.ensures at c.found_with-found.ensures in
    (omega arith, new_next _ _ _ at.i _ at.i at.invariant.1 one.value, λ z. gathered_more _ at.i _ _ _ (at.invariant.2 (greater_first _ _ 2 (rw one.value at z))) (one.gathered z))
