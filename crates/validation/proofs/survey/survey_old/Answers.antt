use mathlib.Core.Path.{◌≡◌, sym, ◌∙◌, ap}
use native.Mathlib.Omega.{arith}
use Rattle.validation.specs.Findings.{finding_of}
use Rattle.validation.proofs.Surveys.{old_start, old_left, old_next, is_unaccepted_finding, greater_max}
use Rattle.validation.proofs.survey.survey_old.Goals as goal

pub loop-i-init : goal.loop-i-init
loop-i-init c = (omega arith, old_start _ _ 0 _)

pub overflow_add-j : goal.overflow_add-j
overflow_add-j c = omega (arith, c.requires.0)

pub entry_at-requires : goal.entry_at-requires
entry_at-requires c = omega (arith, c.requires.0)

pub place_finding-one-requires : goal.place_finding-one-requires
place_finding-one-requires c = c.requires.1

pub returns-then-eq : goal.returns-then-eq
returns-then-eq c =
    let found = is_unaccepted_finding _ (sym c.eq.ensures ∙ c.if-eq.true) in
    found ∙ old_left _ _ _ _ c.loop-i.i (omega arith) (sym found ∙ (rw c.entry_at.ensures at c.place_finding-one.ensures))

pub loop-i-preserved : goal.loop-i-preserved
loop-i-preserved c = (omega arith, old_next _ _ c.loop-i.i _ c.loop-i.i c.loop-i.invariant.1 (rw c.entry_at.ensures at c.place_finding-one.ensures) (ap finding_of c.max-found.ensures ∙ greater_max _ _))

pub returns : goal.returns
returns c = let e : c.loop-i.i ≡ c.args.m = omega arith in rw e at c.loop-i.invariant.1
