-- What is found decides: first 8, then 10, then 11 against the ledger; the rest is left to the entries that execute.
use mathlib.Core.Path.{refl, sym, ◌∙◌}
use native.Mathlib.Omega.{arith}
use Rattle.ledger.proofs.Judge.{decides, judged}
use Rattle.validation.proofs.Clashes.{admitted_none}
use Rattle.validation.proofs.Surveys.{new_unaccepted, new_misplaced, new_counted, new_clear, accepted_all, placed_all, new_executed, new_fine}
use Rattle.validation.proofs.refusal.check_new_entries.Goals as goal

pub check_executed-requires-clause-in_place : goal.check_executed-requires-clause-in_place
check_executed-requires-clause-in_place c =
    let start = c in
    let golden = start.args.golden.now in
    let (accepted, fit, apart) = new_clear _ golden _ _ _ _ (rw c.in-Executes.is at c.survey_new-survey.ensures.value) in
    record { fits = start.args.region.now.fits; holds = start.requires.holds_words; accepted = accepted_all _ golden _ _ _ _ accepted fit apart; placed = placed_all _ golden _ _ _ _ accepted fit apart }

pub check_executed-requires-clause-joined : goal.check_executed-requires-clause-joined
check_executed-requires-clause-joined c =
    let found = rw c.in-Executes.is at c.survey_new-survey.ensures in
    (found.all_gathered (omega arith)).joined

pub check_executed-requires-clause-silent : goal.check_executed-requires-clause-silent
check_executed-requires-clause-silent c w =
    let found = rw c.in-Executes.is at c.survey_new-survey.ensures in
    sym (found.all_gathered (omega arith)).written ∙ w

pub check_executed-requires-clause-uncounted : goal.check_executed-requires-clause-uncounted
check_executed-requires-clause-uncounted c = (new_clear _ c.args.golden.now _ _ _ _ (rw c.in-Executes.is at c.survey_new-survey.ensures.value)).2

pub returns-in-Unaccepted-clause-value : goal.returns-in-Unaccepted-clause-value
returns-in-Unaccepted-clause-value c = decides (new_unaccepted _ _ _ _ _ _ (rw c.in-Unaccepted.is at c.survey_new-survey.ensures.value))

pub returns-in-Misplaced-clause-value : goal.returns-in-Misplaced-clause-value
returns-in-Misplaced-clause-value c = decides (new_misplaced _ _ _ _ _ _ (rw c.in-Misplaced.is at c.survey_new-survey.ensures.value))

pub returns-in-MeetsCount-clause-value : goal.returns-in-MeetsCount-clause-value
returns-in-MeetsCount-clause-value c = decides (new_counted _ _ _ _ _ _ (rw c.in-MeetsCount.is at c.survey_new-survey.ensures.value))

pub returns-in-Executes-clause-value : goal.returns-in-Executes-clause-value
returns-in-Executes-clause-value c = decides (new_executed _ _ _ _ _ _ (rw c.in-Executes.is at c.survey_new-survey.ensures.value) (judged _ c.check_executed.ensures.value))

pub returns-in-Fine-clause-value : goal.returns-in-Fine-clause-value
returns-in-Fine-clause-value c = decides (new_fine _ _ _ _ _ _ (rw c.in-Fine.is at c.survey_new-survey.ensures.value)).1

pub returns-in-Fine-clause-admitted : goal.returns-in-Fine-clause-admitted
returns-in-Fine-clause-admitted c =
    let found = rw c.in-Fine.is at c.survey_new-survey.ensures in
    let none_executes = (new_fine _ c.args.golden.now _ _ _ _ found.value).0 in
    admitted_none _ _ _ _ (found.all_gathered (omega arith)).joined none_executes refl
