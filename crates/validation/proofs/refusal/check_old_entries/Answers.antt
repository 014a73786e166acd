-- What is found decides: first 8, then 10.
use Rattle.ledger.proofs.Judge.{decides}
use Rattle.validation.proofs.Surveys.{old_unaccepted, old_astray, old_none}
use Rattle.validation.proofs.refusal.check_old_entries.Goals as goal

pub returns-in-Unaccepted : goal.returns-in-Unaccepted
returns-in-Unaccepted c = decides (old_unaccepted _ _ _ c.in-Unaccepted.ensures)

pub returns-in-Misplaced : goal.returns-in-Misplaced
returns-in-Misplaced c = decides (old_astray _ _ _ c.in-Misplaced.ensures)

pub returns-in_default : goal.returns-in_default
returns-in_default c = decides (old_none _ _ _ _ c.survey_old.ensures c.in_default.not-Misplaced c.in_default.not-Unaccepted)
