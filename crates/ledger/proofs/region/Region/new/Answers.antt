-- Its one test decides.
use Rattle.words.proofs.Bounded.{told}
use Rattle.ledger.proofs.Judge.{decides, none, here, past}
use Rattle.ledger.proofs.region.Region.new.Goals as goal

pub returns-then-is_misfit_stored-clause-value : goal.returns-then-is_misfit_stored-clause-value
returns-then-is_misfit_stored-clause-value c = decides (here (told c.is_misfit_stored.ensures c.if-is_misfit_stored.true))

pub returns-clause-value : goal.returns-clause-value
returns-clause-value c = decides (past (told c.is_misfit_stored.ensures c.if-is_misfit_stored.false) none)
