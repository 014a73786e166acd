-- Its one test decides.
use Rattle.words.proofs.Bounded.{told}
use Rattle.ledger.proofs.Judge.{decides, none, here, past}
use Rattle.ledger.proofs.image.check_image.Goals as goal

pub returns-then-is_misfit_image : goal.returns-then-is_misfit_image
returns-then-is_misfit_image c = decides (here (told c.is_misfit_image.ensures c.if-is_misfit_image.true))

pub returns : goal.returns
returns c = decides (past (told c.is_misfit_image.ensures c.if-is_misfit_image.false) none)
