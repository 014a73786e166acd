-- The region has passed refusal 1, and the table is judged.
use Rattle.ledger.proofs.Judge.{decides, past, judged}
use Rattle.mapping.proofs.switch.check_switch.Goals as goal

pub returns : goal.returns
returns c = decides (past c.args.region.now.fits (judged _ (rw c.code.ensures at c.check_table.ensures)))
