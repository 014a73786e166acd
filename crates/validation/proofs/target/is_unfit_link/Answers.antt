-- Only a link is tested.
use Rattle.words.proofs.Bounded.{told}
use Rattle.rules.specs.Store.{linked}
use Rattle.rules.specs.Tables.{grants}
use Rattle.rules.specs.Create.{unfit_link}
use Rattle.validation.proofs.target.is_unfit_link.Goals as goal

pub cover_differs-requires : goal.cover_differs-requires
unfolding grants
cover_differs-requires c = c.requires linked (told c.is_link.ensures c.if-is_link.true)

pub returns-then-is_link : goal.returns-then-is_link
unfolding unfit_link
returns-then-is_link c = rw (told c.is_link.ensures c.if-is_link.true) (rw c.code.ensures at c.cover_differs.ensures)

pub returns : goal.returns
unfolding unfit_link
returns c = rw (told c.is_link.ensures c.if-is_link.false)
