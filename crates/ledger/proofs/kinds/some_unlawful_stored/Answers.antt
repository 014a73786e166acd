-- The part that is lent is the kinds of the ledger.
use Rattle.words.specs.Lists.{part}
use Rattle.rules.specs.Store.{kinds_of}
use Rattle.ledger.proofs.kinds.some_unlawful_stored.Goals as goal

pub returns : goal.returns
unfolding kinds_of part
returns c = c.some_unlawful.ensures
