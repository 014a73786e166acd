-- The word of the field's place is read.
use Rattle.ledger.proofs.layout.Field.get.Goals as goal

pub returns : goal.returns
returns c = rw c.place.ensures.is at c.record_word.ensures
