-- The word of the field's place is stored.
use Rattle.ledger.proofs.layout.Field.put.Goals as goal

pub returns : goal.returns
returns c = rw c.place.ensures.is at c.put_record_word.ensures
