-- The word is read at its place in the record.
use Rattle.rules.specs.Store.{record_word}
use Rattle.ledger.proofs.layout.record_word.Goals as goal

pub returns : goal.returns
unfolding record_word
returns c = c.word.ensures
