-- The word read is changed and stored again.
use Rattle.ledger.proofs.counters.change_word.Goals as goal

pub end_value-requires : goal.end_value-requires
end_value-requires c = rw c.get-old.ensures c.requires.1

pub returns : goal.returns
returns c = rw (c.end_value.ensures, c.get-old.ensures) at c.put.ensures
