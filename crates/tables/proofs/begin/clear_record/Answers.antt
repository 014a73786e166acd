-- The five words are stored one after the other.
use Rattle.tables.proofs.begin.clear_record.Goals as goal

pub returns : goal.returns
returns c = rw (c.put-4.ensures, c.put-3.ensures, c.put-2.ensures, c.put.ensures, c.code.ensures) at c.clear_mark.ensures
