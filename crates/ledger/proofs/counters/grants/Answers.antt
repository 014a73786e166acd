-- Each counter has its clause of the definition.
use Rattle.rules.specs.Tables.{grants}
use Rattle.ledger.proofs.counters.grants.Goals as goal

pub returns-in-Writable : goal.returns-in-Writable
unfolding grants
returns-in-Writable c = rw c.in-Writable.is (rw c.rights.ensures at c.allows.ensures)

pub returns-in-Executable : goal.returns-in-Executable
unfolding grants
returns-in-Executable c = rw c.in-Executable.is (rw c.rights-in-Executable.ensures at c.allows-in-Executable.ensures)

pub returns-in-Linked : goal.returns-in-Linked
unfolding grants
returns-in-Linked c = rw c.in-Linked.is c.is_link.ensures
