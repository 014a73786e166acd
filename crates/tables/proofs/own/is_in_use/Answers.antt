-- Each level has its own test.
use Rattle.tables.proofs.own.is_in_use.Goals as goal

pub is_linked-requires : goal.is_linked-requires
is_linked-requires c = rw c.in-L2.is at c.requires

pub returns-in-L1 : goal.returns-in-L1
returns-in-L1 c = rw c.in-L1.is c.is_active.ensures

pub returns-in-L2 : goal.returns-in-L2
returns-in-L2 c = rw c.in-L2.is c.is_linked.ensures
