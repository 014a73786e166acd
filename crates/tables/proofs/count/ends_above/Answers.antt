-- Only counters that were taken from are looked at.
use Rattle.tables.proofs.count.ends_above.Goals as goal

pub returns-in-Removed : goal.returns-in-Removed
returns-in-Removed c = rw c.in-Removed.is c.some_above_limit.ensures
