-- The bounds are those of the change.
use Rattle.tables.proofs.count.is_stuck.Goals as goal

pub returns : goal.returns
returns c = rw (c.before-least.ensures.least, c.most_of-most.ensures) at c.entry_beyond.ensures
