-- Whether all are counted is looked at first.
use mathlib.Core.Bool.{not}
use mathlib.Core.Path.{ap}
use borrow.Author.Tests.{lt-leb, le-leb}
use Rattle.tables.proofs.count.is_complete.Goals as goal

pub returns-then-done-m : goal.returns-then-done-m
returns-then-done-m c = rw (lt-leb _ _ c.if-done-m.true)

pub returns : goal.returns
returns c = rw (le-leb _ _ c.if-done-m.false) (ap not c.ends_above.ensures)
