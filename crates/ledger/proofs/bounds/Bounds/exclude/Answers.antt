-- Each return is decided by the tests up to its own.
use borrow.Author.Tests.{lt-ltb, le-ltb}
use Rattle.ledger.proofs.bounds.Bounds.exclude.Goals as goal

pub returns-then-x-self : goal.returns-then-x-self
returns-then-x-self c = rw (lt-ltb _ _ c.if-x-self.true)

pub returns-else-x-self : goal.returns-else-x-self
returns-else-x-self c = rw (le-ltb _ _ c.if-x-self.false)
