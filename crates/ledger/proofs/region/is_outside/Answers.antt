-- Each return is decided by the tests up to its own.
use borrow.Author.Tests.{lt-ltb, le-ltb}
use Rattle.rules.specs.Store.{outside}
use Rattle.ledger.proofs.region.is_outside.Goals as goal

pub returns-then-p-first : goal.returns-then-p-first
unfolding outside
returns-then-p-first c = rw (lt-ltb _ _ c.if-p-first.true)

pub returns : goal.returns
unfolding outside
returns c = rw (le-ltb _ _ c.if-p-first.false)
