-- Each return is decided by the tests up to its own.
use borrow.Author.Tests.{lt-ltb, le-ltb}
use Rattle.words.proofs.Bounded.{differ, same}
use Rattle.rules.specs.Store.{misfit}
use Rattle.ledger.proofs.region.is_misfit.Goals as goal

pub returns-then-memory-ne0 : goal.returns-then-memory-ne0
unfolding misfit
returns-then-memory-ne0 c = rw (differ _ _ c.if-memory-ne0.true)

pub returns-then-n-lt-LEAST_BLOCKS : goal.returns-then-n-lt-LEAST_BLOCKS
unfolding misfit
returns-then-n-lt-LEAST_BLOCKS c = rw (same _ _ c.if-memory-ne0.false, lt-ltb _ _ c.if-n-lt-LEAST_BLOCKS.true)

pub returns-then-n-gt-MOST_BLOCKS : goal.returns-then-n-gt-MOST_BLOCKS
unfolding misfit
returns-then-n-gt-MOST_BLOCKS c = rw (same _ _ c.if-memory-ne0.false, le-ltb _ _ c.if-n-lt-LEAST_BLOCKS.false, lt-ltb _ _ c.if-n-gt-MOST_BLOCKS.true)

pub returns-then-ledger-n : goal.returns-then-ledger-n
unfolding misfit
returns-then-ledger-n c =
    rw (same _ _ c.if-memory-ne0.false, le-ltb _ _ c.if-n-lt-LEAST_BLOCKS.false, le-ltb _ _ c.if-n-gt-MOST_BLOCKS.false, differ _ _ c.if-ledger-n.true)

pub returns-then-first-ne0 : goal.returns-then-first-ne0
unfolding misfit
returns-then-first-ne0 c =
    rw (same _ _ c.if-memory-ne0.false, le-ltb _ _ c.if-n-lt-LEAST_BLOCKS.false, le-ltb _ _ c.if-n-gt-MOST_BLOCKS.false, same _ _ c.if-ledger-n.false, differ _ _ c.if-first-ne0.true)

pub returns : goal.returns
unfolding misfit
returns c =
    rw (same _ _ c.if-memory-ne0.false, le-ltb _ _ c.if-n-lt-LEAST_BLOCKS.false, le-ltb _ _ c.if-n-gt-MOST_BLOCKS.false, same _ _ c.if-ledger-n.false, same _ _ c.if-first-ne0.false)
