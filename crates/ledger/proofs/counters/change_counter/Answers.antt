-- Where the entry grants nothing, no counter changes; else the words of the records do.
use native.Mathlib.Omega.{arith}
use Rattle.words.proofs.Bounded.{told}
use Rattle.ledger.specs.Counters.{changed_counter}
use Rattle.ledger.proofs.counters.change_counter.Goals as goal

pub record_of-b-requires : goal.record_of-b-requires
record_of-b-requires c = let (lo, hi) = c.requires.0 _ (told c.grants.ensures c.if-grants.true) in (omega arith, lo)

pub change_words-requires : goal.change_words-requires
change_words-requires c = let granted = told c.grants.ensures c.if-grants.true in
    let (lo, hi) = c.requires.0 _ granted in
    let b = c.record_of-b.ensures in
    (omega arith, λ i l. rw (c.field.ensures, b.is) (c.requires.1 granted i l))

pub returns-then-grants : goal.returns-then-grants
unfolding changed_counter
returns-then-grants c = rw (told c.grants.ensures c.if-grants.true) (rw (c.field.ensures, c.record_of-b.ensures.is) at c.change_words.ensures)

pub returns-else-grants : goal.returns-else-grants
unfolding changed_counter
returns-else-grants c = rw (told c.grants.ensures c.if-grants.false)
