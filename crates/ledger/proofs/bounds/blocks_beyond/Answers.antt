-- One counter after the other.
use Rattle.words.proofs.Bounded.{told}
use Rattle.rules.specs.Store.{some_counter}
use Rattle.ledger.specs.Counters.{blocks_beyond}
use Rattle.ledger.proofs.bounds.blocks_beyond.Goals as goal

pub returns-then-counter_beyond : goal.returns-then-counter_beyond
unfolding blocks_beyond some_counter
returns-then-counter_beyond c = rw (told c.counter_beyond.ensures c.if-counter_beyond.true)

pub returns-then-counter_beyond-2 : goal.returns-then-counter_beyond-2
unfolding blocks_beyond some_counter
returns-then-counter_beyond-2 c = rw (told c.counter_beyond.ensures c.if-counter_beyond.false, told c.counter_beyond-2.ensures c.if-counter_beyond-2.true)

pub returns : goal.returns
unfolding blocks_beyond some_counter
returns c = rw (told c.counter_beyond.ensures c.if-counter_beyond.false, told c.counter_beyond-2.ensures c.if-counter_beyond-2.false) c.counter_beyond-3.ensures
