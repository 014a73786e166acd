-- Where the entry does not grant it, the counter is not looked at; else the records are scanned.
use mathlib.Core.Path.{◌∙◌}
use Prim.Native.Nat.{ℕ}
use native.Mathlib.Omega.{arith}
use Rattle.words.proofs.Bounded.{told}
use Rattle.rules.specs.Store.{counter_word, record_word}
use Rattle.ledger.specs.Counters.{beyond, counter_beyond}
use Rattle.ledger.specs.Meaning.{counter_of}
use Rattle.ledger.proofs.Blocks.{some_block_records}
use Rattle.ledger.proofs.bounds.counter_beyond.Goals as goal

pub returns-then-not-grants : goal.returns-then-not-grants
unfolding counter_beyond
returns-then-not-grants c = rw (told c.grants.ensures c.if-not-grants.true)

pub record_of-b-requires : goal.record_of-b-requires
record_of-b-requires c = let (lo, hi) = c.requires _ (told c.grants.ensures c.if-not-grants.false) in (omega arith, lo)

pub some_beyond-requires : goal.some_beyond-requires
some_beyond-requires c = let (lo, hi) = c.requires _ (told c.grants.ensures c.if-not-grants.false) in
    let b = c.record_of-b.ensures in
    omega arith

pub returns : goal.returns
unfolding counter_beyond
returns c =
    let a = c.args in
    let g = told c.grants.ensures c.if-not-grants.false in
    rw g
    ((rw (c.field.ensures, c.record_of-b.ensures.is) at c.some_beyond.ensures)
    ∙ some_block_records _ _ _ (λ (x : ℕ). beyond a.bounds.least a.bounds.most (record_word a.ledger.now (counter_word (counter_of a.counter)) x)) (c.requires _ g).0)
