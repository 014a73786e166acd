use mathlib.Core.Path.{◌≡◌, ◌∙◌}
use native.Mathlib.Omega.{arith}
use Rattle.words.proofs.Words.{Bytes}
use Rattle.ledger.specs.Meaning.{change_of}
use Rattle.tables.proofs.Counting.{none_counted, length_reached, next_ready, count_goes_on, count_stops}
use Rattle.tables.proofs.count.count_until_stuck.Goals as goal

pub loop-i-init : goal.loop-i-init
loop-i-init c = let bytes : Bytes c.args.ledger.now = λ i. omega (arith, c.slice_known-1.given i) in
    let none = none_counted (change_of c.args.change) c.requires bytes in
    (omega arith, none.0, none.1)

pub overflow_add-j : goal.overflow_add-j
overflow_add-j c = let h = c.requires.holds in omega arith

pub accepted_entry_at-e-requires : goal.accepted_entry_at-e-requires
accepted_entry_at-e-requires c =
    let pre = c.requires in
    record { holds_word = omega (arith, pre.holds); j_value = pre.accepted c.loop-i.i (omega arith) }

pub count_entry-requires : goal.count_entry-requires
count_entry-requires c = let bytes : Bytes c.args.ledger.now = λ i. omega (arith, c.slice_known-1.given i) in
    next_ready _ c.requires bytes c.loop-i.i c.loop-i.invariant.1 (omega arith) c.accepted_entry_at-e.ensures

pub shape_of-ledger-then-is_err : goal.shape_of-ledger-then-is_err
shape_of-ledger-then-is_err c =
    let start = c in
    let bytes : Bytes start.args.ledger.now = λ i. omega (arith, c.slice_known-1.given i) in
    c.count_entry.auto.ledger ∙ length_reached _ start.requires bytes c.loop-i.i c.loop-i.invariant.1

pub returns-then-is_err : goal.returns-then-is_err
returns-then-is_err c = let bytes : Bytes c.args.ledger.now = λ i. omega (arith, c.slice_known-1.given i) in
    count_stops _ c.requires bytes c.loop-i.i c.loop-i.invariant.1 (omega arith) c.accepted_entry_at-e.ensures c.loop-i.invariant.2 c.count_entry.ensures (rw c.if-is_err.true at c.is_err.ensures.negation)

pub loop-i-preserved : goal.loop-i-preserved
loop-i-preserved c = let bytes : Bytes c.args.ledger.now = λ i. omega (arith, c.slice_known-1.given i) in
    let (is, more) = count_goes_on _ c.requires bytes c.loop-i.i c.loop-i.invariant.1 (omega arith) c.accepted_entry_at-e.ensures c.loop-i.invariant.2 c.count_entry.ensures (rw c.if-is_err.false at c.is_err.ensures.negation) in
    (omega arith, is, more)

pub shape_of-ledger : goal.shape_of-ledger
shape_of-ledger c = let bytes : Bytes c.args.ledger.now = λ i. omega (arith, c.slice_known-1.given i) in
    length_reached _ c.requires bytes c.loop-i.i c.loop-i.invariant.1

pub returns : goal.returns
returns c = let e : c.loop-i.i ≡ c.args.m = omega arith in
    let inv = rw e at c.loop-i.invariant in
    record { at_most = omega arith; ledger_is = inv.1; roomy = inv.2; stuck = λ l. let z : ⊥ = omega arith in absurd z }
