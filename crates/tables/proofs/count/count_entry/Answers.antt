-- An entry that grants nothing leaves the ledger; one whose counters are in bounds can be changed.
use mathlib.Core.Path.{refl}
use native.Mathlib.Omega.{arith}
use Rattle.words.proofs.Bounded.{told}
use Rattle.words.proofs.Words.{Bytes}
use Rattle.rules.specs.Store.{lent}
use Rattle.ledger.specs.Meaning.{change_of}
use Rattle.validation.proofs.Covers.{entry_recorded}
use Rattle.tables.proofs.Counting.{left_alone, was_changed, entry_idle, entry_countable}
use Rattle.tables.proofs.count.count_entry.Goals as goal

pub returns-then-not-grants_some : goal.returns-then-not-grants_some
returns-then-not-grants_some c = let bytes : Bytes c.args.ledger.now = λ i. omega (arith, c.slice_known-1.given i) in
    entry_idle _ _ _ _ c.requires.0 bytes (told c.grants_some.ensures c.if-not-grants_some.true)

pub is_stuck-requires : goal.is_stuck-requires
is_stuck-requires c = let a = c.args in
    entry_recorded (lent a.memory.now a.ledger.now) _ c.requires.0 c.requires.1

pub shape_of-ledger-then-is_stuck : goal.shape_of-ledger-then-is_stuck
shape_of-ledger-then-is_stuck c = refl

pub returns-then-is_stuck : goal.returns-then-is_stuck
returns-then-is_stuck c = left_alone (told c.is_stuck.ensures c.if-is_stuck.true)

pub change_entry-requires : goal.change_entry-requires
change_entry-requires c = record { fits = c.requires.0; e_value = c.requires.1; countable = entry_countable (change_of c.args.change) c.args.memory.now c.args.ledger.now _ c.requires.1 (told c.is_stuck.ensures c.if-is_stuck.false) }

pub returns : goal.returns
returns c = was_changed (told c.is_stuck.ensures c.if-is_stuck.false) c.change_entry.ensures
