use mathlib.Core.Path.{◌≡◌}
use Prim.Native.Nat.{◌+◌}
use native.Mathlib.Omega.{arith}
use Rattle.words.proofs.Words.{Bytes}
use Rattle.ledger.specs.Meaning.{change_of}
use Rattle.tables.proofs.Counting.{fewer_storable, none_counted, length_reached, next_can, next-counted}
use Rattle.tables.proofs.count.count_all.Goals as goal

pub loop-i-init : goal.loop-i-init
loop-i-init c =
    let bytes : Bytes c.args.ledger.now = λ i. omega (arith, c.slice_known-1.given i) in
    (omega arith, (none_counted _ c.requires.table_placed bytes).0)

pub overflow_add-j : goal.overflow_add-j
overflow_add-j c = let h = c.requires.table_placed.holds in omega arith

pub accepted_entry-requires : goal.accepted_entry-requires
accepted_entry-requires c =
    let pre = c.requires.table_placed in
    record { holds_word = omega (arith, pre.holds); j_value = pre.accepted c.loop-i.i (omega arith) }

pub change_entry-requires : goal.change_entry-requires
change_entry-requires c =
    let pre = c.requires in
    let bytes : Bytes c.args.ledger.now = λ i. omega (arith, c.slice_known-1.given i) in
    let at = c.loop-i in
    let can = next_can _ pre.table_placed bytes at.i at.invariant.1 (omega arith) c.accepted_entry.ensures (fewer_storable (change_of c.args.change) pre.table_placed bytes (at.i + 1) c.args.m (omega arith) pre.all_storable) in
    record { fits = can.0; e_value = can.1.0; countable = can.1.1 }

pub loop-i-preserved : goal.loop-i-preserved
loop-i-preserved c =
    let pre = c.requires in
    let bytes : Bytes c.args.ledger.now = λ i. omega (arith, c.slice_known-1.given i) in
    let at = c.loop-i in
    (omega arith, next-counted _ pre.table_placed bytes at.i at.invariant.1 (omega arith) c.accepted_entry.ensures (fewer_storable (change_of c.args.change) pre.table_placed bytes (at.i + 1) c.args.m (omega arith) pre.all_storable) c.change_entry.ensures)

pub shape_of-ledger : goal.shape_of-ledger
shape_of-ledger c =
    let bytes : Bytes c.args.ledger.now = λ i. omega (arith, c.slice_known-1.given i) in
    length_reached _ c.requires.table_placed bytes c.loop-i.i c.loop-i.invariant.1

pub returns : goal.returns
returns c =
    let e : c.loop-i.i ≡ c.args.m = omega arith in
    rw e at c.loop-i.invariant.1
