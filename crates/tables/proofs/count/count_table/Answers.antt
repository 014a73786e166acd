-- A counter overruns on the way or at the end exactly if it overruns at once; then what was counted is taken back.
use mathlib.Core.Path.{refl}
use native.Mathlib.Omega.{arith}
use Rattle.words.proofs.Bounded.{told}
use Rattle.words.proofs.Words.{Bytes}
use Rattle.tables.proofs.Counting.{table_reached, back_counted, counted_all, counted_undone}
use Rattle.tables.proofs.count.count_table.Goals as goal

pub is_complete-requires : goal.is_complete-requires
is_complete-requires c =
    let bytes : Bytes c.args.ledger.now = λ i. omega (arith, c.slice_known-1.given i) in
    table_reached _ c.requires bytes _ c.count_until_stuck-done.ensures.ledger_is _ (omega arith)

pub returns-then-is_complete : goal.returns-then-is_complete
returns-then-is_complete c =
    let bytes : Bytes c.args.ledger.now = λ i. omega (arith, c.slice_known-1.given i) in
    record { changed = counted_all _ c.requires bytes c.count_until_stuck-done.ensures (told c.is_complete.ensures c.if-is_complete.true); overrun = tt }

pub count_all-requires : goal.count_all-requires
count_all-requires c =
    let bytes : Bytes c.args.ledger.now = λ i. omega (arith, c.slice_known-1.given i) in
    let done = c.count_until_stuck-done.ensures in
    record { table_placed = table_reached _ c.requires bytes _ done.ledger_is _ done.at_most; all_storable = rw c.opposite.ensures (back_counted _ c.requires bytes done) }

pub returns : goal.returns
returns c =
    let bytes : Bytes c.args.ledger.now = λ i. omega (arith, c.slice_known-1.given i) in
    record { changed = counted_undone _ c.requires bytes c.count_until_stuck-done.ensures (told c.is_complete.ensures c.if-is_complete.false) (rw c.opposite.ensures at c.count_all.ensures); overrun = refl }
