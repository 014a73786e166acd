-- The table's entries are counted, and then its blocks get their type.
use native.Mathlib.Omega.{arith}
use Rattle.std.proofs.lemmas.Result.{err_from_is_err_and}
use Rattle.rules.proofs.State.{fits_stored, within}
use Rattle.tables.proofs.count.change_table.Goals as goal

pub first_word-j-requires : goal.first_word-j-requires
first_word-j-requires c = let fit = fits_stored _ c.requires.fits in (omega arith, (within _ _ _ _ c.requires.inside).0)

pub record_of-b-requires : goal.record_of-b-requires
record_of-b-requires c = let fit = fits_stored _ c.requires.fits in (omega arith, (within _ _ _ _ c.requires.inside).0)

pub count_table-requires : goal.count_table-requires
count_table-requires c =
    let pre = c.requires in
    let fit = fits_stored _ pre.fits in
    let inside = within _ _ _ _ pre.inside in
    record { fits = pre.fits; holds = omega (arith, c.first_word-j.ensures, c.table_entries-m.ensures); accepted = λ i l. rw c.first_word-j.ensures (pre.accepted i (omega (arith, c.table_entries-m.ensures))); placed = λ i l. rw c.first_word-j.ensures (pre.placed i (omega (arith, c.table_entries-m.ensures))) }

pub returns-in_err-count_table : goal.returns-in_err-count_table
returns-in_err-count_table c =
    let p = err_from_is_err_and c.from_residual.result c.from_residual.ensures.1 in
    let counted = rw (c.first_word-j.ensures, c.table_entries-m.ensures) at c.in_err-count_table.ensures.changed in
    rw (p.1, p.2) (record { changed = record { tells = counted.tells; leaves = counted.leaves }; overrun = c.in_err-count_table.ensures.overrun })

pub put_types-requires : goal.put_types-requires
put_types-requires c =
    let fit = fits_stored _ c.requires.fits in
    let inside = within _ _ _ _ c.requires.inside in
    omega (arith, c.record_of-b.ensures.is, c.table_blocks.ensures.0)

pub returns : goal.returns
returns c =
    let counted = rw (c.first_word-j.ensures, c.table_entries-m.ensures) at c.in_ok-count_table.ensures.changed in
    record { changed = record { tells = counted.tells; leaves = rw (counted.leaves, c.record_of-b.ensures.is, c.table_blocks.ensures.0, c.code.ensures, c.type_after.ensures) at c.put_types.ensures }; overrun = tt }
