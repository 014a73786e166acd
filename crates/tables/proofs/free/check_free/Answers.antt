-- Each return is decided by the tests up to its own.
use mathlib.Core.Path.{sym}
use native.Mathlib.Omega.{arith}
use Rattle.std.proofs.lemmas.Result.{err_from_is_err_and}
use Rattle.words.proofs.Bounded.{told}
use Rattle.rules.proofs.Refusals.{passed, now}
use Rattle.rules.proofs.State.{fits_stored, within}
use Rattle.ledger.proofs.Judge.{decides, here, past, refused, refuses, accepted, judged}
use Rattle.tables.proofs.free.check_free.Goals as goal

pub returns-in_err-check_table : goal.returns-in_err-check_table
returns-in_err-check_table c =
    let p = err_from_is_err_and c.from_residual.result c.from_residual.ensures.1 in
    rw (p.1, p.2) (decides (past c.args.region.now.fits (refused _ _ (rw (c.code.ensures, c.table_type.ensures) at c.in_err-check_table.ensures) (refuses _))))

pub is_in_use-requires : goal.is_in_use-requires
is_in_use-requires c = now (passed _ (omega arith) (sym (rw (c.code.ensures, c.table_type.ensures) at c.in_ok-check_table.ensures)))

pub returns-then-is_in_use : goal.returns-then-is_in_use
returns-then-is_in_use c =
    let table = passed _ (omega arith) (sym (rw (c.code.ensures, c.table_type.ensures) at c.in_ok-check_table.ensures)) in
    decides (past c.args.region.now.fits (accepted table (here (told c.is_in_use.ensures c.if-is_in_use.true))))

pub first_word-j-requires : goal.first_word-j-requires
first_word-j-requires c =
    let fit = fits_stored _ c.args.region.now.fits in
    (omega arith, (within _ _ _ _ (now (passed _ (omega arith) (sym (rw (c.code.ensures, c.table_type.ensures) at c.in_ok-check_table.ensures))))).0)

pub check_old_entries-requires : goal.check_old_entries-requires
check_old_entries-requires c =
    let fit = fits_stored _ c.args.region.now.fits in
    let inside = within _ _ _ _ (now (passed _ (omega arith) (sym (rw (c.code.ensures, c.table_type.ensures) at c.in_ok-check_table.ensures)))) in
    omega (arith, c.first_word-j.ensures, c.table_entries.ensures)

pub returns : goal.returns
returns c =
    let table = passed _ (omega arith) (sym (rw (c.code.ensures, c.table_type.ensures) at c.in_ok-check_table.ensures)) in
    let entries-are = rw (c.first_word-j.ensures, c.table_entries.ensures) at c.check_old_entries.ensures in
    decides (past c.args.region.now.fits (accepted table (past (told c.is_in_use.ensures c.if-is_in_use.false) (judged _ entries-are))))
