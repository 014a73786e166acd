-- Each return is decided by the tests up to its own.
use mathlib.Core.Path.{sym}
use native.Mathlib.Omega.{arith}
use Rattle.std.proofs.lemmas.Result.{err_from_is_err_and}
use Rattle.words.proofs.Bounded.{told}
use Rattle.rules.proofs.Refusals.{passed, now}
use Rattle.rules.proofs.State.{fits_stored, within}
use Rattle.ledger.proofs.Judge.{decides, here, past, refused, refuses, accepted, judged}
use Rattle.tables.proofs.create.check_create.Goals as goal

pub returns-in_err-check_image : goal.returns-in_err-check_image
returns-in_err-check_image c =
    let p = err_from_is_err_and c.from_residual.result c.from_residual.ensures.1 in
    rw (p.1, p.2) (record { value = decides (past c.args.region.now.fits (refused _ _ c.in_err-check_image.ensures (refuses _))); admitted = tt })

pub returns-in_err-check_table : goal.returns-in_err-check_table
returns-in_err-check_table c =
    let p = err_from_is_err_and c.from_residual-in_err-check_table.result c.from_residual-in_err-check_table.ensures.1 in
    let image = passed _ (omega arith) (sym c.in_ok-check_image.ensures) in
    rw (p.1, p.2) (record { value = decides (past c.args.region.now.fits (accepted image (refused _ _ (rw c.code.ensures at c.in_err-check_table.ensures) (refuses _)))); admitted = tt })

pub is_counted-requires : goal.is_counted-requires
is_counted-requires c = now (passed _ (omega arith) (sym (rw c.code.ensures at c.in_ok-check_table.ensures)))

pub returns-then-is_counted : goal.returns-then-is_counted
returns-then-is_counted c =
    let image = passed _ (omega arith) (sym c.in_ok-check_image.ensures) in
    let table = passed _ (omega arith) (sym (rw c.code.ensures at c.in_ok-check_table.ensures)) in
    record { value = decides (past c.args.region.now.fits (accepted image (accepted table (here (told c.is_counted.ensures c.if-is_counted.true))))); admitted = tt }

pub first_word-j-requires : goal.first_word-j-requires
first_word-j-requires c =
    let fit = fits_stored _ c.args.region.now.fits in
    (omega arith, (within _ _ _ _ (now (passed _ (omega arith) (sym (rw c.code.ensures at c.in_ok-check_table.ensures))))).0)

pub check_new_entries-requires : goal.check_new_entries-requires
check_new_entries-requires c =
    let fit = fits_stored _ c.args.region.now.fits in
    let inside = within _ _ _ _ (now (passed _ (omega arith) (sym (rw c.code.ensures at c.in_ok-check_table.ensures)))) in
    record { holds_words = omega (arith, c.first_word-j.ensures, c.table_entries-m.ensures); empty = c.requires }

pub returns : goal.returns
returns c =
    let image = passed _ (omega arith) (sym c.in_ok-check_image.ensures) in
    let table = passed _ (omega arith) (sym (rw c.code.ensures at c.in_ok-check_table.ensures)) in
    let entries-are = rw (c.first_word-j.ensures, c.table_entries-m.ensures) at c.check_new_entries.ensures in
    record { value = decides (past c.args.region.now.fits (accepted image (accepted table (past (told c.is_counted.ensures c.if-is_counted.false) (judged _ entries-are.value))))); admitted = entries-are.admitted }
