-- A refusal leaves the ledger; else 13 is decided by counting, and the marks of what the table executes come last.
use mathlib.Core.Path.{refl, sym}
use native.Mathlib.Omega.{arith}
use borrow.Author.Tests.{not-true, not-false}
use Rattle.std.proofs.lemmas.Result.{err_from_is_err_and}
use Rattle.words.proofs.Bounded.{any_none}
use Rattle.rules.specs.Create.{create_outcome}
use Rattle.rules.proofs.Refusals.{passed, now, rest}
use Rattle.rules.proofs.State.{fits_stored}
use Rattle.ledger.proofs.Judge.{decides, none, here, past, refused, refuses, accepted, leaves_refused, leaves_accepted, hashed_refused, hashed_accepted}
use Rattle.ledger.proofs.Regions.{same_memory, same_ledger}
use Rattle.validation.proofs.Clashes.{all_placed}
use Rattle.tables.proofs.Admitting.{still_hashed, admitted_ledger}
use Rattle.tables.proofs.create.create.Goals as goal

pub returns-in_err-region : goal.returns-in_err-region
unfolding create_outcome
returns-in_err-region c =
    let p = err_from_is_err_and c.from_residual.result c.from_residual.ensures.1 in
    let judged = decides (refused _ _ c.in_err-region.ensures.value (refuses _)) in
    let (answer, after) = leaves_refused _ _ _ judged (refuses _) in
    rw (p.1, p.2) (record { value = answer; hashed = hashed_refused _ _ _ judged (refuses _); ledger_after = after })

pub returns-in_err-hashed : goal.returns-in_err-hashed
unfolding create_outcome
returns-in_err-hashed c =
    let p = err_from_is_err_and c.from_residual-in_err-hashed.result c.from_residual-in_err-hashed.ensures.1 in
    let judged = decides (refused _ _ (rw (same_memory c.in_ok-region.ensures.region, same_ledger c.in_ok-region.ensures.region) at c.in_err-hashed.ensures.value) (refuses _)) in
    let (answer, after) = leaves_refused _ _ _ judged (refuses _) in
    rw (p.1, p.2) (record { value = answer; hashed = hashed_refused _ _ _ judged (refuses _); ledger_after = after })

pub change_table-requires : goal.change_table-requires
change_table-requires c =
    let p1 = passed _ (omega arith) (sym (rw (same_memory c.in_ok-region.ensures.region, same_ledger c.in_ok-region.ensures.region) at c.in_ok-hashed.ensures.value)) in
    let p2 = rest (rest p1) in
    let p8 = rest (rest (rest (rest p2))) in
    record { fits = now p1; inside = now p2; accepted = any_none _ _ (now p8); placed = all_placed _ _ _ _ _ (now (rest p8)) }

pub returns-in_err-change_table : goal.returns-in_err-change_table
unfolding create_outcome
returns-in_err-change_table c =
    let p = err_from_is_err_and c.from_residual-in_err-change_table.result c.from_residual-in_err-change_table.ensures.1 in
    let before = passed _ (omega arith) (sym (rw (same_memory c.in_ok-region.ensures.region, same_ledger c.in_ok-region.ensures.region) at c.in_ok-hashed.ensures.value)) in
    let counted = c.in_err-change_table.ensures.changed in
    let judged = decides (accepted before (here (not-false _ (sym counted.tells)))) in
    let (answer, after) = leaves_refused _ _ _ {a = 13} judged (λ e. omega arith) in
    rw (p.1, p.2, c.in_err-change_table.ensures.overrun, counted.leaves) (record { value = answer; hashed = hashed_refused _ _ _ {a = 13} judged (λ e. omega arith); ledger_after = after })

pub admit_members-requires : goal.admit_members-requires
admit_members-requires c =
    let same = rw (same_memory c.in_ok-region.ensures.region, same_ledger c.in_ok-region.ensures.region) at c.in_ok-hashed.ensures in
    let fit = fits_stored _ (now (passed _ (omega arith) (sym same.value))) in
    let typed = c.in_ok-change_table.ensures.changed.leaves in
    record { in_ledger = (omega (arith, c.blocks-2.ensures, c.change_table.auto), omega (arith, c.blocks-2.ensures)); hashed_value = rw c.blocks-2.ensures (still_hashed _ _ _ _ same.admitted typed) }

pub returns : goal.returns
unfolding create_outcome
returns c =
    let same = rw (same_memory c.in_ok-region.ensures.region, same_ledger c.in_ok-region.ensures.region) at c.in_ok-hashed.ensures in
    let typed = c.in_ok-change_table.ensures.changed.leaves in
    let before = passed _ (omega arith) (sym same.value) in
    let judged = decides (accepted before (past (not-true _ (sym c.in_ok-change_table.ensures.changed.tells)) none)) in
    let (answer, after) = leaves_accepted _ _ _ judged refl refl (admitted_ledger _ _ _ _ same.admitted typed (rw c.blocks-2.ensures at c.admit_members.ensures)) in
    record { value = answer; hashed = hashed_accepted _ _ _ judged refl same.admitted.counted; ledger_after = after }
