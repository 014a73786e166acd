-- A refusal leaves the ledger; else 13 is decided by counting, and the ledger is the rules' or the old one.
use mathlib.Core.Path.{refl, sym}
use native.Mathlib.Omega.{arith}
use Rattle.std.proofs.lemmas.Result.{err_from_is_err_and}
use Rattle.words.proofs.Bounded.{any_none}
use Rattle.rules.specs.Free.{free_outcome}
use Rattle.rules.proofs.Refusals.{passed, now, rest}
use Rattle.ledger.proofs.Judge.{decides, refused, refuses, leaves_refused}
use Rattle.ledger.proofs.Regions.{same_memory, same_ledger}
use Rattle.tables.proofs.Changing.{changed_or_refused}
use Rattle.tables.proofs.free.free.Goals as goal

pub returns-in_err-new : goal.returns-in_err-new
unfolding free_outcome
returns-in_err-new c =
    let p = err_from_is_err_and c.from_residual.result c.from_residual.ensures.1 in
    let (answer, after) = leaves_refused _ _ _ (decides (refused _ _ c.in_err-new.ensures.value (refuses _))) (refuses _) in
    rw (p.1, p.2) (record { value = answer; ledger_after = after })

pub returns-in_err-check_free : goal.returns-in_err-check_free
unfolding free_outcome
returns-in_err-check_free c =
    let p = err_from_is_err_and c.from_residual-in_err-check_free.result c.from_residual-in_err-check_free.ensures.1 in
    let judged = rw (same_memory c.in_ok-new.ensures.region, same_ledger c.in_ok-new.ensures.region) at c.in_err-check_free.ensures in
    let (answer, after) = leaves_refused _ _ _ (decides (refused _ _ judged (refuses _))) (refuses _) in
    rw (p.1, p.2) (record { value = answer; ledger_after = after })

pub change_table-requires : goal.change_table-requires
change_table-requires c =
    let p1 = passed _ (omega arith) (sym (rw (same_memory c.in_ok-new.ensures.region, same_ledger c.in_ok-new.ensures.region) at c.in_ok-check_free.ensures)) in
    let p2 = rest p1 in
    let p8 = rest (rest (rest (rest p2))) in
    record { fits = now p1; inside = now p2; accepted = any_none _ _ (now p8); placed = any_none _ _ (now (rest p8)) }

pub returns : goal.returns
unfolding free_outcome
returns c =
    let before = passed _ (omega arith) (sym (rw (same_memory c.in_ok-new.ensures.region, same_ledger c.in_ok-new.ensures.region) at c.in_ok-check_free.ensures)) in
    let (answer, after) = changed_or_refused _ _ _ _ before c.change_table.ensures.changed c.change_table.ensures.overrun refl refl in
    record { value = answer; ledger_after = after }
