-- A refusal leaves the ledger, and so do no blocks; else the blocks lie in the region, and their marks are cleared.
use mathlib.Core.Logic.{◌≢◌}
use mathlib.Core.Path.{◌≡◌, refl, sym, ◌∙◌, ap}
use Prim.Native.Nat.{ℕ}
use native.Mathlib.Omega.{arith}
use lib.ListN.{length}
use borrow.Author.Tests.{lt-ltb}
use Rattle.std.proofs.lemmas.Result.{err_from_is_err_and}
use Rattle.words.proofs.Bounded.{told}
use Rattle.rules.specs.Forget.{stray_blocks, forget_outcome}
use Rattle.rules.specs.Store.{Store, blocks, base, clear_marks, outside}
use Rattle.rules.proofs.Refusals.{passed, now}
use Rattle.rules.proofs.State.{fits_stored, within}
use Rattle.ledger.proofs.Judge.{decides, none, here, past, refused, refuses, leaves_refused, leaves_accepted}
use Rattle.ledger.proofs.Regions.{same_memory, same_ledger}
use Rattle.tables.proofs.forget.forget.Goals as goal

some_blocks : (s : Store) (p m : ℕ) → m ≢ 0 → stray_blocks s p m ≡ outside (base s) (blocks s) p m
unfolding stray_blocks
some_blocks s p m n = rw (lt-ltb 0 m (omega arith)) refl

pub returns-in_err-region : goal.returns-in_err-region
unfolding forget_outcome
returns-in_err-region c =
    let p = err_from_is_err_and c.from_residual.result c.from_residual.ensures.1 in
    let (answer, after) = leaves_refused _ _ _ (decides (refused _ _ c.in_err-region.ensures.value (refuses _))) (refuses _) in
    rw (p.1, p.2) (record { value = answer; ledger_after = after })

pub returns-then-count-eq0 : goal.returns-then-count-eq0
unfolding forget_outcome stray_blocks clear_marks
returns-then-count-eq0 c =
    let fit = now (passed _ (omega arith) (sym c.in_ok-region.ensures.value)) in
    let (answer, after) = leaves_accepted _ _ _ (decides (past fit (past refl none))) refl refl refl in
    rw c.if-count-eq0.true (record { value = answer; ledger_after = after })

pub returns-then-is_outside : goal.returns-then-is_outside
unfolding forget_outcome
returns-then-is_outside c =
    let fit = now (passed _ (omega arith) (sym c.in_ok-region.ensures.value)) in
    let out = told (rw (same_memory c.in_ok-region.ensures.region, same_ledger c.in_ok-region.ensures.region) at c.is_outside.ensures) c.if-is_outside.true in
    let (answer, after) = leaves_refused _ _ _ {a = 2} (decides (past fit (here (some_blocks _ _ _ c.if-count-eq0.false ∙ out)))) (λ e. omega arith) in
    record { value = answer; ledger_after = after }

pub record_of-b-requires : goal.record_of-b-requires
record_of-b-requires c = (within _ _ _ _ (told c.is_outside.ensures c.if-is_outside.false)).0

pub clear_marks-requires : goal.clear_marks-requires
clear_marks-requires c =
    let same = same_ledger c.in_ok-region.ensures.region in
    let fit = fits_stored _ c.in_ok-region.region.fits in
    let inside = within _ _ _ _ (told c.is_outside.ensures c.if-is_outside.false) in
    omega (arith, ap length same, fit.ledger_length, c.record_of-b.ensures.is)

pub returns : goal.returns
unfolding forget_outcome
returns c =
    let fit = now (passed _ (omega arith) (sym c.in_ok-region.ensures.value)) in
    let same = same_ledger c.in_ok-region.ensures.region in
    let inside = told (rw (same_memory c.in_ok-region.ensures.region, same_ledger c.in_ok-region.ensures.region) at c.is_outside.ensures) c.if-is_outside.false in
    let (answer, after) = leaves_accepted _ _ _ (decides (past fit (past (some_blocks _ _ _ c.if-count-eq0.false ∙ inside) none))) refl refl (rw (c.record_of-b.ensures.is, same) at c.clear_marks.ensures) in
    record { value = answer; ledger_after = after }
