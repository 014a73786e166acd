-- A refusal leaves the ledger; else the records are cleared, and then what stands before them is stored.
use mathlib.Core.List.{List}
use mathlib.Core.Path.{◌≡◌, refl, sym}
use Prim.Native.Nat.{ℕ}
use native.Mathlib.Omega.{arith}
use lib.ListN.{length}
use Rattle.std.proofs.lemmas.Result.{err_from_is_err_and}
use Rattle.rules.specs.Store.{Store, kinds_bytes, blocks}
use Rattle.rules.specs.Begin.{begin_outcome, begin_refusals}
use Rattle.rules.specs.Refusals.{answer_of}
use Rattle.rules.proofs.Refusals.{passed}
use Rattle.rules.proofs.State.{Fit}
use Rattle.rules.proofs.Starting.{begin_fits}
use Rattle.ledger.proofs.Judge.{refuses, leaves_refused, leaves_accepted}
use Rattle.tables.proofs.begin.begin_kinds.Goals as goal

-- what has passed, where nothing was refused
fitting : (s : Store) (kinds : List ℕ) (first : ℕ) → 0 ≡ answer_of (begin_refusals s kinds first) → Fit first (blocks s) s × (length kinds ≡ kinds_bytes)
fitting s kinds first judged = begin_fits s kinds first (passed _ (omega arith) (sym judged))

pub returns-in_err-check_begin : goal.returns-in_err-check_begin
unfolding begin_outcome
returns-in_err-check_begin c =
    let p = err_from_is_err_and c.from_residual.result c.from_residual.ensures.1 in
    let (answer, after) = leaves_refused _ _ _ c.in_err-check_begin.ensures (refuses _) in
    rw (p.1, p.2) (record { value = answer; ledger_after = after })

pub clear_records-requires : goal.clear_records-requires
clear_records-requires c = let (fit, sixteen) = fitting _ _ _ c.in_ok-check_begin.ensures in omega (arith, fit.ledger_length, c.blocks-2.ensures)

pub put_kinds-requires : goal.put_kinds-requires
put_kinds-requires c = let (fit, sixteen) = fitting _ _ _ c.in_ok-check_begin.ensures in (omega (arith, fit.ledger_length), sixteen)

pub put_base-requires : goal.put_base-requires
put_base-requires c = let (fit, sixteen) = fitting _ _ _ c.in_ok-check_begin.ensures in omega (arith, fit.ledger_length)

pub put_active-requires : goal.put_active-requires
put_active-requires c = let (fit, sixteen) = fitting _ _ _ c.in_ok-check_begin.ensures in omega (arith, fit.ledger_length)

pub returns : goal.returns
unfolding begin_outcome
returns c =
    let cleared = rw c.blocks-2.ensures at c.clear_records.ensures in
    let (answer, after) = leaves_accepted _ _ _ c.in_ok-check_begin.ensures refl refl (rw (c.put_base.ensures, c.put_kinds.ensures, cleared) at c.put_active.ensures) in
    record { value = answer; ledger_after = after }
