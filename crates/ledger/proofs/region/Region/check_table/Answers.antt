-- Each return is decided by the tests up to its own.
use mathlib.Core.List.{[], ◌∷◌}
use mathlib.Core.Path.{sym}
use native.Mathlib.Omega.{arith}
use Rattle.std.proofs.lemmas.Result.{err_from_is_err_and}
use Rattle.words.proofs.Bounded.{told}
use Rattle.rules.proofs.Refusals.{passed, now}
use Rattle.ledger.proofs.Judge.{decides, none, here, past, refused, refuses, accepted}
use Rattle.ledger.proofs.region.Region.check_table.Goals as goal

pub returns-in_err-check_place : goal.returns-in_err-check_place
returns-in_err-check_place c =
    let p = err_from_is_err_and c.from_residual.result c.from_residual.ensures.1 in
    rw (p.1, p.2) (decides (refused _ (_ ∷ []) c.in_err-check_place.ensures (refuses _)))

pub is_other_type-requires : goal.is_other_type-requires
is_other_type-requires c = now (passed _ (omega arith) (sym c.in_ok-check_place.ensures))

pub returns-then-is_other_type : goal.returns-then-is_other_type
returns-then-is_other_type c = decides (accepted (passed _ (omega arith) (sym c.in_ok-check_place.ensures)) (here (told c.is_other_type.ensures c.if-is_other_type.true)))

pub returns : goal.returns
returns c = decides (accepted (passed _ (omega arith) (sym c.in_ok-check_place.ensures)) (past (told c.is_other_type.ensures c.if-is_other_type.false) none))
