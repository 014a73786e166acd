-- A refusal leaves the ledger, and an accepted switch stores the active word.
use mathlib.Core.Path.{◌≡◌, refl, sym, ◌∙◌, ap}
use native.Mathlib.Omega.{arith}
use Rattle.rules.specs.Refusals.{answer_of}
use Rattle.rules.specs.Store.{Store, lent}
use Rattle.rules.specs.Switch.{switch_outcome, switch_refusals}
use Rattle.rules.proofs.Refusals.{passed, now}
use Rattle.rules.proofs.State.{fits_stored}
use Rattle.ledger.proofs.Judge.{decides, refused, refuses}
use Rattle.mapping.proofs.Exits.{exit_leaves, accept_leaves}
use Rattle.mapping.proofs.switch.switch.Goals as goal
use Rattle.mapping.proofs.switch.switch.Goals.{In_ok-check_switch}

-- the region is that of the two buffers
accepted : (c : In_ok-check_switch) → 0 ≡ answer_of (switch_refusals (lent c.args.memory.now c.args.ledger.now) c.args.block)
accepted c = c.in_ok-check_switch.ensures ∙ ap (λ (s : Store). answer_of (switch_refusals s c.args.block)) c.in_ok-region.ensures.region

pub returns-in_err-region : goal.returns-in_err-region
unfolding switch_outcome
returns-in_err-region c = exit_leaves _ _ _ _ _ c.from_residual.ensures.1 (decides (refused _ _ c.in_err-region.ensures.value (refuses _)))

pub returns-in_err-check_switch : goal.returns-in_err-check_switch
unfolding switch_outcome
returns-in_err-check_switch c =
    exit_leaves _ _ _ _ _ c.from_residual-in_err-check_switch.ensures.1
    (c.in_err-check_switch.ensures ∙ ap (λ (s : Store). answer_of (switch_refusals s c.args.block)) c.in_ok-region.ensures.region)

pub put_active-requires : goal.put_active-requires
put_active-requires c = let fit = fits_stored _ (now (passed _ (omega arith) (sym (accepted (goal.at.put_active-requires c).In_ok-check_switch)))) in omega arith

pub returns : goal.returns
unfolding switch_outcome
returns c = accept_leaves _ _ _ (accepted (goal.at.returns c).In_ok-check_switch) refl c.put_active.ensures
