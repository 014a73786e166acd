-- An acknowledge is lent neither memory nor ledger, so that whatever held of them still does.
use mathlib.Core.List.{List}
use mathlib.Core.Path.{◌≡◌, refl}
use Prim.Native.Nat.{ℕ, zero, suc}
use native.Mathlib.Omega.{arith}
use Rattle.rules.specs.Refusals.{answer_of}
use Rattle.rules.specs.Store.{Store}
use Rattle.rules.specs.Outcomes.{settle}
use Rattle.rules.specs.Registers.{acknowledge_refusals, acknowledge_accepted, acknowledge_outcome}
use Rattle.rules.specs.Steps.{acknowledges, Told, after_accepted}
use Rattle.rules.specs.Box.{grants_write}
use Rattle.rules.proofs.Refusals.{avoided}
use Rattle.rules.proofs.Ledger.{marks_none}
use Rattle.rules.proofs.State.{Running, grows_none, Next, next}

-- lists 16: whatever the registers
pub acknowledge_after : (s : Store) (registers : List ℕ) → (acknowledge_outcome s registers).after ≡ s
unfolding acknowledge_outcome settle
acknowledge_after s registers = go (answer_of (acknowledge_refusals registers)) where
  go : (k : ℕ) → (settle k s (acknowledge_accepted s registers)).after ≡ s
  go zero = refl
  go (suc k) = refl

pub acknowledge_next : {h : Told} {s : Store} → Running h s → (registers : List ℕ) → Next h s (acknowledges registers) (acknowledge_outcome s registers)
unfolding acknowledge_outcome after_accepted
acknowledge_next {h} {s} r registers =
    let rs = acknowledge_refusals registers in
    let step = acknowledges registers in
    next step (acknowledge_accepted s registers) (answer_of rs) r (avoided 13 rs (λ e. omega arith) (omega arith)) (avoided 24 rs (λ e. omega arith) (omega arith))
    (λ e. record { runs = r; grows = grows_none (grants_write s step) s s (marks_none s.ledger) (λ b l k. k) refl })
