-- What a call answers, leaves and gives where a `?` hands a refusal back, and where it is accepted.
use mathlib.Core.List.{List}
use mathlib.Core.Path.{◌≡◌, refl, ◌∙◌}
use Prim.Native.Nat.{ℕ}
use Rattle.std.specs.Prelude.{Result}
use Rattle.std.specs.Result.{IsErrAnd}
use Rattle.std.proofs.lemmas.Result.{err_from_is_err_and}
use Rattle.rules.specs.Outcomes.{Accepted, call_outcome}
use Rattle.rules.specs.Refusals.{Refusal, answer_of}
use Rattle.rules.specs.Store.{Store, lent}
use Rattle.ledger.specs.Refusals.{answered, given, number_of}
use Rattle.ledger.specs.declared.refusals.Refusal as refusals
use Rattle.ledger.proofs.Judge.{refuses, leaves_refused, leaves_accepted, hashed_refused}

pub exit_answers : {A : Type 0} (r : Result A refusals.Refusal) (e : refusals.Refusal) → IsErrAnd r (λ y. y ≡ e) → answered r ≡ number_of e
exit_answers r e exit = let p = err_from_is_err_and r exit in rw (p.1, p.2) refl

module _ (rs : List Refusal) (old : Store) (new : Accepted) where
  pub exit_leaves : {A : Type 0} (r : Result A refusals.Refusal) (e : refusals.Refusal) → IsErrAnd r (λ y. y ≡ e) → number_of e ≡ answer_of rs
      → record { value : answered r ≡ (call_outcome rs old new).answer; ledger_after : old ≡ (call_outcome rs old new).after }
  exit_leaves r e exit judged =
      let said = leaves_refused rs old new judged (refuses e) in
      record { value = exit_answers r e exit ∙ said.0; ledger_after = said.1 }

  -- the number of blocks hashed
  pub exit_gives : (r : Result ℕ refusals.Refusal) (e : refusals.Refusal) → IsErrAnd r (λ y. y ≡ e) → number_of e ≡ answer_of rs → given r ≡ (call_outcome rs old new).hashed
  exit_gives r e exit judged = let p = err_from_is_err_and r exit in rw p.1 (hashed_refused rs old new judged (refuses e))

  pub accept_leaves : {memory ledger : List ℕ} → 0 ≡ answer_of rs → memory ≡ new.store.memory → ledger ≡ new.store.ledger
      → record { value : 0 ≡ (call_outcome rs old new).answer; ledger_after : lent memory ledger ≡ (call_outcome rs old new).after }
  accept_leaves judged m l = let said = leaves_accepted rs old new judged refl m l in record { value = said.0; ledger_after = said.1 }
