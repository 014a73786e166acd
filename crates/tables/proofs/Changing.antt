-- A table is changed, or 13 answers and the ledger is the old one: the end of create and of free.
use mathlib.Core.Bool.{Bool}
use mathlib.Core.List.{List, [], ◌∷◌, ◌++◌}
use mathlib.Core.Path.{◌≡◌, refl, sym, ◌∙◌}
use Prim.Native.Nat.{ℕ}
use native.Mathlib.Omega.{arith}
use borrow.Author.Tests.{not-true, not-false}
use Rattle.std.specs.Prelude.{Result, Ok, Err, OnErr, is_ok}
use Rattle.rules.specs.Outcomes.{Accepted, call_outcome}
use Rattle.rules.specs.Refusals.{Refusal, ◌if◌}
use Rattle.rules.specs.Store.{Store, lent}
use Rattle.rules.proofs.Refusals.{Passed}
use Rattle.ledger.specs.Refusals.{answered}
use Rattle.ledger.specs.declared.refusals.Refusal as refusals
use Rattle.ledger.proofs.Judge.{decides, none, here, past, accepted, leaves_refused, leaves_accepted}
use Rattle.tables.specs.Counting.{ChangedUnless}

pub changed_or_refused : (before : List Refusal) (old : Store) (new : Accepted) (r : Result (Unit {0}) refusals.Refusal) {o : Bool} {changed ledger : List ℕ}
    → Passed before → ChangedUnless o changed old.ledger (is_ok r) ledger → OnErr r (answered r ≡ 13) → old.memory ≡ new.store.memory → changed ≡ new.store.ledger
    → (answered r ≡ (call_outcome (before ++ (13 if o ∷ [])) old new).answer) × (lent old.memory ledger ≡ (call_outcome (before ++ (13 if o ∷ [])) old new).after)
changed_or_refused before old new (Ok x) p c e m l = leaves_accepted _ old new (decides (accepted p (past (not-true _ (sym c.tells)) none))) refl m (c.leaves ∙ l)
changed_or_refused before old new (Err y) p c e m l =
    let (answer, after) = leaves_refused _ old new {a = 13} (decides (accepted p (here (not-false _ (sym c.tells))))) (λ z. omega arith) in
    (e ∙ answer, rw c.leaves after)
