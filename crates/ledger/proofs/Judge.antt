-- How a chain of tests in the code decides against a list of refusals: its number is that of the first test that holds.
use mathlib.Core.Bool.{true, false}
use mathlib.Core.List.{List, [], ◌∷◌, ◌++◌}
use mathlib.Core.Logic.{◌≢◌}
use mathlib.Core.Path.{◌≡◌, refl, sym, ◌∙◌}
use Prim.Native.Nat.{ℕ, zero, suc}
use native.Mathlib.Omega.{arith}
use Rattle.rules.specs.Refusals.{Refusal, ◌if◌, answer_of}
use Rattle.rules.specs.Store.{Store, lent}
use Rattle.rules.specs.Outcomes.{Accepted, settle, call_outcome}
use Rattle.rules.proofs.Refusals.{decides as decided, Passed, done, step}
use Rattle.ledger.specs.Refusals.{number_of}
use Rattle.ledger.specs.declared.refusals.Refusal as refusals
use Rattle.ledger.specs.declared.refusals.Refusal.TheVariants.{Misfit, OutsideRegion, Misaligned, BeyondTable, WrongType, InUse, ExecutableHolder, WrongEntry, UnlawfulRights, UnfitTarget, Clash, Unsigned, Overrun, NoActiveTable, FaultEntry, RightLacking, BrokenWalk}
pub use Rattle.rules.proofs.Refusals.{Decides, here, past, none}

-- no refusal has the number of an accepted call
pub refuses : (r : refusals.Refusal) → number_of r ≢ 0
refuses Misfit e = absurd (omega arith)
refuses OutsideRegion e = absurd (omega arith)
refuses Misaligned e = absurd (omega arith)
refuses BeyondTable e = absurd (omega arith)
refuses WrongType e = absurd (omega arith)
refuses InUse e = absurd (omega arith)
refuses ExecutableHolder e = absurd (omega arith)
refuses WrongEntry e = absurd (omega arith)
refuses UnlawfulRights e = absurd (omega arith)
refuses UnfitTarget e = absurd (omega arith)
refuses Clash e = absurd (omega arith)
refuses Unsigned e = absurd (omega arith)
refuses Overrun e = absurd (omega arith)
refuses NoActiveTable e = absurd (omega arith)
refuses FaultEntry e = absurd (omega arith)
refuses RightLacking e = absurd (omega arith)
refuses BrokenWalk e = absurd (omega arith)

pub decides : {rs : List Refusal} {a : ℕ} → Decides rs a → a ≡ answer_of rs
decides d = sym (decided d)

-- a group of tests that another function has judged: it refuses, or all of its tests failed
pub refused : (xs ys : List Refusal) {a : ℕ} → a ≡ answer_of xs → a ≢ 0 → Decides (xs ++ ys) a
unfolding answer_of
refused [] ys e n = absurd (n e)
refused (k if true ∷ xs) ys e n = rw e (here refl)
refused (k if false ∷ xs) ys e n = past refl (refused xs ys e n)

pub accepted : {xs ys : List Refusal} {a : ℕ} → Passed xs → Decides ys a → Decides (xs ++ ys) a
accepted done d = d
accepted (step e p) d = past e (accepted p d)

-- the last group, with whatever it answers
pub judged : (xs : List Refusal) {a : ℕ} → a ≡ answer_of xs → Decides xs a
unfolding answer_of
judged [] e = rw e none
judged (k if true ∷ xs) e = rw e (here refl)
judged (k if false ∷ xs) e = past refl (judged xs e)

-- What a call answers, leaves and gives, when its judge gave a

module _ (refusals : List Refusal) (old : Store) (new : Accepted) {a : ℕ} (judged : a ≡ answer_of refusals) where
  pub leaves_refused : a ≢ 0 → (a ≡ (call_outcome refusals old new).answer) × (old ≡ (call_outcome refusals old new).after)
  unfolding settle
  leaves_refused n = go (answer_of refusals) judged where
    go : (k : ℕ) → a ≡ k → (a ≡ (settle k old new).answer) × (old ≡ (settle k old new).after)
    go zero e = absurd (n e)
    go (suc k) e = (e, refl)

  pub leaves_accepted : {memory ledger : List ℕ} → a ≡ 0 → memory ≡ new.store.memory → ledger ≡ new.store.ledger
      → (0 ≡ (call_outcome refusals old new).answer) × (lent memory ledger ≡ (call_outcome refusals old new).after)
  unfolding settle
  leaves_accepted z m l = let e : answer_of refusals ≡ 0 = sym judged ∙ z in rw e (refl, λ i. lent (m i) (l i))

  -- the number of blocks hashed
  pub hashed_refused : a ≢ 0 → 0 ≡ (call_outcome refusals old new).hashed
  unfolding settle
  hashed_refused n = go (answer_of refusals) judged where
    go : (k : ℕ) → a ≡ k → 0 ≡ (settle k old new).hashed
    go zero e = absurd (n e)
    go (suc k) e = refl

  pub hashed_accepted : {k : ℕ} → a ≡ 0 → k ≡ new.hashed → k ≡ (call_outcome refusals old new).hashed
  unfolding settle
  hashed_accepted z h = let e : answer_of refusals ≡ 0 = sym judged ∙ z in rw e h
