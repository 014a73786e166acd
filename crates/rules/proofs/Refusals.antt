-- Laws of refusals: an accepted call has passed every test, and a number that is no refusal of a call is never its answer.
use mathlib.Core.Bool.{Bool, true, false, false≢true}
use mathlib.Core.List.{List, [], ◌∷◌, ◌++◌}
use mathlib.Core.Logic.{◌≢◌}
use mathlib.Core.Path.{◌≡◌, refl, sym}
use Prim.Native.Nat.{ℕ}
use Rattle.rules.specs.Refusals.{Refusal, ◌if◌, answer_of}

-- every test of the list failed
pub data Passed : List Refusal → Type 0 where
  done : Passed []
  step : {k : ℕ} {t : Bool} {rs : List Refusal} → t ≡ false → Passed rs → Passed (k if t ∷ rs)

pub now : {k : ℕ} {t : Bool} {rs : List Refusal} → Passed (k if t ∷ rs) → t ≡ false
now (step e p) = e

pub rest : {k : ℕ} {t : Bool} {rs : List Refusal} → Passed (k if t ∷ rs) → Passed rs
rest (step e p) = p

-- k is no number of the list
abbrev pub Avoids : ℕ → List Refusal → Type 0
Avoids k [] = Unit {0}
Avoids k (j if t ∷ rs) = (j ≢ k) × Avoids k rs

pub passed : (rs : List Refusal) → Avoids 0 rs → answer_of rs ≡ 0 → Passed rs
unfolding answer_of
passed [] n e = done
passed (k if true ∷ rs) n e = absurd (n.0 e)
passed (k if false ∷ rs) n e = step refl (passed rs n.1 e)

pub avoided : (k : ℕ) (rs : List Refusal) → 0 ≢ k → Avoids k rs → answer_of rs ≢ k
unfolding answer_of
avoided k [] z n e = z e
avoided k (j if true ∷ rs) z n e = n.0 e
avoided k (j if false ∷ rs) z n e = avoided k rs z n.1 e

-- which test decides the answer
pub data Decides : List Refusal → ℕ → Type 0 where
  here : {k : ℕ} {t : Bool} {rs : List Refusal} → t ≡ true → Decides (k if t ∷ rs) k
  past : {k : ℕ} {t : Bool} {rs : List Refusal} {answer : ℕ} → t ≡ false → Decides rs answer → Decides (k if t ∷ rs) answer
  none : Decides [] 0

pub decides : {rs : List Refusal} {k : ℕ} → Decides rs k → answer_of rs ≡ k
unfolding answer_of
decides (here e) = rw e refl
decides (past e d) = rw e (decides d)
decides none = refl

-- all refusals of a list but the last
abbrev pub front : List Refusal → List Refusal
front [] = []
front (r ∷ []) = []
front (r ∷ s ∷ rs) = r ∷ front (s ∷ rs)

-- the test of the last refusal
abbrev pub last_test : List Refusal → Bool
last_test [] = false
last_test (k if t ∷ []) = t
last_test (r ∷ s ∷ rs) = last_test (s ∷ rs)

pub passed_front : (rs : List Refusal) → Passed rs → Passed (front rs)
passed_front [] p = p
passed_front (r ∷ []) p = done
passed_front (k if t ∷ s ∷ rs) p = step (now p) (passed_front (s ∷ rs) (rest p))

-- the last refusal's number is no answer if its test fails wherever the others do
pub last_avoided : (k : ℕ) (rs : List Refusal) → 0 ≢ k → Avoids k (front rs) → (Passed (front rs) → last_test rs ≡ false) → answer_of rs ≢ k
unfolding answer_of
last_avoided k [] z n h e = z e
last_avoided k (j if true ∷ []) z n h e = absurd (false≢true (sym (h done)))
last_avoided k (j if false ∷ []) z n h e = z e
last_avoided k (j if true ∷ s ∷ rs) z n h e = n.0 e
last_avoided k (j if false ∷ s ∷ rs) z n h e = last_avoided k (s ∷ rs) z n.1 (λ p. h (step refl p)) e

-- and a number in the middle, if its test fails wherever those before it do
pub middle_avoided : (k : ℕ) (before : List Refusal) (t : Bool) (after : List Refusal) → 0 ≢ k → Avoids k before → (Passed before → t ≡ false) → Avoids k after
    → answer_of (before ++ (k if t ∷ after)) ≢ k
unfolding answer_of
middle_avoided k [] true after z n h m e = absurd (false≢true (sym (h done)))
middle_avoided k [] false after z n h m e = avoided k after z m e
middle_avoided k (j if true ∷ rs) t after z n h m e = n.0 e
middle_avoided k (j if false ∷ rs) t after z n h m e = middle_avoided k rs t after z n.1 (λ p. h (step refl p)) m e

-- a call that passes every test is accepted
pub accepted : {rs : List Refusal} → Passed rs → answer_of rs ≡ 0
unfolding answer_of
accepted done = refl
accepted (step e p) = rw e (accepted p)

-- and one that passes every test but the last, if the last one's number is not its answer
pub accepted_unless : (k : ℕ) {before : List Refusal} (t : Bool) → Passed before → answer_of (before ++ (k if t ∷ [])) ≢ k → answer_of (before ++ (k if t ∷ [])) ≡ 0
unfolding answer_of
accepted_unless k true done n = absurd (n refl)
accepted_unless k false done n = refl
accepted_unless k t (step e p) n = rw e (accepted_unless k t p (rw e at n))
