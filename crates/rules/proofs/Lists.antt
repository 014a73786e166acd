-- The claim about lists, of steps that keep a state good from one to the next: by induction over the list.
use mathlib.Core.List.{List, [], ◌∷◌}
use mathlib.Core.Logic.{◌≢◌}
use mathlib.Core.Option.{some, none-ne-some}
use mathlib.Core.Path.{◌≡◌, refl, sym, ◌∙◌}
use Prim.Native.Nat.{ℕ, zero, suc}
use lib.ListN.{take, get_elem?}
use Rattle.rules.specs.Store.{Store}
use Rattle.rules.specs.Outcomes.{Outcome}
use Rattle.rules.specs.Guest.{Access, fetches}
use Rattle.rules.specs.Steps.{Step, accesses, acknowledges, run_by, Told, begun, after_answer, history}
use Rattle.rules.specs.Demand3.{KeepsTables, Fetched, Claim}
use Rattle.rules.proofs.State.{Running, safe}

-- by says what comes of a step; Good, what holds of a state from which the rest of a list is to be run
module _ (by : Store → Step → Outcome) (Good : Told → Store → List Step → Type 0) where
  pub record Keeps : Type 0 where
    pub runs : {h : Told} {s : Store} {steps : List Step} → Good h s steps → Running h s
    pub onward : {h : Told} {s : Store} {step : Step} {steps : List Step} → Good h s (step ∷ steps) → Good (after_answer (by s step).answer h step) (by s step).after steps
    pub avoids : {h : Told} {s : Store} {step : Step} {steps : List Step} → Good h s (step ∷ steps) → ((by s step).answer ≢ 13) × ((by s step).answer ≢ 24)
    pub guarded : {h : Told} {s : Store} {a : Access} {registers : List ℕ} {addr : ℕ} {steps : List Step} → Good h s (accesses a registers addr ∷ steps)
        → KeepsTables h s (by s (accesses a registers addr)).after
    pub fetched : {h : Told} {s : Store} {registers : List ℕ} {addr : ℕ} {steps : List Step} → Good h s (accesses fetches registers addr ∷ steps)
        → (by s (accesses fetches registers addr)).answer ≡ 0 → Fetched h s addr (by s (accesses fetches registers addr)).byte
    pub untouched : (s : Store) (registers : List ℕ) → (by s (acknowledges registers)).after ≡ s

  -- a step of a list: the state in which it is taken, and what it does
  pub record Moment (h : Told) (s : Store) (steps : List Step) (i : ℕ) (step : Step) : Type 0 where
    pub told : Told
    pub store : Store
    pub behind : List Step
    pub good : Good told store (step ∷ behind)
    pub told_is : history h (take i steps) (run_by by s steps).answers ≡ told
    pub store_is : (run_by by s (take i steps)).reached ≡ store
    pub after_is : (run_by by s (take (suc i) steps)).reached ≡ (by store step).after
    pub answer_is : get_elem? (run_by by s steps).answers i ≡ some (by store step).answer
    pub byte_is : get_elem? (run_by by s steps).bytes i ≡ some (by store step).byte

  module _ (keeps : Keeps) where
    -- the states reached by a list
    pub reached : {h : Told} {s : Store} (steps : List Step) → Good h s steps → (i : ℕ) → Running (history h (take i steps) (run_by by s steps).answers) (run_by by s (take i steps)).reached
    unfolding run_by history
    reached steps g zero = keeps.runs g
    reached [] g (suc i) = keeps.runs g
    reached {h} {s} (step ∷ steps) g (suc i) = reached {h = after_answer (by s step).answer h step} {s = (by s step).after} steps (keeps.onward g) i

    pub moment : {h : Told} {s : Store} (steps : List Step) → Good h s steps → (i : ℕ) (step : Step) → get_elem? steps i ≡ some step → Moment h s steps i step
    unfolding run_by history
    moment [] g zero step e = absurd (none-ne-some step e)
    moment [] g (suc i) step e = absurd (none-ne-some step e)
    moment {h} {s} (first ∷ steps) g zero step e =
        let same : first ≡ step = cc in
        record {
          told = h;
          store = s;
          behind = steps;
          good = rw same at g;
          told_is = refl;
          store_is = refl;
          after_is = rw same refl;
          answer_is = rw same refl;
          byte_is = rw same refl;
        }
    moment {h} {s} (first ∷ steps) g (suc i) step e =
        let m = moment {h = after_answer (by s first).answer h first} {s = (by s first).after} steps (keeps.onward g) i step e in
        record {
          told = m.told;
          store = m.store;
          behind = m.behind;
          good = m.good;
          told_is = m.told_is;
          store_is = m.store_is;
          after_is = m.after_is;
          answer_is = m.answer_is;
          byte_is = m.byte_is;
        }

    -- an answer is a step's
    answered : (s : Store) (steps : List Step) (i k : ℕ) → get_elem? (run_by by s steps).answers i ≡ some k → (step : Step) × (get_elem? steps i ≡ some step)
    unfolding run_by
    answered s [] zero k e = absurd (none-ne-some k e)
    answered s [] (suc i) k e = absurd (none-ne-some k e)
    answered s (step ∷ steps) zero k e = (step, refl)
    answered s (step ∷ steps) (suc i) k e = answered (by s step).after steps i k e

    -- lists 7 to 12 and 14 to 16, of a list that starts from a good state
    pub claimed : (golden : List ℕ) {kinds : List ℕ} {B : ℕ} {s : Store} (steps : List Step) → Good (begun kinds B golden) s steps → Claim by golden kinds B s steps
    claimed golden {kinds} {B} {s} steps g =
        record {
          safe = λ i. safe (reached steps g i);
          guarded = λ i a registers addr e.
              let m = moment steps g i (accesses a registers addr) e in
              rw (m.told_is, m.store_is, m.after_is) (keeps.guarded m.good);
          fetched = λ i registers addr byte e accepted given.
              let step = accesses fetches registers addr in
              let m = moment steps g i step e in
              let zero_is : (by m.store step).answer ≡ 0 = cc (m.answer_is, accepted) in
              let byte_is : byte ≡ (by m.store step).byte = cc (m.byte_is, given) in
              rw (m.told_is, m.store_is, byte_is) (keeps.fetched m.good zero_is);
          untouched = λ i registers e.
              let m = moment steps g i (acknowledges registers) e in
              m.after_is ∙ keeps.untouched m.store registers ∙ sym m.store_is;
          never = λ i k e.
              let (step, at) = answered s steps i k e in
              let m = moment steps g i step at in
              let is : (by m.store step).answer ≡ k = cc (m.answer_is, e) in
              let (not_13, not_24) = keeps.avoids m.good in
              ((λ z. not_13 (is ∙ z)), (λ z. not_24 (is ∙ z)));
        }
