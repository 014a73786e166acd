-- Lists 7 to 12 and 14 to 16 hold of every list: each step keeps the invariant, and the invariant says what they say of a moment.
use mathlib.Core.List.{List, [], ◌∷◌}
use mathlib.Core.Option.{some}
use mathlib.Core.Path.{◌≡◌, refl, ◌∙◌, subst}
use Prim.Native.Nat.{ℕ, zero, suc}
use lib.ListN.{length, take, get_elem?}
use lib.Seq.{take-length}
use Rattle.rules.specs.Store.{Store}
use Rattle.rules.specs.Steps.{Step, begins, creates, frees, maps, links, unmaps, switches, accesses, acknowledges, forgets, obey, run, Told, begun, after_accepted, after_answer, history}
use Rattle.rules.specs.Demand3.{Safe, Demand3, Demand3-holds}
use Rattle.rules.proofs.State.{Running, Next}
use Rattle.rules.proofs.Lists.{Keeps, reached as reachedBy, Moment, moment as momentBy, claimed}
use Rattle.rules.proofs.Starting.{begin_accepted, begin_next, switch_next, forget_next}
use Rattle.rules.proofs.Creating.{create_next}
use Rattle.rules.proofs.Freeing.{free_next}
use Rattle.rules.proofs.Unmapping.{unmap_next}
use Rattle.rules.proofs.Linking.{link_next}
use Rattle.rules.proofs.Mapping.{map_next}
use Rattle.rules.proofs.Guests.{guest_next, guest_guarded, guest_fetched}
use Rattle.rules.proofs.Acknowledging.{acknowledge_after, acknowledge_next}

-- one step, whatever it is
pub step_next : {h : Told} {s : Store} → Running h s → (step : Step) → Next h s step (obey h.golden s step)
unfolding obey
step_next r (begins kinds B) = begin_next r kinds B
step_next r (creates v p) = create_next v p r
step_next r (frees v p) = free_next v p r
step_next r (maps f p i t q k) = map_next f p i t q k r
step_next r (links p i t j) = link_next p i t j r
step_next r (unmaps f p i) = unmap_next f p i r
step_next r (switches p) = switch_next r p
step_next r (accesses a registers addr) = guest_next r a registers addr
step_next r (acknowledges registers) = acknowledge_next r registers
step_next r (forgets p m) = forget_next r p m

-- no step changes the golden image
pub after_answer_golden : (k : ℕ) (h : Told) (step : Step) → (after_answer k h step).golden ≡ h.golden
unfolding after_answer after_accepted
after_answer_golden zero h (begins kinds B) = refl
after_answer_golden zero h (creates v p) = refl
after_answer_golden zero h (frees v p) = refl
after_answer_golden zero h (maps f p i t q k) = refl
after_answer_golden zero h (links p i t j) = refl
after_answer_golden zero h (unmaps f p i) = refl
after_answer_golden zero h (switches p) = refl
after_answer_golden zero h (accesses a registers addr) = refl
after_answer_golden zero h (acknowledges registers) = refl
after_answer_golden zero h (forgets p m) = refl
after_answer_golden (suc k) h step = refl

pub history_golden : (h : Told) (steps : List Step) (answers : List ℕ) → (history h steps answers).golden ≡ h.golden
unfolding history
history_golden h [] answers = refl
history_golden h (step ∷ steps) [] = refl
history_golden h (step ∷ steps) (k ∷ answers) = history_golden (after_answer k h step) steps answers ∙ after_answer_golden k h step

module _ (golden : List ℕ) where
  -- the state from which calls are made that are lent this image
  abbrev pub Lent : Told → Store → List Step → Type 0
  Lent h s steps = (h.golden ≡ golden) × Running h s

  -- a call that is lent this image
  pub next_at : {h : Told} {s : Store} → h.golden ≡ golden → Running h s → (step : Step) → Next h s step (obey golden s step)
  next_at {h} {s} q r step = subst (λ g. Next h s step (obey g s step)) q (step_next r step)

  calls_keep : Keeps (obey golden) Lent
  unfolding obey
  calls_keep =
      record {
        runs = λ g. g.1;
        onward = λ {h} {s} {step} {steps} g. (after_answer_golden (obey golden s step).answer h step ∙ g.0, (next_at g.0 g.1 step).runs);
        avoids = λ {h} {s} {step} {steps} g. let n = next_at g.0 g.1 step in (n.not_13, n.not_24);
        guarded = λ {h} {s} {a} {registers} {addr} {steps} g. guest_guarded g.1 a registers addr;
        fetched = λ {h} {s} {registers} {addr} {steps} g zero_is. guest_fetched g.1 registers addr zero_is;
        untouched = acknowledge_after;
      }

  -- the states reached by a list of calls, and one of its steps
  pub reached : {h : Told} {s : Store} → h.golden ≡ golden → Running h s → (steps : List Step) (i : ℕ)
      → Running (history h (take i steps) (run golden s steps).answers) (run golden s (take i steps)).reached
  reached q r steps i = reachedBy (obey golden) Lent calls_keep steps (q, r) i

  pub moment : {h : Told} {s : Store} → h.golden ≡ golden → Running h s → (steps : List Step) (i : ℕ) (step : Step) → get_elem? steps i ≡ some step → Moment (obey golden) Lent h s steps i step
  moment q r steps i step e = momentBy (obey golden) Lent calls_keep steps (q, r) i step e

-- lists 13: whatever an accepted begin was lent, and whatever the steps behind it
pub demand3 : Demand3-holds
demand3 golden start kinds B accepted steps = claimed (obey golden) (Lent golden) (calls_keep golden) golden steps (refl, begin_accepted start kinds B golden accepted)

-- so it holds of the very store that a list reaches, with all its answers
pub at_the_end : {golden kinds : List ℕ} {B : ℕ} {s : Store} {steps : List Step} → Demand3 golden kinds B s steps
    → Safe (history (begun kinds B golden) steps (run golden s steps).answers) (run golden s steps).reached
at_the_end {golden} {kinds} {B} {s} {steps} d =
    subst (λ (list : List Step). Safe (history (begun kinds B golden) list (run golden s steps).answers) (run golden s list).reached) (take-length steps) (d.safe (length steps))
