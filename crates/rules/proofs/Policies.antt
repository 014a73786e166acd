-- The policies (RULES: policies) hold of every list: each state that it reaches keeps the invariant, and the invariant gives each of them.
use mathlib.Core.Bool.{true, false}
use mathlib.Core.List.{List, [], ◌∷◌}
use mathlib.Core.Logic.{◌≢◌}
use mathlib.Core.Option.{some}
use mathlib.Core.Path.{◌≡◌, refl, subst}
use Prim.Native.Nat.{ℕ, ◌+◌, ◌-◌, ◌*◌}
use lib.ListN.{take, get_elem?}
use Rattle.signature.specs.Signed.{misfit_image}
use Rattle.rules.specs.Refusals.{Refusal, answer_of}
use Rattle.entries.specs.Entries.{entry_at}
use Rattle.rules.specs.Store.{block_words, Store}
use Rattle.rules.specs.Tables.{level}
use Rattle.rules.specs.Outcomes.{leaving}
use Rattle.rules.specs.Free.{free_refusals, free_after, free_outcome}
use Rattle.rules.specs.Unmap.{unmap_refusals, unmap_after, unmap_outcome}
use Rattle.rules.specs.Guest.{Access, fetches, guest_outcome}
use Rattle.rules.specs.Steps.{Step, frees, unmaps, accesses, obey, run, Told, begun}
use Rattle.rules.specs.Demand3.{store_at, told_at}
use Rattle.rules.specs.Policies.{AltersWritableOnly, KeepsExecutable, KeepsWorkingSet, KeepsWalks, there_and_back, AtGuestSteps, for_another, Policies, Policies-hold}
use Rattle.rules.proofs.State.{Running}
use Rattle.rules.proofs.Starting.{begin_accepted}
use Rattle.rules.proofs.Demand3.{history_golden, reached, moment}
use Rattle.rules.proofs.Passing.{settle_answer, switch_accepted}
use Rattle.rules.proofs.Accessible.{exclusive, integrity, active, guest_alters, guest_keeps_executable, guest_keeps_working_set, guest_keeps_walks, guest_fetches_code}
use Rattle.rules.proofs.Removals.{free_sound, unmap_sound}
use Rattle.rules.proofs.InTurn.{in_turn}

module _ (golden : List ℕ) {kinds : List ℕ} {B : ℕ} {s : Store} (r : Running (begun kinds B golden) s) (steps : List Step) where
  -- what holds of the guest's steps from running states
  at_guest_steps : (P : Told → Store → Store → Type 0) → ((h : Told) (now : Store) → Running h now → (a : Access) (registers : List ℕ) (addr : ℕ) → P h now (guest_outcome a now registers addr).after) → AtGuestSteps golden kinds B s steps P
  unfolding obey
  at_guest_steps P holds i a registers addr e =
      let m = moment golden refl r steps i (accesses a registers addr) e in
      rw (m.told_is, m.store_is, m.after_is) (holds m.told m.store m.good.1 a registers addr)

  -- what holds of a step's answer in every running state
  answered : (P : Told → Store → ℕ → Type 0) (step : Step) (refusals : Store → List Refusal) → ((now : Store) → (obey golden now step).answer ≡ answer_of (refusals now))
      → ((h : Told) (now : Store) → Running h now → P h now (answer_of (refusals now)))
      → (i k : ℕ) → get_elem? steps i ≡ some step → get_elem? (run golden s steps).answers i ≡ some k → P (told_at golden kinds B s steps i) (store_at golden s steps i) k
  answered P step refusals is holds i k e given =
      let m = moment golden refl r steps i step e in
      let answer_is : k ≡ answer_of (refusals m.store) = cc (m.answer_is, given, is m.store) in
      rw (m.told_is, m.store_is, answer_is) (holds m.told m.store m.good.1)

  upheld : Policies golden kinds B s steps
  unfolding obey free_outcome unmap_outcome
  upheld =
      record {
        exclusive = λ i. exclusive (reached golden refl r steps i);
        integrity = λ i. integrity (reached golden refl r steps i);
        active = λ i. active (reached golden refl r steps i);
        switches = λ i. switch_accepted (reached golden refl r steps i);
        alters_writable = at_guest_steps AltersWritableOnly (λ h now r. guest_alters r);
        keeps_executable = at_guest_steps KeepsExecutable (λ h now r. guest_keeps_executable r);
        keeps_working_set = at_guest_steps KeepsWorkingSet (λ h now r. guest_keeps_working_set r);
        keeps_walks = at_guest_steps KeepsWalks (λ h now r. guest_keeps_walks r);
        fetched = λ i registers addr byte e accepted given.
            let step = accesses fetches registers addr in
            let m = moment golden refl r steps i step e in
            let zero_is : (obey golden m.store step).answer ≡ 0 = cc (m.answer_is, accepted) in
            let byte_is : byte ≡ (obey golden m.store step).byte = cc (m.byte_is, given) in
            rw (m.told_is, m.store_is, byte_is) (guest_fetches_code m.good.1 registers addr zero_is);
        free_sound = λ v p. answered (λ h now k. (k ≢ 8) × (k ≢ 10)) (frees v p) (λ now. free_refusals v now p) (λ now. settle_answer _ now (leaving (free_after v now p))) (λ h now r. free_sound r v p);
        unmap_sound = λ f p j.
            answered (λ h now k. (k ≢ 10) × (k ≡ 8 → for_another f (entry_at (level f) now.memory (block_words * (p - h.B) + j)) ≡ true)) (unmaps f p j) (λ now. unmap_refusals f now p j)
            (λ now. settle_answer _ now (leaving (unmap_after f now p j))) (λ h now r. rw r.told-base (unmap_sound r f p j));
        in_turn = λ image p j t i w.
            subst (λ (g : List ℕ). misfit_image g ≡ false → (run g (store_at golden s steps i) (there_and_back p j t)).answers ≡ (0 ∷ 0 ∷ 0 ∷ 0 ∷ []))
            (history_golden (begun kinds B golden) (take i steps) (run golden s steps).answers) (λ lawful. in_turn (reached golden refl r steps i) lawful w) image;
      }

-- whatever an accepted begin was lent, and whatever the steps behind it
pub policies : Policies-hold
policies golden start kinds B accepted steps = upheld golden (begin_accepted start kinds B golden accepted) steps
