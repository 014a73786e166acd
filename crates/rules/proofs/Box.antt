-- Lists 7 to 12 and 14 to 16 hold on a box, where the guest's processor writes by itself: a block that it can write is not marked, but for
-- those that are forgotten at once.
use mathlib.Core.Bool.{Bool, true, false, false≢true}
use mathlib.Core.List.{List, [], ◌∷◌}
use mathlib.Core.Logic.{◌⊎◌, inl, inr, ⊎_elim}
use mathlib.Core.Path.{◌≡◌, refl, sym, ◌∙◌, subst}
use Prim.Native.Nat.{ℕ, zero, suc, ◌+◌, ◌<◌}
use native.Mathlib.Omega.{arith}
use Rattle.rules.specs.Store.{Store, blocks, base, writable, executable}
use Rattle.rules.specs.Outcomes.{Outcome}
use Rattle.rules.specs.Guest.{Access, guest_outcome}
use Rattle.rules.specs.Begin.{begin_outcome}
use Rattle.rules.specs.Forget.{forget_outcome}
use Rattle.rules.specs.Steps.{Step, begins, creates, frees, maps, links, unmaps, switches, accesses, acknowledges, forgets, obey, Told, begun, after_accepted, after_answer}
use Rattle.rules.specs.Box.{untold, on_box, grants_write, Forgotten, at_once, then, Dutiful, Box-holds}
use Rattle.rules.proofs.State.{recorded, MarkedAt, Running, Grows, Next, next-blocks}
use Rattle.rules.proofs.Starting.{begin_accepted, begin_unmarked, forgotten_unmarked}
use Rattle.rules.proofs.Guests.{guest_next_unmarked, guest_fetched}
use Rattle.rules.proofs.Acknowledging.{acknowledge_after}
use Rattle.rules.proofs.Lists.{Keeps, claimed}
use Rattle.rules.proofs.Demand3.{next_at, after_answer_golden}

module _ (golden : List ℕ) where
  -- the state from which the rest of a list is run: each block that is writable and marked is forgotten at once
  pub record Duty (h : Told) (s : Store) (steps : List Step) : Type 0 where
    pub same_golden : h.golden ≡ golden
    pub runs : Running h s
    pub dutiful : Dutiful golden s steps
    pub owed : (b : ℕ) → b < blocks s → 0 < recorded s writable b → MarkedAt s b → Forgotten (base s + b) s steps

  is_forget : Step → Bool
  is_forget (begins kinds B) = false
  is_forget (creates v p) = false
  is_forget (frees v p) = false
  is_forget (maps f p i t r k) = false
  is_forget (links p i t j) = false
  is_forget (unmaps f p i) = false
  is_forget (switches p) = false
  is_forget (accesses a registers addr) = false
  is_forget (acknowledges registers) = false
  is_forget (forgets p m) = true

  forgets_first : List Step → Bool
  forgets_first [] = false
  forgets_first (step ∷ steps) = is_forget step

  -- no block is forgotten by a list that begins with no forget
  forget_first : {q : ℕ} {s : Store} {steps : List Step} → Forgotten q s steps → forgets_first steps ≡ true
  unfolding is_forget forgets_first
  forget_first (at_once accepted low high) = refl
  forget_first (then more) = refl

  -- a block that is writable and marked after a step was so before, or the step granted write to it
  before : {h : Told} {s : Store} {step : Step} {o : Outcome} → Next h s step o → (b : ℕ) → b < blocks o.after → 0 < recorded o.after writable b → MarkedAt o.after b
      → (b < blocks s) × (((0 < recorded s writable b) × MarkedAt s b) ⊎ ((o.answer ≡ 0) × (grants_write s step (base s + b) ≡ true)))
  before {h} {s} {step} {o} n b l w k = ⊎_elim accepted refused n.grows where
    accepted : (o.answer ≡ 0) × Grows (grants_write s step) s o.after → (b < blocks s) × (((0 < recorded s writable b) × MarkedAt s b) ⊎ ((o.answer ≡ 0) × (grants_write s step (base s + b) ≡ true)))
    accepted (zero_is, g) =
        let inside : b < blocks s = rw g.same_blocks at l in
        let was : MarkedAt s b = ⊎_elim (λ (m : MarkedAt s b). m) (λ (x : 0 < recorded o.after executable b). let z : ⊥ = omega (arith, n.runs.consistent.exclusive b l w) in absurd z) (g.marks b inside k) in
        (inside, ⊎_elim (λ (x : 0 < recorded s writable b). inl (x, was)) (λ (x : grants_write s step (base s + b) ≡ true). inr (zero_is, x)) (g.writes b inside w))

    refused : o.after ≡ s → (b < blocks s) × (((0 < recorded s writable b) × MarkedAt s b) ⊎ ((o.answer ≡ 0) × (grants_write s step (base s + b) ≡ true)))
    refused same = (rw same at l, inl (rw same at w, rw same at k))

  -- the region's first block is the one told
  pub base-told : {h h' : Told} {s after : Store} → Running h s → Running h' after → h'.B ≡ h.B → base s ≡ base after
  base-told r r' same = sym r.told-base ∙ sym same ∙ r'.told-base

  -- a call other than forget: a block that becomes writable is forgotten at once, and no other was both writable and marked
  call_onward : {h : Told} {s : Store} (step : Step) {steps : List Step} → Duty h s (step ∷ steps) → on_box golden s step ≡ obey golden s step → is_forget step ≡ false
      → ((q : ℕ) → grants_write s step q ≡ true → (after_accepted h step).B ≡ h.B)
      → Duty (after_answer (obey golden s step).answer h step) (obey golden s step).after steps
  unfolding Dutiful after_answer forgets_first
  call_onward {h} {s} step {steps} d as_call no_forget keeps-base =
      let o = obey golden s step in
      let n = next_at golden d.same_golden d.runs step in
      record {
        same_golden = after_answer_golden o.answer h step ∙ d.same_golden;
        runs = n.runs;
        dutiful = rw as_call at d.dutiful.1;
        owed = λ b l w k.
            let (inside, cases) = before n b l w k in
            ⊎_elim
            (λ (was : (0 < recorded s writable b) × MarkedAt s b). absurd (false≢true (sym no_forget ∙ forget_first (d.owed b inside was.0 was.1))))
            (λ (granted : (o.answer ≡ 0) × (grants_write s step (base s + b) ≡ true)).
            let told : Running (after_accepted h step) o.after = rw granted.0 at n.runs in
            let same = base-told d.runs told (keeps-base (base s + b) granted.1) in
            subst (λ (first : ℕ). Forgotten (first + b) o.after steps) same (rw as_call at (d.dutiful.0 (rw as_call granted.0) (base s + b) granted.1)))
            cases;
      }

  forget_onward : {h : Told} {s : Store} (p m : ℕ) {steps : List Step} → Duty h s (forgets p m ∷ steps)
      → Duty (after_answer (forget_outcome s p m).answer h (forgets p m)) (forget_outcome s p m).after steps
  unfolding Dutiful on_box obey grants_write after_answer after_accepted
  forget_onward {h} {s} p m {steps} d =
      let o = forget_outcome s p m in
      let n = next_at golden d.same_golden d.runs (forgets p m) in
      let same = base-told d.runs n.runs (silent o.answer) in
      record {
        same_golden = after_answer_golden o.answer h (forgets p m) ∙ d.same_golden;
        runs = n.runs;
        dutiful = d.dutiful.1;
        owed = λ b l w k.
            let (inside, cases) = before n b l w k in
            let was : (0 < recorded s writable b) × MarkedAt s b = ⊎_elim (λ (x : (0 < recorded s writable b) × MarkedAt s b). x) (λ (z : (o.answer ≡ 0) × (false ≡ true)). absurd (false≢true z.1)) cases in
            subst (λ (first : ℕ). Forgotten (first + b) o.after steps) same (later b k (d.owed b inside was.0 was.1));
      } where
        silent : (answer : ℕ) → (after_answer answer h (forgets p m)).B ≡ h.B
        silent zero = refl
        silent (suc k) = refl

        later : (b : ℕ) → MarkedAt (forget_outcome s p m).after b → Forgotten (base s + b) s (forgets p m ∷ steps) → Forgotten (base s + b) (forget_outcome s p m).after steps
        later b k (at_once accepted low high) = absurd (forgotten_unmarked d.runs p m accepted b low high k)
        later b k (then more) = more

  -- the processor's own access: no block that it can write is marked
  spared : {h : Told} {s : Store} {a : Access} {registers : List ℕ} {addr : ℕ} {steps : List Step} → Duty h s (accesses a registers addr ∷ steps) → (b : ℕ) → b < blocks s → 0 < recorded s writable b → MarkedAt s b → ⊥
  unfolding is_forget forgets_first
  spared d b l w k = false≢true (forget_first (d.owed b l w k))

  access_onward : {h : Told} {s : Store} (a : Access) (registers : List ℕ) (addr : ℕ) {steps : List Step} → Duty h s (accesses a registers addr ∷ steps)
      → Duty (after_answer (on_box golden s (accesses a registers addr)).answer h (accesses a registers addr)) (on_box golden s (accesses a registers addr)).after steps
  unfolding Dutiful on_box obey after_answer after_accepted
  access_onward {h} {s} a registers addr {steps} d =
      let o = guest_outcome a s registers addr in
      record {
        same_golden = after_answer_golden o.answer h (accesses a registers addr) ∙ d.same_golden;
        runs = silent o.answer (guest_next_unmarked d.runs a registers addr (spared d)).0;
        dutiful = d.dutiful.1;
        owed = λ b l w k. absurd (spared d b (rw (next-blocks (next_at golden d.same_golden d.runs (accesses a registers addr))) at l) w k);
      } where
        silent : (answer : ℕ) → Running h (untold s (guest_outcome a s registers addr)).after → Running (after_answer answer h (accesses a registers addr)) (untold s (guest_outcome a s registers addr)).after
        silent zero r = r
        silent (suc k) r = r

  pub onward : {h : Told} {s : Store} (step : Step) {steps : List Step} → Duty h s (step ∷ steps) → Duty (after_answer (on_box golden s step).answer h step) (on_box golden s step).after steps
  unfolding on_box obey is_forget grants_write after_accepted
  onward (begins kinds B) d = call_onward (begins kinds B) d refl refl (λ q g. absurd (false≢true g))
  onward (creates v p) d = call_onward (creates v p) d refl refl (λ q g. refl)
  onward (frees v p) d = call_onward (frees v p) d refl refl (λ q g. absurd (false≢true g))
  onward (maps f p i t r k) d = call_onward (maps f p i t r k) d refl refl (λ q g. refl)
  onward (links p i t j) d = call_onward (links p i t j) d refl refl (λ q g. absurd (false≢true g))
  onward (unmaps f p i) d = call_onward (unmaps f p i) d refl refl (λ q g. absurd (false≢true g))
  onward (switches p) d = call_onward (switches p) d refl refl (λ q g. absurd (false≢true g))
  onward (accesses a registers addr) d = access_onward a registers addr d
  onward (acknowledges registers) d = call_onward (acknowledges registers) d refl refl (λ q g. absurd (false≢true g))
  onward (forgets p m) d = forget_onward p m d

  -- the processor's own access answers as the call would
  same_answer : (s : Store) (step : Step) → (on_box golden s step).answer ≡ (obey golden s step).answer
  unfolding on_box
  same_answer s (begins kinds B) = refl
  same_answer s (creates v p) = refl
  same_answer s (frees v p) = refl
  same_answer s (maps f p i t r k) = refl
  same_answer s (links p i t j) = refl
  same_answer s (unmaps f p i) = refl
  same_answer s (switches p) = refl
  same_answer s (accesses a registers addr) = refl
  same_answer s (acknowledges registers) = refl
  same_answer s (forgets p m) = refl

  box_keeps : Keeps (on_box golden) Duty
  unfolding on_box obey
  box_keeps =
      record {
        runs = λ d. d.runs;
        onward = λ {h} {s} {step} {steps} d. onward step d;
        avoids = λ {h} {s} {step} {steps} d. let n = next_at golden d.same_golden d.runs step in rw (same_answer s step) (n.not_13, n.not_24);
        guarded = λ {h} {s} {a} {registers} {addr} {steps} d. (guest_next_unmarked d.runs a registers addr (spared d)).1;
        fetched = λ {h} {s} {registers} {addr} {steps} d zero_is. guest_fetched d.runs registers addr zero_is;
        untouched = acknowledge_after;
      }

  -- nothing is owed at the end of a list, so that no block is both writable and marked; and any list whose duty is done can begin there
  pub rest : {h : Told} {s : Store} → Duty h s [] → (steps : List Step) → Dutiful golden s steps → Duty h s steps
  unfolding forgets_first
  rest d steps dutiful = record { same_golden = d.same_golden; runs = d.runs; dutiful = dutiful; owed = λ b l w k. absurd (false≢true (forget_first (d.owed b l w k))) }

  pub begin_settled : (start : Store) (kinds : List ℕ) (B : ℕ) → (begin_outcome start kinds B).answer ≡ 0 → Duty (begun kinds B golden) (begin_outcome start kinds B).after []
  unfolding Dutiful
  begin_settled start kinds B accepted =
      record { same_golden = refl; runs = begin_accepted start kinds B golden accepted; dutiful = tt; owed = λ b l w k. absurd (begin_unmarked start kinds B golden accepted b l k) }

-- box 3: whatever an accepted begin was lent, and whatever the steps behind it
pub box : Box-holds
box golden start kinds B accepted steps dutiful = claimed (on_box golden) (Duty golden) (box_keeps golden) golden steps (rest golden (begin_settled golden start kinds B accepted) steps dutiful)
