-- The duty of the box can be done in every list, by a forget of the whole region behind each step that grants write: what an accepted step grants lies
-- in the region, and a forget of the whole region is accepted.
use mathlib.Core.Bool.{Bool, true, false, cond, false≢true}
use mathlib.Core.List.{List, [], ◌∷◌}
use mathlib.Core.Path.{◌≡◌, refl, sym, ◌∙◌, ap}
use Prim.Native.Nat.{ℕ, ◌+◌, ◌-◌, ◌<◌, ◌≤◌}
use native.Mathlib.Omega.{arith}
use borrow.Author.Tests.{ltb-true, eq-eqb}
use Rattle.words.specs.Bounded.{above, any}
use Rattle.words.proofs.Bounded.{any_hit}
use Rattle.entries.specs.Entries.{Entry}
use Rattle.rules.specs.Store.{Store, blocks, base, writable}
use Rattle.rules.specs.Tables.{table_entries, table_entry, mapping_words, mapping, gain, astray}
use Rattle.rules.specs.Forget.{forget_outcome}
use Rattle.rules.specs.Steps.{Step, begins, creates, frees, maps, links, unmaps, switches, accesses, acknowledges, forgets, obey, Told, after_accepted, after_answer}
use Rattle.rules.specs.Box.{on_box, grants_write, Forgotten, at_once, Dutiful, owes_forget, forget_all, careful, Duty-can-be-done}
use Rattle.rules.proofs.Gains.{grants_place, gives_within, gain_found}
use Rattle.rules.proofs.State.{Running, next-blocks}
use Rattle.rules.proofs.Walk.{cover_within}
use Rattle.rules.proofs.Creating.{create_placed}
use Rattle.rules.proofs.Mapping.{map_placed}
use Rattle.rules.proofs.Demand3.{next_at}
use Rattle.rules.proofs.Passing.{forget_whole}
use Rattle.rules.proofs.Box.{Duty, base-told, onward, rest, begin_settled}

-- entries whose places lie in the region give write to blocks of the region alone
entries_within : (s : Store) (m : ℕ) (e : ℕ → Entry) → ((i : ℕ) → i < m → astray (base s) (blocks s) (e i) ≡ false)
    → (q : ℕ) → above (gain m e writable q) 0 ≡ true → (base s ≤ q) × (q < base s + blocks s)
entries_within s m e placed q g =
    let (i, l, given) = gain_found m e writable q (ltb-true 0 (gain m e writable q) g) in
    let (grant, lo, hi) = gives_within writable (e i) q given in
    let (low, high) = cover_within (base s) (blocks s) (e i) (grants_place writable (e i) grant) (placed i l) in
    (omega arith, omega arith)

module _ (golden : List ℕ) where
  -- the state in which nothing is owed: no block is both writable and marked
  abbrev Settled : Told → Store → Type 0
  Settled h s = Duty golden h s []

  -- a forget of the whole region is accepted, and names physical block q
  abbrev Names : Store → ℕ → Type 0
  Names s q = ((forget_outcome s (base s) (blocks s)).answer ≡ 0) × (base s ≤ q) × (q < base s + blocks s)

  -- a forget of the region that an accepted step leaves, whose entries lie in the region, is accepted and names what they grant
  accepted_within : {h : Told} {s : Store} → Settled h s → (step : Step) (m : ℕ) (e : ℕ → Entry) → (after_accepted h step).B ≡ h.B → ((i : ℕ) → i < m → astray (base s) (blocks s) (e i) ≡ false)
      → (obey golden s step).answer ≡ 0 → (q : ℕ) → above (gain m e writable q) 0 ≡ true → Names (obey golden s step).after q
  unfolding after_answer
  accepted_within {h} {s} d step m e keeps placed zero_is q g =
      let n = next_at golden d.same_golden d.runs step in
      let told : Running (after_accepted h step) (obey golden s step).after = rw zero_is at n.runs in
      let (low, high) = entries_within s m e placed q g in
      let same = base-told golden d.runs told keeps in
      (forget_whole told, rw (← same) low, rw (← same, next-blocks n) high)

  granted_within : {h : Told} {s : Store} → Settled h s → (step : Step) → (on_box golden s step).answer ≡ 0 → (q : ℕ) → grants_write s step q ≡ true → Names (on_box golden s step).after q
  unfolding on_box obey grants_write after_accepted
  granted_within d (begins kinds B) zero_is q g = absurd (false≢true g)
  granted_within {h} {s} d (creates v p) zero_is q g = accepted_within d (creates v p) (table_entries v) (table_entry v s p) refl (create_placed v golden s p zero_is) zero_is q g
  granted_within d (frees v p) zero_is q g = absurd (false≢true g)
  granted_within {h} {s} d (maps f p i t r k) zero_is q g = accepted_within d (maps f p i t r k) (mapping_words f) (mapping f t r) refl (map_placed f golden s p i t r k zero_is) zero_is q g
  granted_within d (links p i t j) zero_is q g = absurd (false≢true g)
  granted_within d (unmaps f p i) zero_is q g = absurd (false≢true g)
  granted_within d (switches p) zero_is q g = absurd (false≢true g)
  granted_within d (accesses a registers addr) zero_is q g = absurd (false≢true g)
  granted_within d (acknowledges registers) zero_is q g = absurd (false≢true g)
  granted_within d (forgets p m) zero_is q g = absurd (false≢true g)

  -- a forget of the whole region behind a step does the duty
  due : {h : Told} {s : Store} → Settled h s → (step : Step) (steps : List Step) → (on_box golden s step).answer ≡ 0 → (q : ℕ) → grants_write s step q ≡ true
      → let after = (on_box golden s step).after in Forgotten q after (forget_all after ∷ steps)
  due d step steps zero_is q g = let (taken, low, high) = granted_within d step zero_is q g in at_once taken low high

  -- behind a step that owes no forget, nothing has to be forgotten
  not_due : {h : Told} {s : Store} → Settled h s → (step : Step) (steps : List Step) → owes_forget golden s step ≡ false → (on_box golden s step).answer ≡ 0 → (q : ℕ) → grants_write s step q ≡ true
      → Forgotten q (on_box golden s step).after steps
  unfolding owes_forget
  not_due {h} {s} d step steps none zero_is q g =
      let (taken, low, high) = granted_within d step zero_is q g in
      let o = on_box golden s step in
      let at : base o.after + (q - base o.after) ≡ q = omega arith in
      let some : any (blocks o.after) (λ b. grants_write s step (base o.after + b)) ≡ true = any_hit (λ b. grants_write s step (base o.after + b)) (blocks o.after) (q - base o.after) (omega arith) (ap (grants_write s step) at ∙ g) in
      let owes : owes_forget golden s step ≡ true = rw (eq-eqb o.answer 0 zero_is, some) refl in
      absurd (false≢true (sym none ∙ owes))

  one_more : {h : Told} {s : Store} → Settled h s → (step : Step) (steps : List Step)
      → ((h' : Told) (s' : Store) → Settled h' s' → Dutiful golden s' (careful golden s' steps))
      → Dutiful golden s (careful golden s (step ∷ steps))
  unfolding careful Dutiful on_box obey grants_write
  one_more {h} {s} d step steps more = split (owes_forget golden s step) refl where
    after : Store
    after = (on_box golden s step).after

    split : (owes : Bool) → owes_forget golden s step ≡ owes
        → Dutiful golden s (step ∷ cond owes (forget_all after ∷ careful golden (on_box golden after (forget_all after)).after steps) (careful golden after steps))
    split true is =
        let d' = onward golden (forget_all after) (onward golden step (rest golden d _ (due d step [], ((λ zero_is q g. absurd (false≢true g)), tt)))) in
        (due d step _, ((λ zero_is q g. absurd (false≢true g)), more _ _ d'))
    split false is =
        let d' = onward golden step (rest golden d _ (not_due d step [] is, tt)) in
        (not_due d step _ is, more _ _ d')

  careful_dutiful : {h : Told} {s : Store} → Settled h s → (steps : List Step) → Dutiful golden s (careful golden s steps)
  unfolding careful Dutiful
  careful_dutiful d [] = tt
  careful_dutiful d (step ∷ steps) = one_more d step steps (λ h' s' d'. careful_dutiful d' steps)

-- box 5: whatever an accepted begin was lent, and whatever the steps behind it
pub duty_can_be_done : Duty-can-be-done
duty_can_be_done golden start kinds B accepted steps = careful_dutiful golden (begin_settled golden start kinds B accepted) steps
