-- Lists in which the guest's processor writes by itself (RULES: box).
use Rattle.std.specs.Prelude.{Bool, true, false, cond, ◌&&◌, List, [], ◌∷◌, ◌≡◌, ℕ, ◌+◌, ◌<◌, ◌≤◌, eqb}
use Rattle.words.specs.Bounded.{above, any}
use Rattle.rules.specs.Store.{Store, blocks, base, writable}
use Rattle.rules.specs.Outcomes.{Outcome}
use Rattle.rules.specs.Tables.{table_entries, table_entry, mapping_words, mapping, gain}
use Rattle.rules.specs.Begin.{begin_outcome}
use Rattle.rules.specs.Forget.{forget_outcome}
use Rattle.rules.specs.Steps.{Step, begins, creates, frees, maps, links, unmaps, switches, accesses, acknowledges, forgets, obey}
use Rattle.rules.specs.Demand3.{Claim}

-- box 1: this outcome with the ledger as it was in store s
abbrev pub untold : Store → Outcome → Outcome
untold s o = record { answer = o.answer; after = record { memory = o.after.memory; ledger = s.ledger }; byte = o.byte; hashed = o.hashed }

-- box 1: what comes of a step on a box: the guest's accesses are the processor's own, all others are calls
unfoldable pub on_box : List ℕ → Store → Step → Outcome
on_box golden s (begins kinds B) = obey golden s (begins kinds B)
on_box golden s (creates v p) = obey golden s (creates v p)
on_box golden s (frees v p) = obey golden s (frees v p)
on_box golden s (maps f p i t r k) = obey golden s (maps f p i t r k)
on_box golden s (links p i t j) = obey golden s (links p i t j)
on_box golden s (unmaps f p i) = obey golden s (unmaps f p i)
on_box golden s (switches p) = obey golden s (switches p)
on_box golden s (accesses a registers addr) = untold s (obey golden s (accesses a registers addr))
on_box golden s (acknowledges registers) = obey golden s (acknowledges registers)
on_box golden s (forgets p m) = obey golden s (forgets p m)

-- box 2: a step on store s whose entries give write to physical block q, if it is accepted
unfoldable pub grants_write : Store → Step → ℕ → Bool
grants_write s (begins kinds B) q = false
grants_write s (creates v p) q = above (gain (table_entries v) (table_entry v s p) writable q) 0
grants_write s (frees v p) q = false
grants_write s (maps f p i t r k) q = above (gain (mapping_words f) (mapping f t r) writable q) 0
grants_write s (links p i t j) q = false
grants_write s (unmaps f p i) q = false
grants_write s (switches p) q = false
grants_write s (accesses a registers addr) q = false
grants_write s (acknowledges registers) q = false
grants_write s (forgets p m) q = false

-- box 2: one of the forgets with which a list begins, the first on store s, is accepted and names physical block q
pub data Forgotten (q : ℕ) : Store → List Step → Type 0 where
  at_once : {s : Store} {p m : ℕ} {steps : List Step} → (forget_outcome s p m).answer ≡ 0 → p ≤ q → q < p + m → Forgotten q s (forgets p m ∷ steps)
  then : {s : Store} {p m : ℕ} {steps : List Step} → Forgotten q (forget_outcome s p m).after steps → Forgotten q s (forgets p m ∷ steps)

-- box 2: the duty is done after each step of a list from store s on
unfoldable pub Dutiful : List ℕ → Store → List Step → Type 0
Dutiful golden s [] = Unit {0}
Dutiful golden s (step ∷ steps) =
    ((on_box golden s step).answer ≡ 0 → (q : ℕ) → grants_write s step q ≡ true → Forgotten q (on_box golden s step).after steps)
    × Dutiful golden (on_box golden s step).after steps

-- box 3: the claim about every such list from every accepted begin on, over any memory and ledger, under any image
abbrev pub Box-holds : Type 0
Box-holds =
    (golden : List ℕ) (start : Store) (kinds : List ℕ) (B : ℕ) → (begin_outcome start kinds B).answer ≡ 0
    → (steps : List Step) → Dutiful golden (begin_outcome start kinds B).after steps → Claim (on_box golden) golden kinds B (begin_outcome start kinds B).after steps

-- box 5: a step on store s is accepted, and its entries give write to some block of the region
unfoldable pub owes_forget : List ℕ → Store → Step → Bool
owes_forget golden s step =
    let o = on_box golden s step in
    eqb o.answer 0 && any (blocks o.after) (λ b. grants_write s step (base o.after + b))

-- box 5: a forget of the whole region
abbrev pub forget_all : Store → Step
forget_all s = forgets (base s) (blocks s)

-- box 5: the steps of a list from store s on, with a forget of the whole region put in behind each that grants write
unfoldable pub careful : List ℕ → Store → List Step → List Step
careful golden s [] = []
careful golden s (step ∷ steps) =
    let after = (on_box golden s step).after in
    step ∷ cond (owes_forget golden s step) (forget_all after ∷ careful golden (on_box golden after (forget_all after)).after steps) (careful golden after steps)

-- box 5: the claim that the duty is done in such a list, whatever the steps
abbrev pub Duty-can-be-done : Type 0
Duty-can-be-done =
    (golden : List ℕ) (start : Store) (kinds : List ℕ) (B : ℕ) → (begin_outcome start kinds B).answer ≡ 0
    → (steps : List Step) → let s = (begin_outcome start kinds B).after in Dutiful golden s (careful golden s steps)
