-- Calls 2: the answer is the lowest number that applies, and 0 if none does. The first refusal that holds answers, and the numbers of each
-- list ascend. A request whose list does not ascend drops that list's theorem here; nothing else relies on the order.
use mathlib.Core.Bool.{Bool, true, false, cond, ◌&&◌, ◌||◌, false≢true}
use mathlib.Core.List.{List, [], ◌∷◌}
use mathlib.Core.Logic.{◌⊎◌, inl, inr, ⊎_elim}
use mathlib.Core.Path.{◌≡◌, refl}
use Prim.Native.Nat.{ℕ, ◌<◌, ◌≤◌}
use native.Mathlib.Omega.{arith}
use lib.Dec.{leb}
use borrow.Author.Tests.{leb-true}
use Rattle.words.proofs.Bounded.{and_true}
use Rattle.entries.specs.Entries.{Entry, fault, unaccepted, link, section, page, large, Level, is_fault, is_unaccepted}
use Rattle.rules.specs.Refusals.{Refusal, ◌if◌, answer_of}
use Rattle.rules.specs.Store.{Store}
use Rattle.rules.specs.Outcomes.{Accepted, settle}
use Rattle.rules.specs.Tables.{Form, astray}
use Rattle.rules.specs.Begin.{begin_refusals, begin_outcome}
use Rattle.rules.specs.Create.{create_refusals, create_outcome}
use Rattle.rules.specs.Free.{free_refusals, free_outcome}
use Rattle.rules.specs.Map.{map_refusals, map_outcome}
use Rattle.rules.specs.Link.{link_refusals, link_outcome}
use Rattle.rules.specs.Unmap.{unmap_refusals, unmap_outcome}
use Rattle.rules.specs.Switch.{switch_refusals, switch_outcome}
use Rattle.rules.specs.Forget.{forget_refusals, forget_outcome}
use Rattle.rules.specs.Registers.{acknowledge_refusals, acknowledge_outcome}
use Rattle.rules.specs.Guest.{Walk, stops, ends, passes, follow, walk, Access, walk_refusals, guest_refusals, guest_outcome}
use Rattle.rules.proofs.Passing.{settle_answer}

abbrev pub numbers : List Refusal → List ℕ
numbers [] = []
numbers (k if t ∷ rs) = k ∷ numbers rs

-- each number is at most the next, and k at most the first
abbrev pub ascends_from : ℕ → List ℕ → Bool
ascends_from k [] = true
ascends_from k (j ∷ js) = leb k j && ascends_from j js

-- the numbers ascend, and none is 0
abbrev pub ascends : List ℕ → Bool
ascends ks = ascends_from 1 ks

-- k is a number of the list whose test holds
abbrev pub Applies : ℕ → List Refusal → Type 0
Applies k [] = ⊥
Applies k (j if t ∷ rs) = ((j ≡ k) × (t ≡ true)) ⊎ Applies k rs

-- the lowest number that applies, which is not 0; or 0, and none does
pub data Lowest (rs : List Refusal) : ℕ → Type 0 where
  applies : {k : ℕ} → 0 < k → Applies k rs → ((j : ℕ) → Applies j rs → k ≤ j) → Lowest rs k
  none : ((j : ℕ) → Applies j rs → ⊥) → Lowest rs 0

split : (k i : ℕ) (js : List ℕ) → ascends_from k (i ∷ js) ≡ true → (k ≤ i) × (ascends_from i js ≡ true)
split k i js up = let (l, more) = and_true (leb k i) (ascends_from i js) up in (leb-true k i l, more)

-- a number that applies is at least the one from which the list ascends
at_least : (k : ℕ) (rs : List Refusal) → ascends_from k (numbers rs) ≡ true → (j : ℕ) → Applies j rs → k ≤ j
at_least k [] up j a = absurd a
at_least k (i if t ∷ rs) up j (inl (e, _)) = rw e at (split k i (numbers rs) up).0
at_least k (i if t ∷ rs) up j (inr a) = let (l, more) = split k i (numbers rs) up in omega (arith, at_least i rs more j a)

-- a refusal that does not hold makes no difference
skip : {k : ℕ} (i : ℕ) (rs : List Refusal) → Lowest rs k → Lowest (i if false ∷ rs) k
skip i rs found = go found where
  later : (j : ℕ) → Applies j (i if false ∷ rs) → Applies j rs
  later j (inl (_, f)) = absurd (false≢true f)
  later j (inr a) = a

  go : {k : ℕ} → Lowest rs k → Lowest (i if false ∷ rs) k
  go (applies z a low) = applies z (inr a) (λ j b. low j (later j b))
  go (none never) = none (λ j b. never j (later j b))

-- calls 2: the answer of a list that ascends
pub lowest : (rs : List Refusal) → ascends (numbers rs) ≡ true → Lowest rs (answer_of rs)
unfolding answer_of
lowest rs up = from 1 rs (omega arith) up where
  from : (k : ℕ) (rs : List Refusal) → 0 < k → ascends_from k (numbers rs) ≡ true → Lowest rs (answer_of rs)
  from k [] z up = none (λ j a. a)
  from k (i if true ∷ rs) z up =
      let (l, more) = split k i (numbers rs) up in
      let above : 0 < i = omega arith in
      applies above (inl (refl, refl)) (λ j. ⊎_elim (λ (h : (i ≡ j) × (true ≡ true)). omega (arith, h.0)) (at_least i rs more j))
  from k (i if false ∷ rs) z up = let (l, more) = split k i (numbers rs) up in skip i rs (from i rs (omega arith) more)

-- The calls: that the list ascends, whatever the arguments and the store, is computed (`refl`)

settled : (rs : List Refusal) (s : Store) (new : Accepted) → ascends (numbers rs) ≡ true → Lowest rs (settle (answer_of rs) s new).answer
settled rs s new up = rw (settle_answer (answer_of rs) s new) (lowest rs up)

pub begin_lowest : (s : Store) (kinds : List ℕ) (B : ℕ) → Lowest (begin_refusals s kinds B) (begin_outcome s kinds B).answer
unfolding begin_outcome
begin_lowest s kinds B = settled (begin_refusals s kinds B) _ _ refl

pub create_lowest : (v : Level) (golden : List ℕ) (s : Store) (p : ℕ) → Lowest (create_refusals v golden s p) (create_outcome v golden s p).answer
unfolding create_outcome
create_lowest v golden s p = settled (create_refusals v golden s p) _ _ refl

pub free_lowest : (v : Level) (s : Store) (p : ℕ) → Lowest (free_refusals v s p) (free_outcome v s p).answer
unfolding free_outcome
free_lowest v s p = settled (free_refusals v s p) _ _ refl

pub map_lowest : (f : Form) (golden : List ℕ) (s : Store) (p i t r k : ℕ) → Lowest (map_refusals f golden s p i t r k) (map_outcome f golden s p i t r k).answer
unfolding map_outcome
map_lowest f golden s p i t r k = settled (map_refusals f golden s p i t r k) _ _ refl

pub link_lowest : (s : Store) (p i t j : ℕ) → Lowest (link_refusals s p i t j) (link_outcome s p i t j).answer
unfolding link_outcome
link_lowest s p i t j = settled (link_refusals s p i t j) _ _ refl

pub unmap_lowest : (f : Form) (s : Store) (p i : ℕ) → Lowest (unmap_refusals f s p i) (unmap_outcome f s p i).answer
unfolding unmap_outcome
unmap_lowest f s p i = settled (unmap_refusals f s p i) _ _ refl

pub switch_lowest : (s : Store) (p : ℕ) → Lowest (switch_refusals s p) (switch_outcome s p).answer
unfolding switch_outcome
switch_lowest s p = settled (switch_refusals s p) _ _ refl

pub forget_lowest : (s : Store) (p m : ℕ) → Lowest (forget_refusals s p m) (forget_outcome s p m).answer
unfolding forget_outcome
forget_lowest s p m = settled (forget_refusals s p m) _ _ refl

pub acknowledge_lowest : (s : Store) (registers : List ℕ) → Lowest (acknowledge_refusals registers) (acknowledge_outcome s registers).answer
unfolding acknowledge_outcome
acknowledge_lowest s registers = settled (acknowledge_refusals registers) _ _ refl

-- The guest's accesses: after 1 and 21 comes what the walk says

-- a walk ends, or stops with 22 or 24
pub data Numbered : Walk → Type 0 where
  at_end : {v : Level} {p r : ℕ} → Numbered (ends v p r)
  with_22 : {v : Level} → Numbered (stops v 22)
  with_24 : {v : Level} → Numbered (stops v 24)

passes_numbered : (v : Level) (B n : ℕ) (e : Entry) (onward : Walk) → Numbered onward → Numbered (passes v B n e onward)
unfolding passes
passes_numbered v B n e onward w = go (is_unaccepted e || astray B n e) (is_fault e) where
  go : (a b : Bool) → Numbered (cond a (stops v 24) (cond b (stops v 22) onward))
  go true b = with_24
  go false true = with_22
  go false false = w

follow_numbered : (B n : ℕ) (memory : List ℕ) (addr : ℕ) (e : Entry) → Numbered (follow B n memory addr e)
unfolding follow
follow_numbered B n memory addr fault = at_end
follow_numbered B n memory addr unaccepted = at_end
follow_numbered B n memory addr (link place) = passes_numbered _ B n _ _ at_end
follow_numbered B n memory addr (section b r) = at_end
follow_numbered B n memory addr (page b r) = at_end
follow_numbered B n memory addr (large b r) = at_end

pub walk_numbered : (B n : ℕ) (memory : List ℕ) (table addr : ℕ) → Numbered (walk B n memory table addr)
unfolding walk
walk_numbered B n memory table addr = passes_numbered _ B n _ _ (follow_numbered B n memory addr _)

pub guest_lowest : (a : Access) (s : Store) (registers : List ℕ) (addr : ℕ) → Lowest (guest_refusals a s registers addr) (guest_outcome a s registers addr).answer
unfolding guest_outcome walk_refusals
guest_lowest a s registers addr = settled (guest_refusals a s registers addr) _ _ (go (walk_numbered _ _ _ _ addr)) where
  go : {w : Walk} → Numbered w → ascends (1 ∷ 1 ∷ 21 ∷ numbers (walk_refusals a w)) ≡ true
  go at_end = refl
  go with_22 = refl
  go with_24 = refl
