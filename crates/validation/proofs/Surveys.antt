-- What is found of a table is the greatest of what is found of its entries; and what it decides.
use mathlib.Core.Bool.{Bool, true, false, cond, ◌||◌, or-false}
use mathlib.Core.List.{List}
use mathlib.Core.Logic.{◌≢◌}
use mathlib.Core.Path.{◌≡◌, refl, sym, ◌∙◌, ap}
use Prim.Native.Nat.{ℕ, zero, suc, ◌+◌, ◌<◌}
use native.Mathlib.Omega.{arith}
use lib.Dec.{ltb}
use denote.Enum.Bare.{sameb}
use borrow.Author.Tests.{le-ltb, ltb-true, ltb-false}
use Rattle.std.specs.Ordering.{ord_max}
use Rattle.words.specs.Bounded.{any}
use Rattle.words.proofs.Bounded.{any_none, any_hit, any_found, flag_next}
use Rattle.entries.specs.Entries.{Entry, fault, Level, is_fault, is_unaccepted, is_link, rights, place_blocks}
use Rattle.entries.specs.Rights.{allows}
use Rattle.rules.specs.Create.{misplaced, unfit_link, unfit_write}
use Rattle.rules.specs.Store.{Store, blocks, base, Counter, writable, executable, linked, some_counter}
use Rattle.rules.specs.Tables.{grants, gives, astray}
use Rattle.rules.proofs.Gains.{fault_is}
use Rattle.rules.proofs.State.{no_counter}
use Rattle.ledger.proofs.Judge.{Decides, here, past, none}
use Rattle.validation.specs.Findings.{greater, finding, finding_of, entry_finding, target_finding, new_finding, place_finding, old_finding}
use Rattle.validation.specs.contracts.finding.FindingOrd.TheImpl.{cmp-value}
use Rattle.validation.specs.contracts.finding.Finding.{the_type}
use Rattle.validation.specs.declared.finding.Finding as found
use Rattle.validation.specs.declared.finding.Finding.TheVariants.{Fine, Executes, MeetsCount, Misplaced, Unaccepted}
use Rattle.validation.specs.Pieces.{executed_entries, new_entries, old_entries}
use Rattle.validation.specs.Sets.{Gathered, AllGathered, EmptySet}
use Rattle.validation.specs.Tests.{meets, meets_count}
use Rattle.validation.proofs.Clashes.{clash-counted, clash_none, unsigned_none, all_placed, none_joins}

-- Findings

greater-finding : (a b c d a' b' c' d' : Bool) → greater (finding a b c d) (finding a' b' c' d') ≡ finding (a || a') (b || b') (c || c') (d || d')
unfolding finding
greater-finding true b c d true b' c' d' = refl
greater-finding true b c d false true c' d' = refl
greater-finding true b c d false false true d' = refl
greater-finding true b c d false false false true = refl
greater-finding true b c d false false false false = refl
greater-finding false true c d true b' c' d' = refl
greater-finding false true c d false true c' d' = refl
greater-finding false true c d false false true d' = refl
greater-finding false true c d false false false true = refl
greater-finding false true c d false false false false = refl
greater-finding false false true d true b' c' d' = refl
greater-finding false false true d false true c' d' = refl
greater-finding false false true d false false true d' = refl
greater-finding false false true d false false false true = refl
greater-finding false false true d false false false false = refl
greater-finding false false false true true b' c' d' = refl
greater-finding false false false true false true c' d' = refl
greater-finding false false false true false false true d' = refl
greater-finding false false false true false false false true = refl
greater-finding false false false true false false false false = refl
greater-finding false false false false true b' c' d' = refl
greater-finding false false false false false true c' d' = refl
greater-finding false false false false false false true d' = refl
greater-finding false false false false false false false true = refl
greater-finding false false false false false false false false = refl

-- neither of two numbers is above the greater
module _ (x y bound : ℕ) (small : greater x y < bound) where
  pub greater_first : x < bound
  greater_first = go (ltb x y) refl small where
    go : (t : Bool) → ltb x y ≡ t → cond t y x < bound → x < bound
    go true e l = omega (arith, ltb-true x y e)
    go false e l = l

  pub greater_second : y < bound
  greater_second = go (ltb x y) refl small where
    go : (t : Bool) → ltb x y ≡ t → cond t y x < bound → y < bound
    go true e l = l
    go false e l = omega (arith, ltb-false x y e)

-- the greater of two findings
pub greater_max : (a b : found.Finding) → finding_of (ord_max cmp-value.it a b) ≡ greater (finding_of a) (finding_of b)
greater_max Fine Fine = refl
greater_max Fine Executes = refl
greater_max Fine MeetsCount = refl
greater_max Fine Misplaced = refl
greater_max Fine Unaccepted = refl
greater_max Executes Fine = refl
greater_max Executes Executes = refl
greater_max Executes MeetsCount = refl
greater_max Executes Misplaced = refl
greater_max Executes Unaccepted = refl
greater_max MeetsCount Fine = refl
greater_max MeetsCount Executes = refl
greater_max MeetsCount MeetsCount = refl
greater_max MeetsCount Misplaced = refl
greater_max MeetsCount Unaccepted = refl
greater_max Misplaced Fine = refl
greater_max Misplaced Executes = refl
greater_max Misplaced MeetsCount = refl
greater_max Misplaced Misplaced = refl
greater_max Misplaced Unaccepted = refl
greater_max Unaccepted Fine = refl
greater_max Unaccepted Executes = refl
greater_max Unaccepted MeetsCount = refl
greater_max Unaccepted Misplaced = refl
greater_max Unaccepted Unaccepted = refl

-- a finding is the one by which a survey ends
pub is_unaccepted_finding : (a : found.Finding) → sameb the_type a Unaccepted ≡ true → finding_of a ≡ 4
is_unaccepted_finding Fine t = let z : true ≡ false = sym t in cc
is_unaccepted_finding Executes t = let z : true ≡ false = sym t in cc
is_unaccepted_finding MeetsCount t = let z : true ≡ false = sym t in cc
is_unaccepted_finding Misplaced t = let z : true ≡ false = sym t in cc
is_unaccepted_finding Unaccepted t = refl

-- what each of them says of the tests
abbrev Says : ℕ → Bool → Bool → Bool → Type 0
Says zero a b c = (a ≡ false) × (b ≡ false) × (c ≡ false)
Says (suc zero) a b c = (a ≡ false) × (b ≡ false) × (c ≡ false)
Says (suc (suc zero)) a b c = (a ≡ false) × (b ≡ false) × (c ≡ true)
Says (suc (suc (suc zero))) a b c = (a ≡ false) × (b ≡ true)
Says (suc (suc (suc (suc k)))) a b c = a ≡ true

says : (a b c d : Bool) {found : ℕ} → found ≡ finding a b c d → Says found a b c
unfolding finding
says true b c d e = rw e refl
says false true c d e = rw e (refl, refl)
says false false true d e = rw e (refl, refl, refl)
says false false false true e = rw e (refl, refl, refl)
says false false false false e = rw e (refl, refl, refl)

idle : (d : Bool) → 0 ≡ finding false false false d → d ≡ false
unfolding finding
idle true e = let z : ⊥ = omega arith in absurd z
idle false e = refl

-- One entry

no_link : (e : Entry) → grants linked e ≡ false → is_link e ≡ false
unfolding grants
no_link e h = h

module _ (v : Level) (s : Store) (p : ℕ) (e : Entry) where
  pub found_unaccepted : is_unaccepted e ≡ true → 4 ≡ entry_finding v s p e
  unfolding finding
  found_unaccepted t = rw t refl

  module _ (accepted : is_unaccepted e ≡ false) where
    pub found_astray : astray (base s) (blocks s) e ≡ true → 3 ≡ entry_finding v s p e
    unfolding finding misplaced
    found_astray t = rw (accepted, t) refl

    module _ (inside : astray (base s) (blocks s) e ≡ false) where
      pub found_target : target_finding v s p e ≡ entry_finding v s p e
      unfolding misplaced
      found_target = rw (accepted, inside) refl

      -- an entry that grants nothing has no target, and meets nothing
      pub found_idle : some_counter (λ c. grants c e) ≡ false → 0 ≡ entry_finding v s p e
      unfolding finding unfit_link unfit_write meets_count meets
      found_idle idle =
          let nothing : (c : Counter) → grants c e ≡ false = no_counter (λ c. grants c e) idle in
          (rw (no_link e (nothing linked), nothing writable, nothing executable) refl) ∙ found_target

fault_fine : (v : Level) (s : Store) (p : ℕ) → 0 ≡ entry_finding v s p fault
unfolding is_unaccepted astray place_blocks some_counter grants rights allows is_link
fault_fine v s p = found_idle v s p fault refl refl refl

pub found_fault : (v : Level) (s : Store) (p : ℕ) (e : Entry) (found : ℕ) → is_fault e ≡ true → found ≡ greater found (entry_finding v s p e)
found_fault v s p e found h = sym (least found) ∙ ap (greater found) (of_fault e h) where
  of_fault : (e : Entry) → is_fault e ≡ true → 0 ≡ entry_finding v s p e
  of_fault e h = rw (fault_is e h) (fault_fine v s p)

  least : (x : ℕ) → greater x 0 ≡ x
  least x = rw (le-ltb x 0 (omega arith)) refl

-- What a look gathers

-- an entry that grants nothing adds nothing
pub gathers_nothing : (s : Store) (e : Entry) (members : List ℕ) {w : Bool} → grants executable e ≡ false → grants writable e ≡ false → Gathered s e members members w w
gathers_nothing s e members {w} idle silent = record { joins = λ k. none_joins members (base s) e k idle; notes = rw silent (sym (or-false w)) }

pub fault_gathers : (s : Store) (e : Entry) (members : List ℕ) {w : Bool} → is_fault e ≡ true → Gathered s e members members w w
unfolding grants rights allows
fault_gathers s e members h = rw (fault_is e h) (gathers_nothing s fault members refl refl)

pub idle_gathers : (s : Store) (e : Entry) (members : List ℕ) {w : Bool} → some_counter (λ c. grants c e) ≡ false → Gathered s e members members w w
idle_gathers s e members idle = gathers_nothing s e members (no_counter (λ c. grants c e) idle executable) (no_counter (λ c. grants c e) idle writable)

pub gathered_none : (s : Store) (e : ℕ → Entry) (members : List ℕ) → EmptySet members → AllGathered s 0 e members false
unfolding any
gathered_none s e members empty = record { joined = empty; written = refl }

pub gathered_more : (s : Store) (i : ℕ) (e : ℕ → Entry) (members members' : List ℕ) {w w' : Bool} → AllGathered s i e members w → Gathered s (e i) members members' w w' → AllGathered s (i + 1) e members' w'
gathered_more s i e members members' before one =
    record {
      joined = λ k. flag_next (λ i. gives executable (e i) (base s + k)) i (before.joined k) (one.joins k);
      written = flag_next (λ i. grants writable (e i)) i before.written one.notes;
    }

-- All of a table's entries: at one of an unaccepted form, and after one more

module _ (v : Level) (s : Store) (p m : ℕ) (e : ℕ → Entry) where
  pub new_start : 0 ≡ new_finding v s p 0 e
  unfolding finding any
  new_start = refl

  pub new_next : {found next : ℕ} (i : ℕ) → found ≡ new_finding v s p i e → next ≡ greater found (entry_finding v s p (e i)) → next ≡ new_finding v s p (i + 1) e
  new_next i before now = now ∙ (rw before (greater-finding _ _ _ _ _ _ _ _ ∙ more)) where
    more : finding (any i (λ i. is_unaccepted (e i)) || is_unaccepted (e i)) (any i (λ i. misplaced v s p (e i)) || misplaced v s p (e i)) (any i (λ i. meets_count s.ledger (e i)) || meets_count s.ledger (e i)) (any i (λ i. grants executable (e i)) || grants executable (e i)) ≡ new_finding v s p (i + 1) e
    more = rw (flag_next (λ i. is_unaccepted (e i)) i refl refl, flag_next (λ i. misplaced v s p (e i)) i refl refl, flag_next (λ i. meets_count s.ledger (e i)) i refl refl, flag_next (λ i. grants executable (e i)) i refl refl) refl

  -- an entry of an unaccepted form decides, whatever stands behind it
  pub new_left : (i : ℕ) → i < m → 4 ≡ new_finding v s p (i + 1) e → 4 ≡ new_finding v s p m e
  unfolding finding
  new_left i l is =
      let (k, n, t) = any_found (λ i. is_unaccepted (e i)) (i + 1) (says _ (any (i + 1) (λ i. misplaced v s p (e i))) (any (i + 1) (λ i. meets_count s.ledger (e i))) (any (i + 1) (λ i. grants executable (e i))) is) in
      rw (any_hit (λ i. is_unaccepted (e i)) m k (omega arith) t) refl

module _ (B n m : ℕ) (e : ℕ → Entry) where
  pub old_left : (i : ℕ) → i < m → 4 ≡ place_finding B n (e i) → 4 ≡ old_finding B n m e
  unfolding finding
  old_left i l is = rw (any_hit (λ i. is_unaccepted (e i)) m i l (says (is_unaccepted (e i)) (astray B n (e i)) false false is)) refl

  pub old_start : 0 ≡ old_finding B n 0 e
  unfolding finding any
  old_start = refl

  pub old_next : {found one next : ℕ} (i : ℕ) → found ≡ old_finding B n i e → one ≡ place_finding B n (e i) → next ≡ greater found one → next ≡ old_finding B n (i + 1) e
  old_next i before is now = now ∙ (rw (before, is) (greater-finding _ _ _ _ _ _ _ _ ∙ more)) where
    more : finding (any i (λ i. is_unaccepted (e i)) || is_unaccepted (e i)) (any i (λ i. astray B n (e i)) || astray B n (e i)) false false ≡ old_finding B n (i + 1) e
    more = rw (flag_next (λ i. is_unaccepted (e i)) i refl refl, flag_next (λ i. astray B n (e i)) i refl refl) refl

-- What they decide, one after the other

module _ (v : Level) (golden : List ℕ) (s : Store) (p m : ℕ) (e : ℕ → Entry) where
  abbrev bad : Bool
  bad = any m (λ i. is_unaccepted (e i))

  abbrev unplaced : Bool
  unplaced = any m (λ i. misplaced v s p (e i))

  abbrev counted : Bool
  counted = any m (λ i. meets_count s.ledger (e i))

  abbrev executing : Bool
  executing = any m (λ i. grants executable (e i))

  pub new_unaccepted : 4 ≡ new_finding v s p m e → Decides (new_entries v golden s p m e) 8
  new_unaccepted is = here (says bad unplaced counted executing is)

  pub new_misplaced : 3 ≡ new_finding v s p m e → Decides (new_entries v golden s p m e) 10
  new_misplaced is = let (accepted, unfit) = says bad unplaced counted executing is in past accepted (here unfit)

  pub new_counted : 2 ≡ new_finding v s p m e → Decides (new_entries v golden s p m e) 11
  new_counted is =
      let (accepted, fit, meet) = says bad unplaced counted executing is in
      past accepted (past fit (here (clash-counted s m e (all_placed v s p m e fit) meet)))

  -- something executes, and nothing is held against the entries
  pub new_clear : 1 ≡ new_finding v s p m e → (bad ≡ false) × (unplaced ≡ false) × (counted ≡ false)
  new_clear is = says bad unplaced counted executing is

  -- where nothing is held against the entries, the rest is 11 and 12
  module _ (accepted : bad ≡ false) (fit : unplaced ≡ false) (apart : counted ≡ false) where
    pub accepted_all : (i : ℕ) → i < m → is_unaccepted (e i) ≡ false
    accepted_all = any_none (λ i. is_unaccepted (e i)) m accepted

    pub placed_all : (i : ℕ) → i < m → astray (base s) (blocks s) (e i) ≡ false
    placed_all = all_placed v s p m e fit

    pub new_rest : {a : ℕ} → Decides (executed_entries golden s m e) a → Decides (new_entries v golden s p m e) a
    new_rest d = past accepted (past fit d)

    none_decides : executing ≡ false → Decides (new_entries v golden s p m e) 0
    none_decides none_executes = new_rest (past (clash_none s m e placed_all apart none_executes) (past (unsigned_none s m e golden none_executes) none))

  pub new_executed : {a : ℕ} → 1 ≡ new_finding v s p m e → Decides (executed_entries golden s m e) a → Decides (new_entries v golden s p m e) a
  new_executed is d = let (accepted, fit, apart) = says bad unplaced counted executing is in new_rest accepted fit apart d

  pub new_fine : 0 ≡ new_finding v s p m e → (executing ≡ false) × Decides (new_entries v golden s p m e) 0
  new_fine is =
      let (accepted, fit, apart) = says bad unplaced counted executing is in
      let none_executes : executing ≡ false = idle executing (is ∙ (rw (accepted, fit, apart) refl)) in
      (none_executes, none_decides accepted fit apart none_executes)

module _ (s : Store) (m : ℕ) (e : ℕ → Entry) where
  abbrev badly : Bool
  badly = any m (λ i. is_unaccepted (e i))

  abbrev outside_one : Bool
  outside_one = any m (λ i. astray (base s) (blocks s) (e i))

  pub old_unaccepted : 4 ≡ old_finding (base s) (blocks s) m e → Decides (old_entries s m e) 8
  old_unaccepted is = here (says badly outside_one false false is)

  pub old_astray : 3 ≡ old_finding (base s) (blocks s) m e → Decides (old_entries s m e) 10
  old_astray is = let (accepted, stray) = says badly outside_one false false is in past accepted (here stray)

  old_fit : (badly ≡ false) × (outside_one ≡ false) → Decides (old_entries s m e) 0
  old_fit (accepted, inside) = past accepted (past inside none)

  pub old_none : (f : found.Finding) → finding_of f ≡ old_finding (base s) (blocks s) m e → f ≢ Misplaced → f ≢ Unaccepted → Decides (old_entries s m e) 0
  old_none Fine is fit accepted = let (a, b, c) = says badly outside_one false false is in old_fit (a, b)
  old_none Executes is fit accepted = let (a, b, c) = says badly outside_one false false is in old_fit (a, b)
  old_none MeetsCount is fit accepted = let (a, b, c) = says badly outside_one false false is in old_fit (a, b)
  old_none Misplaced is fit accepted = absurd (fit refl)
  old_none Unaccepted is fit accepted = absurd (accepted refl)
