-- Refusal 11, block by block, is found entry by entry: a block gains something exactly if some entry gives it. What is left of 11, and 12, is found by the set of
-- the blocks that the entries execute.
use mathlib.Core.Bool.{Bool, true, false, cond, not, ◌&&◌, ◌||◌, and-false, or-false}
use mathlib.Core.List.{List}
use mathlib.Core.Logic.{◌⊎◌, inl, inr, ⊎_elim}
use mathlib.Core.Path.{◌≡◌, refl, sym, ◌∙◌, ap}
use Prim.Native.Nat.{ℕ, zero, suc, ◌+◌, ◌-◌, ◌*◌, ◌<◌, ◌≤◌}
use native.Mathlib.Omega.{arith}
use lib.Dec.{eqb}
use borrow.Author.Tests.{lt-ltb, le-ltb, ltb-true, eqb-true, not-false}
use Rattle.words.specs.Bounded.{above, among, any, count}
use Rattle.words.proofs.Bounded.{false_unless, both_ways, or_left, or_right, and_both, any_hit, any_found, or_cases, and_true, below_or_above, any_none, any_avoids, any_same, among_in, among_within}
use Rattle.words.proofs.Sums.{sum_same, count_none, count-any}
use Rattle.words.specs.Words.{word, put_word}
use Rattle.words.proofs.Words.{Bytes, put_word_self}
use Rattle.entries.specs.Entries.{Entry, Level, cover_first, cover_blocks, covers}
use Rattle.rules.specs.Store.{ledger_head_bytes, ledger_record_bytes, Store, blocks, base, record_word, put_record_word, mark_word, mark_value, mark_blocks, Counter, writable, executable, counter, some_block, some_region_block}
use Rattle.rules.specs.Signature.{unknown}
use Rattle.rules.specs.Tables.{grants, gives, gain, astray}
use Rattle.rules.specs.General.{hashed_blocks}
use Rattle.rules.specs.Create.{misplaced, clash, clashes, unsigned}
use Rattle.rules.proofs.Gains.{gives_within, gives_at, grants_place, gain-any, gain_hit, gain_found}
use Rattle.rules.proofs.State.{some_block_hit, some_block_found}
use Rattle.rules.proofs.Walk.{cover_within}
use Rattle.validation.specs.Sets.{member, InRegionOnly, AllJoined, meets_members, member_unknown, member_hashed, Admitted}
use Rattle.validation.specs.Tests.{meets, meets_count}
use Rattle.validation.proofs.Covers.{given_inside, misplaced-astray}

-- Tests of adjacent blocks

no_block_is : (p m : ℕ) (q : ℕ → Bool) → ((b : ℕ) → q b ≡ false) → some_block p m q ≡ false
unfolding some_block
no_block_is p m q none = any_avoids (λ k. q (p + k)) m (λ k l. none (p + k))

some_block_same : (p m : ℕ) (q r : ℕ → Bool) → ((b : ℕ) → p ≤ b → b < p + m → q b ≡ r b) → some_block p m q ≡ some_block p m r
unfolding some_block
some_block_same p m q r same = any_same (λ k. q (p + k)) (λ k. r (p + k)) m (λ k l. same (p + k) (omega arith) (omega arith))

-- An entry and a count, or another entry, by a block to which it gives something

module _ (s : Store) (c d : Counter) (en : Entry) where
  abbrev is_counted : ℕ → Bool
  is_counted b = above (counter d s b) 0

  meets_at : (b : ℕ) → gives c en b ≡ true → 0 < counter d s b → meets c d s.ledger en ≡ true
  unfolding meets
  meets_at b g l =
      let (grant, lo, hi) = gives_within c en b g in
      and_both (grants c en) (some_block (cover_first en) (cover_blocks en) is_counted) grant (some_block_hit (cover_first en) (cover_blocks en) is_counted b lo hi (lt-ltb 0 (counter d s b) l))

  meets_found : meets c d s.ledger en ≡ true → (b : ℕ) × (gives c en b ≡ true) × (0 < counter d s b)
  unfolding meets
  meets_found h =
      let (grant, some) = and_true (grants c en) (some_block (cover_first en) (cover_blocks en) is_counted) h in
      let (b, lo, hi, t) = some_block_found (cover_first en) (cover_blocks en) is_counted some in
      (b, gives_at c en b grant lo hi, ltb-true 0 (counter d s b) t)

-- entry d writes some block that one of the m entries e executes
meets_entry : ℕ → (ℕ → Entry) → Entry → Bool
meets_entry m e d = grants writable d && some_block (cover_first d) (cover_blocks d) (λ b. above (gain m e executable b) 0)

module _ (m : ℕ) (e : ℕ → Entry) where
  abbrev is_executed : ℕ → Bool
  is_executed b = above (gain m e executable b) 0

  meets_entry_at : (i b : ℕ) → gives writable (e i) b ≡ true → 0 < gain m e executable b → meets_entry m e (e i) ≡ true
  unfolding meets_entry
  meets_entry_at i b w x =
      let (grant, lo, hi) = gives_within writable (e i) b w in
      and_both (grants writable (e i)) (some_block (cover_first (e i)) (cover_blocks (e i)) is_executed) grant
      (some_block_hit (cover_first (e i)) (cover_blocks (e i)) is_executed b lo hi (lt-ltb 0 (gain m e executable b) x))

  meets_entry_found : (i : ℕ) → meets_entry m e (e i) ≡ true → (b : ℕ) × (gives writable (e i) b ≡ true) × (0 < gain m e executable b)
  unfolding meets_entry
  meets_entry_found i t =
      let (grant, some) = and_true (grants writable (e i)) (some_block (cover_first (e i)) (cover_blocks (e i)) is_executed) t in
      let (b, lo, hi, x) = some_block_found (cover_first (e i)) (cover_blocks (e i)) is_executed some in
      (b, gives_at writable (e i) b grant lo hi, ltb-true 0 (gain m e executable b) x)

  -- where no entry executes, no block is executed, and no entry meets another
  none_executed : any m (λ k. grants executable (e k)) ≡ false → (b : ℕ) → is_executed b ≡ false
  unfolding gives
  none_executed none b =
      gain-any m e executable b ∙ any_avoids (λ i. gives executable (e i) b) m (λ i l. rw (any_none (λ k. grants executable (e k)) m none i l) refl)

  none_meets : any m (λ k. grants executable (e k)) ≡ false → any m (λ i. meets_entry m e (e i)) ≡ false
  unfolding meets_entry
  none_meets none =
      any_avoids (λ i. meets_entry m e (e i)) m
      (λ i l. rw (no_block_is (cover_first (e i)) (cover_blocks (e i)) is_executed (none_executed none)) (and-false (grants writable (e i))))

-- create 11

module _ (s : Store) (m : ℕ) (e : ℕ → Entry) where
  -- some entry meets a count of the ledger, or another entry
  abbrev some_meets_count : Bool
  some_meets_count = any m (λ i. meets_count s.ledger (e i))

  abbrev some_meets_entry : Bool
  some_meets_entry = any m (λ i. meets_entry m e (e i))

  abbrev some_meets : Bool
  some_meets = some_meets_count || some_meets_entry

  clash-meets : (b : ℕ) → clashes s m e b ≡ true → some_meets ≡ true
  unfolding clash meets_count
  clash-meets b h =
      let gw = gain m e writable b in
      let gx = gain m e executable b in
      let w = counter writable s b in
      let x = counter executable s b in
      let (front, xs) = and_true ((above gw 0 || above gx 0) && above (w + gw) 0) (above (x + gx) 0) h in
      let (some, ws) = and_true (above gw 0 || above gx 0) (above (w + gw) 0) front in
      ⊎_elim (λ (g : 0 < gw). writes g (ltb-true 0 (x + gx) xs))
      (λ (g : gw ≤ 0). executes (⊎_elim (λ t. let l = ltb-true 0 gw t in let z : ⊥ = omega arith in absurd z) (ltb-true 0 gx) (or_cases (above gw 0) (above gx 0) some)) (let l = ltb-true 0 (w + gw) ws in omega arith))
      (below_or_above 0 gw) where
        met : (i : ℕ) → i < m → (meets writable executable s.ledger (e i) || meets executable writable s.ledger (e i)) ≡ true → some_meets ≡ true
        met i l h = or_left some_meets_count some_meets_entry (any_hit (λ i. meets_count s.ledger (e i)) m i l h)

        executes : 0 < gain m e executable b → 0 < counter writable s b → some_meets ≡ true
        executes g w =
            let (i, l, t) = gain_found m e executable b g in
            met i l (or_right (meets writable executable s.ledger (e i)) (meets executable writable s.ledger (e i)) (meets_at s executable writable (e i) b t w))

        writes : 0 < gain m e writable b → 0 < counter executable s b + gain m e executable b → some_meets ≡ true
        writes g x =
            let (i, l, t) = gain_found m e writable b g in
            ⊎_elim (λ (k : 0 < counter executable s b). met i l (or_left (meets writable executable s.ledger (e i)) (meets executable writable s.ledger (e i)) (meets_at s writable executable (e i) b t k)))
            (λ (k : counter executable s b ≤ 0).
            or_right some_meets_count some_meets_entry (any_hit (λ i. meets_entry m e (e i)) m i l (meets_entry_at m e i b t (omega arith))))
            (below_or_above 0 (counter executable s b))

  clash_true : (b : ℕ) → (0 < gain m e writable b) ⊎ (0 < gain m e executable b) → 0 < counter writable s b + gain m e writable b → 0 < counter executable s b + gain m e executable b
      → clashes s m e b ≡ true
  unfolding clash
  clash_true b some w x =
      let gw = gain m e writable b in
      let gx = gain m e executable b in
      let gains : (above gw 0 || above gx 0) ≡ true = ⊎_elim (λ g. or_left (above gw 0) (above gx 0) (lt-ltb 0 gw g)) (λ g. or_right (above gw 0) (above gx 0) (lt-ltb 0 gx g)) some in
      rw (gains, lt-ltb 0 (counter writable s b + gw) w, lt-ltb 0 (counter executable s b + gx) x) refl

  module _ (placed : (i : ℕ) → i < m → astray (base s) (blocks s) (e i) ≡ false) where
    -- a block to which an entry gives something is a block of the region
    clash_at : (i b : ℕ) (c : Counter) → i < m → gives c (e i) b ≡ true → clashes s m e b ≡ true → some_region_block s (clashes s m e) ≡ true
    clash_at i b c l t h = let (lo, hi) = given_inside (base s) (blocks s) c (e i) b (placed i l) t in some_block_hit (base s) (blocks s) (clashes s m e) b lo hi h

    meets-clash : some_meets ≡ true → some_region_block s (clashes s m e) ≡ true
    unfolding meets_count
    meets-clash h = ⊎_elim with_count with_entry (or_cases some_meets_count some_meets_entry h) where
      with_count : some_meets_count ≡ true → some_region_block s (clashes s m e) ≡ true
      with_count f =
          let (i, l, t) = any_found (λ i. meets_count s.ledger (e i)) m f in
          ⊎_elim
          (λ t. let (b, g, k) = meets_found s writable executable (e i) t in let more = gain_hit m e writable b i l g in clash_at i b writable l g (clash_true b (inl more) (omega arith) (omega arith)))
          (λ t. let (b, g, k) = meets_found s executable writable (e i) t in let more = gain_hit m e executable b i l g in clash_at i b executable l g (clash_true b (inr more) (omega arith) (omega arith)))
          (or_cases (meets writable executable s.ledger (e i)) (meets executable writable s.ledger (e i)) t)

      with_entry : some_meets_entry ≡ true → some_region_block s (clashes s m e) ≡ true
      with_entry f =
          let (i, l, t) = any_found (λ i. meets_entry m e (e i)) m f in
          let (b, g, x) = meets_entry_found m e i t in
          let w = gain_hit m e writable b i l g in
          clash_at i b writable l g (clash_true b (inl w) (omega arith) (omega arith))

    -- create 11, entry by entry
    clash_is : some_region_block s (clashes s m e) ≡ some_meets
    clash_is = both_ways (some_region_block s (clashes s m e)) some_meets (λ h. let (b, lo, hi, t) = some_block_found (base s) (blocks s) (clashes s m e) h in clash-meets b t) meets-clash

    -- by the tests, one after the other
    pub clash-counted : any m (λ i. meets_count s.ledger (e i)) ≡ true → some_region_block s (clashes s m e) ≡ true
    clash-counted t = clash_is ∙ or_left some_meets_count some_meets_entry t

    clash_met : any m (λ i. meets_count s.ledger (e i)) ≡ false → some_region_block s (clashes s m e) ≡ any m (λ i. meets_entry m e (e i))
    clash_met f = rw (clash_is, f) refl

    pub clash_none : any m (λ i. meets_count s.ledger (e i)) ≡ false → any m (λ i. grants executable (e i)) ≡ false → some_region_block s (clashes s m e) ≡ false
    clash_none f none = clash_met f ∙ none_meets m e none

  -- create 12: where no entry executes, nothing has to be signed
  pub unsigned_none : (golden : List ℕ) → any m (λ i. grants executable (e i)) ≡ false → some_region_block s (unsigned golden s m e) ≡ false
  unsigned_none golden none = no_block_is (base s) (blocks s) (unsigned golden s m e) (λ b. rw (none_executed m e none b) refl)

  -- A set of the blocks that the entries execute

  module _ (members : List ℕ) (executed : (k : ℕ) → k < blocks s → member members k ≡ any m (λ i. gives executable (e i) (base s + k))) where
    member_is : (k : ℕ) → k < blocks s → member members k ≡ above (gain m e executable (base s + k)) 0
    member_is k l = executed k l ∙ sym (gain-any m e executable (base s + k))

    meets_members_is : (d : Entry) → astray (base s) (blocks s) d ≡ false → meets_members s.ledger members d ≡ meets_entry m e d
    unfolding meets_members meets_entry
    meets_members_is d placed = go (grants writable d) refl where
      go : (t : Bool) → grants writable d ≡ t → meets_members s.ledger members d ≡ meets_entry m e d
      go false g = rw g refl
      go true g =
          let (low, high) = cover_within (base s) (blocks s) d (grants_place writable d g) placed in
          rw g
          (some_block_same (cover_first d) (cover_blocks d) (λ b. member members (b - base s)) (λ b. above (gain m e executable b) 0)
          (λ b lo hi. let is : base s + (b - base s) ≡ b = omega arith in rw is at (member_is (b - base s) (omega arith))))

    clash_members : any m (λ i. meets_count s.ledger (e i)) ≡ false → ((i : ℕ) → i < m → astray (base s) (blocks s) (e i) ≡ false)
        → any m (λ i. meets_members s.ledger members (e i)) ≡ some_region_block s (clashes s m e)
    clash_members f placed =
        any_same (λ i. meets_members s.ledger members (e i)) (λ i. meets_entry m e (e i)) m (λ i l. meets_members_is (e i) (placed i l)) ∙ sym (clash_met placed f)

    unknown_members : (golden : List ℕ) → any (blocks s) (member_unknown golden s members) ≡ some_region_block s (unsigned golden s m e)
    unfolding member_unknown some_block
    unknown_members golden =
        any_same (member_unknown golden s members) (λ k. unsigned golden s m e (base s + k)) (blocks s)
        (λ k l. ap (λ (t : Bool). t && unknown golden s (base s + k)) (member_is k l))

    hashed_members : count (blocks s) (member_hashed s.ledger members) ≡ hashed_blocks s m e
    unfolding hashed_blocks member_hashed
    hashed_members =
        sum_same _ _ (blocks s) (λ k l.
        let is : base s + k - base s ≡ k = omega arith in
        rw (member_is k l, is) refl)

  -- the set that a look at the entries gathered
  module _ (members : List ℕ) (joined : AllJoined s m e members) where
    just_executed : (k : ℕ) → k < blocks s → member members k ≡ any m (λ i. gives executable (e i) (base s + k))
    just_executed k l = joined k

    -- no block behind the region's last is in it
    pub gathered_inside : ((i : ℕ) → i < m → astray (base s) (blocks s) (e i) ≡ false) → InRegionOnly s members
    gathered_inside placed b beyond =
        joined b ∙ any_avoids (λ i. gives executable (e i) (base s + b)) m (λ i l.
        false_unless (gives executable (e i) (base s + b)) (λ g. let (lo, hi) = given_inside (base s) (blocks s) executable (e i) (base s + b) (placed i l) g in omega arith))

    pub clash_found : any m (λ i. meets_count s.ledger (e i)) ≡ false → ((i : ℕ) → i < m → astray (base s) (blocks s) (e i) ≡ false)
        → {t r : Bool} → r ≡ any m (λ i. meets_members s.ledger members (e i)) → r ≡ t → some_region_block s (clashes s m e) ≡ t
    clash_found f placed q h = sym (clash_members members just_executed f placed) ∙ sym q ∙ h

    pub unsigned_found : (golden : List ℕ) {t r : Bool} → r ≡ any (blocks s) (member_unknown golden s members) → r ≡ t → some_region_block s (unsigned golden s m e) ≡ t
    unsigned_found golden q h = sym (unknown_members members just_executed golden) ∙ sym q ∙ h

    pub admitted : {k : ℕ} → k ≡ count (blocks s) (member_hashed s.ledger members) → Admitted s m e members k
    admitted h = record { gathered = member_is members just_executed; counted = h ∙ hashed_members members just_executed }

    -- where no entry executes, nothing is hashed
    pub admitted_none : any m (λ i. grants executable (e i)) ≡ false → {k : ℕ} → k ≡ 0 → Admitted s m e members k
    unfolding hashed_blocks
    admitted_none none h =
        let idle : (b : ℕ) → above (gain m e executable b) 0 ≡ false = λ b. rw (none_executed m e none b) refl in
        record { gathered = member_is members just_executed; counted = h ∙ sym (count_none _ (blocks s) (λ b l. rw (idle (base s + b)) refl)) }

-- The blocks that an entry executes join a set

module _ (members : List ℕ) (B : ℕ) (e : Entry) (k : ℕ) where
  pub executed_joins : (now : List ℕ) → grants executable e ≡ true → B ≤ cover_first e → member now k ≡ (member members k || among (cover_first e - B) (cover_blocks e) k) → member now k ≡ (member members k || gives executable e (B + k))
  unfolding gives covers
  executed_joins now g low h =
      h ∙ ap (λ (t : Bool). member members k || t)
      (rw g
      (both_ways (among (cover_first e - B) (cover_blocks e) k) (among (cover_first e) (cover_blocks e) (B + k))
      (λ t. let (lo, hi) = among_within (cover_first e - B) (cover_blocks e) k t in among_in (cover_first e) (cover_blocks e) (B + k) (omega arith) (omega arith))
      (λ t. let (lo, hi) = among_within (cover_first e) (cover_blocks e) (B + k) t in among_in (cover_first e - B) (cover_blocks e) k (omega arith) (omega arith))))

  pub none_joins : grants executable e ≡ false → member members k ≡ (member members k || gives executable e (B + k))
  unfolding gives
  none_joins g = rw g (sym (or-false (member members k)))

-- 10 does not apply: the entries' places are in the region
pub all_placed : (v : Level) (s : Store) (p m : ℕ) (e : ℕ → Entry) → any m (λ i. misplaced v s p (e i)) ≡ false → (i : ℕ) → i < m → astray (base s) (blocks s) (e i) ≡ false
all_placed v s p m e none i l = misplaced-astray v s p (e i) (any_none (λ i. misplaced v s p (e i)) m none i l)

-- a block that is marked stays as it is when it is marked again
put_again : (led : List ℕ) (b : ℕ) → Bytes led → eqb (record_word led mark_word b) mark_value ≡ true → put_record_word led mark_word b mark_value ≡ led
unfolding record_word put_record_word
put_again led b bytes e = ap (put_word led (ledger_head_bytes + ledger_record_bytes * b + 4 * mark_word)) (sym (eqb-true (word led (ledger_head_bytes + ledger_record_bytes * b + 4 * mark_word)) mark_value e)) ∙ put_word_self led _ bytes

-- where all blocks of a set are marked, marking them changes nothing
module _ (led members : List ℕ) (bytes : Bytes led) where
  mark_again : (n : ℕ) (t : Bool) → (t && not (eqb (record_word led mark_word n) mark_value)) ≡ false → led ≡ cond t (put_record_word led mark_word n mark_value) led
  mark_again n true h = sym (put_again led n bytes (not-false (eqb (record_word led mark_word n) mark_value) h))
  mark_again n false h = refl

  mark_all_again : (n : ℕ) → ((k : ℕ) → k < n → member_hashed led members k ≡ false) → led ≡ mark_blocks led n (member members)
  unfolding mark_blocks member_hashed
  mark_all_again zero h = refl
  mark_all_again (suc n) h = mark_again n (member members n) (h n (omega arith)) ∙ ap (λ (l : List ℕ). cond (member members n) (put_record_word l mark_word n mark_value) l) (mark_all_again n (λ k l. h k (omega arith)))

  pub mark_idle : (n : ℕ) → 0 ≡ count n (member_hashed led members) → led ≡ mark_blocks led n (member members)
  mark_idle n none =
      mark_all_again n (any_none (member_hashed led members) n (sym (count-any (member_hashed led members) n) ∙ le-ltb 0 (count n (member_hashed led members)) (omega arith)))
