-- Entries are counted one by one: a counter overruns on the way or at the end exactly if it overruns at once, and what was counted can be taken back.
use mathlib.Core.Bool.{Bool, true, false, not, ◌&&◌, and-false, false≢true}
use mathlib.Core.List.{List}
use mathlib.Core.Logic.{⊎_elim}
use mathlib.Core.Path.{◌≡◌, refl, sym, ◌∙◌, ap}
use Prim.Native.Nat.{ℕ, zero, suc, ◌+◌, ◌-◌, ◌*◌, ◌^◌, ◌<◌, ◌≤◌}
use native.Mathlib.Nat.{add-zero, add-suc}
use native.Mathlib.Omega.{arith}
use lib.ListN.{length}
use lib.Dec.{leb}
use borrow.Author.Tests.{not-true, not-false, lt-ltb, le-ltb, le-leb, lt-leb, ltb-true, ltb-false, leb-true}
use Rattle.words.specs.Bounded.{above, any, sum, num}
use Rattle.words.proofs.Bounded.{both_ways, false_unless, any_avoids, or_right, and_both, any_hit, any_found, or_cases, or_false_left, or_false_right, and_true, and_true_left, and_false_right, below_or_above}
use Rattle.words.proofs.Words.{Bytes}
use Rattle.entries.specs.Entries.{Entry, Level, cover_first, cover_blocks}
use Rattle.rules.specs.Store.{ledger_head_bytes, ledger_record_bytes, counter_limit, base_place, Store, lent, blocks, base, record_word, Counter, writable, executable, linked, counter_word, some_counter, counter, some_block, some_region_block, misfit, misfit_stored}
use Rattle.rules.specs.Tables.{grants, gives, gain, astray}
use Rattle.rules.specs.General.{Change, added, removed, end_value, ends_below, overruns, some_overrun, recounted}
use Rattle.rules.proofs.Gains.{gives_within, gives_at, grants_place, gain_more, gain_hit, gain_none, gain_found}
use Rattle.rules.proofs.State.{fits_stored, some_block_hit, some_block_found, no_block_at, no_counter, some_counter_found, some_counter_hit}
use Rattle.rules.proofs.Walk.{cover_within}
use Rattle.rules.proofs.Changes.{counter_at, end, length-recounted, head_recounted, kinds_recounted, type_recounted, mark_recounted, counter-recounted}
use Rattle.ledger.specs.Counters.{beyond, counter_beyond, blocks_beyond, entry_beyond, least_before}
use Rattle.ledger.specs.Needs.{Fits, Changeable, Countable}
use Rattle.ledger.proofs.Records.{record_word_bound, bytes_recount, ledger_ext}
use Rattle.ledger.proofs.Counting.{recounted_more, recounted_idle, recounted_none}
use Rattle.validation.specs.Needs.{InRegion, Placed, AllPlaced, TablePlaced}
use Rattle.validation.specs.Tests.{entry_from}
use Rattle.validation.proofs.Covers.{given_inside}
use Rattle.tables.specs.Counting.{ChangedUnless, complete, ends_above, most_of, Room, Roomy, opposite, Counted}
use Rattle.tables.specs.Needs.{Storable, AllStorable}

-- One counter, changed by k from old

storable_end : (d : Change) (old k : ℕ) → old < 2 ^ 32 → Storable d old k → end_value d old k < 2 ^ 32
unfolding end_value
storable_end added old k small r = r
storable_end removed old k small r = omega arith

room_more : (d : Change) (old k : ℕ) → Room d old k → beyond (least_before d) (most_of d) (end_value d old k) ≡ false → Room d old (k + 1)
unfolding end_value
room_more added old k r t = λ _. omega (arith, ltb-false (counter_limit - 1) (old + k) (or_false_right (above 0 (old + k)) (above (old + k) (counter_limit - 1)) t))
room_more removed old k r t = omega (arith, ltb-false (old - k) 1 (or_false_left (above 1 (old - k)) (above (old - k) (2 ^ 32 - 1)) t))

room_stuck : (d : Change) (old k : ℕ) → old < 2 ^ 32 → Room d old k → beyond (least_before d) (most_of d) (end_value d old k) ≡ true → (j : ℕ) → k < j → overruns d old j ≡ true
unfolding end_value ends_below overruns
room_stuck added old k small r t j l =
    ⊎_elim (λ h. let z = ltb-true (old + k) 0 h in let f : ⊥ = omega arith in absurd f)
    (λ h. let over = ltb-true (counter_limit - 1) (old + k) h in rw (lt-ltb 0 j (omega arith), lt-ltb counter_limit (old + j) (omega arith)) refl)
    (or_cases (above 0 (old + k)) (above (old + k) (counter_limit - 1)) t)
room_stuck removed old k small r t j l =
    ⊎_elim (λ h. let under = ltb-true (old - k) 1 h in rw (lt-ltb 0 j (omega arith), lt-ltb old j (omega arith)) refl)
    (λ h. let z = ltb-true (2 ^ 32 - 1) (old - k) h in let f : ⊥ = omega arith in absurd f)
    (or_cases (above 1 (old - k)) (above (old - k) (2 ^ 32 - 1)) t)

-- at the end only the limit is left to judge
room-overruns : (d : Change) (old k : ℕ) → Room d old k → overruns d old k ≡ (above k 0 && above (end_value d old k) counter_limit)
unfolding end_value ends_below overruns
room-overruns added old k r = refl
room-overruns removed old k r = rw (le-ltb old k r) refl

room_storable : (d : Change) (old k : ℕ) → old < 2 ^ 32 → Room d old k → Storable d old k
room_storable added old k small r = ⊎_elim (λ (h : 0 < k). omega (arith, r h)) (λ (h : k ≤ 0). omega arith) (below_or_above 0 k)
room_storable removed old k small r = r

-- a counter that is added to ends within the limit
room_within : (old k : ℕ) → Room added old k → overruns added old k ≡ false
unfolding end_value ends_below overruns
room_within old k r =
    ⊎_elim (λ (h : 0 < k). rw (le-ltb counter_limit (old + k) (r h)) (and-false (above k 0))) (λ (h : k ≤ 0). rw (le-ltb 0 k h) refl) (below_or_above 0 k)

-- taken back
storable_back : (d : Change) (old k : ℕ) → old < 2 ^ 32 → Storable d old k → Storable (opposite d) (end_value d old k) k × (end_value (opposite d) (end_value d old k) k ≡ old)
unfolding end_value
storable_back added old k small r = (omega arith, omega arith)
storable_back removed old k small r = (omega arith, omega arith)

-- What entries give

module _ (e : ℕ → Entry) (c : Counter) (p : ℕ) where
  gain_given : (i : ℕ) → gives c (e i) p ≡ true → gain (i + 1) e c p ≡ gain i e c p + 1
  unfolding num
  gain_given i g = gain_more i e c p ∙ (rw g refl)

  gain_spared : (i : ℕ) → gives c (e i) p ≡ false → gain (i + 1) e c p ≡ gain i e c p
  unfolding num
  gain_spared i g = gain_more i e c p ∙ (rw g (omega arith))

  gain_grows : (k i : ℕ) → gain i e c p ≤ gain (i + k) e c p
  unfolding gain sum
  gain_grows zero i = rw add-zero (omega arith)
  gain_grows (suc k) i = rw add-suc (omega (arith, gain_grows k i))

-- The region's blocks, by their places in it

module _ (s : Store) (q : ℕ → Bool) where
  region_found : some_region_block s q ≡ true → (b : ℕ) × (b < blocks s) × (q (base s + b) ≡ true)
  unfolding some_block
  region_found h = any_found (λ k. q (base s + k)) (blocks s) h

  region_hit : (b : ℕ) → b < blocks s → q (base s + b) ≡ true → some_region_block s q ≡ true
  region_hit b l t = some_block_hit (base s) (blocks s) q (base s + b) (omega arith) (omega arith) t

  module _ (c : Counter) (en : Entry) where
    own_found : astray (base s) (blocks s) en ≡ false → grants c en ≡ true → some_block (cover_first en) (cover_blocks en) q ≡ true
        → (b : ℕ) × (b < blocks s) × (gives c en (base s + b) ≡ true) × (q (base s + b) ≡ true)
    own_found inside g h =
        let (p, lo, hi, t) = some_block_found (cover_first en) (cover_blocks en) q h in
        let given = gives_at c en p g lo hi in
        let (low, high) = given_inside (base s) (blocks s) c en p inside given in
        let is : base s + (p - base s) ≡ p = omega arith in
        (p - base s, omega arith, rw is given, rw is t)

    own_hit : (b : ℕ) → gives c en (base s + b) ≡ true → q (base s + b) ≡ true → (grants c en && some_block (cover_first en) (cover_blocks en) q) ≡ true
    own_hit b g t =
        let (grant, lo, hi) = gives_within c en (base s + b) g in
        and_both (grants c en) (some_block (cover_first en) (cover_blocks en) q) grant (some_block_hit (cover_first en) (cover_blocks en) q (base s + b) lo hi t)

    own_none : (b : ℕ) → (grants c en && some_block (cover_first en) (cover_blocks en) q) ≡ false → gives c en (base s + b) ≡ true → q (base s + b) ≡ false
    own_none b h g =
        let (grant, lo, hi) = gives_within c en (base s + b) g in
        no_block_at (cover_first en) (cover_blocks en) q (and_false_right (grants c en) (some_block (cover_first en) (cover_blocks en) q) h grant) (base s + b) lo hi

-- The ledger when i entries are counted

module _ (d : Change) (s : Store) (e : ℕ → Entry) (length_is : length s.ledger ≡ ledger_head_bytes + ledger_record_bytes * blocks s) (bytes : Bytes s.ledger) where
  abbrev counted : ℕ → Store
  counted i = lent s.memory (recounted d s i e)

  small : (c : Counter) (b : ℕ) → record_word s.ledger (counter_word c) b < 2 ^ 32
  small c b = record_word_bound s.ledger (counter_word c) b bytes

  roomy_storable : (i : ℕ) → Roomy d s i e → AllStorable d s i e
  roomy_storable i r c b l = room_storable d _ (gain i e c (base s + b)) (small c b) (r c b l)

  base-counted : (i : ℕ) → base (counted i) ≡ base s
  base-counted i = head_recounted d s i e base_place (omega arith)

  record_counted : (i : ℕ) → AllStorable d s i e → (c : Counter) (b : ℕ) → b < blocks s → record_word (recounted d s i e) (counter_word c) b ≡ end d s i e c b
  record_counted i st c b l = counter-recounted d s i e length_is c b l (storable_end d _ (gain i e c (base s + b)) (small c b) (st c b l))

  counter-counted : (i : ℕ) → AllStorable d s i e → (c : Counter) (b : ℕ) → b < blocks s → counter c (counted i) (base s + b) ≡ end d s i e c b
  counter-counted i st c b l = let k : base s + b - base (counted i) ≡ b = omega (arith, base-counted i) in rw k (record_counted i st c b l)

  -- an entry that can be changed leaves room
  roomy_more : (i : ℕ) → Roomy d s i e → entry_beyond (least_before d) (most_of d) (recounted d s i e) (e i) ≡ false → Roomy d s (i + 1) e
  unfolding blocks_beyond counter_beyond
  roomy_more i r t c b l = go (gives c (e i) (base s + b)) refl where
    go : (g : Bool) → gives c (e i) (base s + b) ≡ g → Room d (record_word s.ledger (counter_word c) b) (gain (i + 1) e c (base s + b))
    go false g = rw (gain_spared e c (base s + b) i g) (r c b l)
    go true g =
        let q : ℕ → Bool = λ p. beyond (least_before d) (most_of d) (counter c (counted i) p) in
        let none = own_none s q c (e i) b (no_counter (λ c. counter_beyond (least_before d) (most_of d) (recounted d s i e) c (e i) (cover_first (e i)) (cover_blocks (e i))) t c) g in
        rw (gain_given e c (base s + b) i g) (room_more d _ (gain i e c (base s + b)) (r c b l) (rw (counter-counted i (roomy_storable i r) c b l) at none))

  module _ (m : ℕ) (inside : (i : ℕ) → i < m → astray (base s) (blocks s) (e i) ≡ false) where
    -- counter c of block b overruns when all m entries are counted
    overrun_at : (c : Counter) (b : ℕ) → b < blocks s → overruns d (record_word s.ledger (counter_word c) b) (gain m e c (base s + b)) ≡ true → some_overrun d s m e ≡ true
    unfolding some_overrun
    overrun_at c b l o =
        region_hit s (λ b. some_counter (λ c. overruns d (counter c s b) (gain m e c b))) b l
        (some_counter_hit (λ c. overruns d (counter c s (base s + b)) (gain m e c (base s + b))) c (rw (counter_at c s b) o))

    -- what an entry beyond its bounds says, when i entries are counted
    beyond_found : (i k least most : ℕ) → k < m → AllStorable d s i e → entry_beyond least most (recounted d s i e) (e k) ≡ true
        → (c : Counter) × (b : ℕ) × (b < blocks s) × (gives c (e k) (base s + b) ≡ true) × (beyond least most (end d s i e c b) ≡ true)
    unfolding blocks_beyond counter_beyond
    beyond_found i k least most l st t =
        let (c, h) = some_counter_found (λ c. counter_beyond least most (recounted d s i e) c (e k) (cover_first (e k)) (cover_blocks (e k))) t in
        let q : ℕ → Bool = λ p. beyond least most (counter c (counted i) p) in
        let (grant, some) = and_true (grants c (e k)) (some_block (cover_first (e k)) (cover_blocks (e k)) q) h in
        let (b, n, g, u) = own_found s q c (e k) (inside k l) grant some in
        (c, b, n, g, rw (counter-counted i st c b n) at u)

    beyond_hit : (i k least most : ℕ) → AllStorable d s i e → (c : Counter) (b : ℕ) → b < blocks s → gives c (e k) (base s + b) ≡ true → beyond least most (end d s i e c b) ≡ true
        → entry_beyond least most (recounted d s i e) (e k) ≡ true
    unfolding blocks_beyond counter_beyond
    beyond_hit i k least most st c b n g u =
        let q : ℕ → Bool = λ p. beyond least most (counter c (counted i) p) in
        some_counter_hit (λ c. counter_beyond least most (recounted d s i e) c (e k) (cover_first (e k)) (cover_blocks (e k))) c (own_hit s q c (e k) b g (rw (counter-counted i st c b n) u))

    -- refusal 13: an entry that can't be changed
    stuck_overruns : (i : ℕ) → i < m → Roomy d s i e → entry_beyond (least_before d) (most_of d) (recounted d s i e) (e i) ≡ true → some_overrun d s m e ≡ true
    stuck_overruns i l r t =
        let (c, b, n, g, u) = beyond_found i i (least_before d) (most_of d) l (roomy_storable i r) t in
        let more = gain_given e c (base s + b) i g in
        let rest : i + 1 + (m - (i + 1)) ≡ m = omega arith in
        let grows = rw rest at (gain_grows e c (base s + b) (m - (i + 1)) (i + 1)) in
        overrun_at c b n (room_stuck d _ (gain i e c (base s + b)) (small c b) (r c b n) u (gain m e c (base s + b)) (omega arith))

    -- or all can, and a counter ends above the limit
    end_overruns : Roomy d s m e → some_overrun d s m e ≡ any m (λ i. entry_beyond 0 counter_limit (recounted d s m e) (e i))
    unfolding some_overrun
    end_overruns r = both_ways (some_overrun d s m e) (any m (λ i. entry_beyond 0 counter_limit (recounted d s m e) (e i))) there back where
      there : some_overrun d s m e ≡ true → any m (λ i. entry_beyond 0 counter_limit (recounted d s m e) (e i)) ≡ true
      there h =
          let (b, n, t) = region_found s (λ b. some_counter (λ c. overruns d (counter c s b) (gain m e c b))) h in
          let (c, o) = some_counter_found (λ c. overruns d (counter c s (base s + b)) (gain m e c (base s + b))) t in
          let (some, over) = and_true (above (gain m e c (base s + b)) 0) (above (end d s m e c b) counter_limit) (rw (counter_at c s b, room-overruns d _ (gain m e c (base s + b)) (r c b n)) at o) in
          let (i, l, g) = gain_found m e c (base s + b) (ltb-true 0 (gain m e c (base s + b)) some) in
          any_hit (λ i. entry_beyond 0 counter_limit (recounted d s m e) (e i)) m i l
          (beyond_hit m i 0 counter_limit (roomy_storable m r) c b n g (or_right (above 0 (end d s m e c b)) (above (end d s m e c b) counter_limit) over))

      back : any m (λ i. entry_beyond 0 counter_limit (recounted d s m e) (e i)) ≡ true → some_overrun d s m e ≡ true
      back h =
          let (i, l, t) = any_found (λ i. entry_beyond 0 counter_limit (recounted d s m e) (e i)) m h in
          let (c, b, n, g, u) = beyond_found m i 0 counter_limit l (roomy_storable m r) t in
          let some = lt-ltb 0 (gain m e c (base s + b)) (gain_hit m e c (base s + b) i l g) in
          let over = ⊎_elim (λ z. let under = ltb-true (end d s m e c b) 0 z in let f : ⊥ = omega arith in absurd f) (λ (o : above (end d s m e c b) counter_limit ≡ true). o) (or_cases (above 0 (end d s m e c b)) (above (end d s m e c b) counter_limit) u) in
          overrun_at c b n (rw (room-overruns d _ (gain m e c (base s + b)) (r c b n)) (and_both (above (gain m e c (base s + b)) 0) (above (end d s m e c b) counter_limit) some over))

  -- what was counted can be taken back
  back_storable : (i : ℕ) → AllStorable d s i e → AllStorable (opposite d) (counted i) i e
  back_storable i st c b l = rw (base-counted i, record_counted i st c b l) (storable_back d _ (gain i e c (base s + b)) (small c b) (st c b l)).0

  taken_back : (i : ℕ) → AllStorable d s i e → recounted (opposite d) (counted i) i e ≡ s.ledger
  taken_back i st =
      ledger_ext (recounted (opposite d) (counted i) i e) s.ledger (blocks s)
      (length-recounted (opposite d) (counted i) i e ∙ length-recounted d s i e ∙ length_is) length_is
      (bytes_recount _ (blocks s) _ (bytes_recount s.ledger (blocks s) (end d s i e) bytes)) bytes
      (λ a h. head_recounted (opposite d) (counted i) i e a h ∙ head_recounted d s i e a h)
      (λ b l. type_recounted (opposite d) (counted i) i e b ∙ type_recounted d s i e b)
      (λ c b l.
      let is : end (opposite d) (counted i) i e c b ≡ record_word s.ledger (counter_word c) b = rw (base-counted i, record_counted i st c b l) (storable_back d _ (gain i e c (base s + b)) (small c b) (st c b l)).1 in
      counter-recounted (opposite d) (counted i) i e (length-recounted d s i e ∙ length_is) c b l (rw is (small c b)) ∙ is)
      (λ b l. mark_recounted (opposite d) (counted i) i e b ∙ mark_recounted d s i e b)

-- at the end only the counters that were taken from are left to judge
within_limit : (s : Store) (m : ℕ) (e : ℕ → Entry) → Roomy added s m e → some_overrun added s m e ≡ false
unfolding some_overrun some_block
within_limit s m e r =
    any_avoids (λ b. some_counter (over b)) (blocks s)
    (λ b l. false_unless (some_counter (over b)) (λ t. let (c, o) = some_counter_found (over b) t in false≢true (sym (room_within _ (gain m e c (base s + b)) (r c b l)) ∙ (rw (counter_at c s b) at o)))) where
      over : ℕ → Counter → Bool
      over b c = overruns added (counter c s (base s + b)) (gain m e c (base s + b))

ends_above_lem : (d : Change) (s : Store) (e : ℕ → Entry) → length s.ledger ≡ ledger_head_bytes + ledger_record_bytes * blocks s → Bytes s.ledger → (m : ℕ)
    → ((i : ℕ) → i < m → astray (base s) (blocks s) (e i) ≡ false) → Roomy d s m e → some_overrun d s m e ≡ ends_above d (recounted d s m e) m e
ends_above_lem added s e length_is bytes m inside r = within_limit s m e r
ends_above_lem removed s e length_is bytes m inside r = end_overruns removed s e length_is bytes m inside r

-- What was changed, and what was not

unchanged : {o : Bool} {changed old : List ℕ} {r : Bool} {led : List ℕ} → ChangedUnless o changed old r led → r ≡ false → (o ≡ true) × (led ≡ old)
unchanged {o} u f = (not-false o (sym u.tells ∙ f), rw f at u.leaves)

did_change : {o : Bool} {changed old : List ℕ} {r : Bool} {led : List ℕ} → ChangedUnless o changed old r led → r ≡ true → (o ≡ false) × (led ≡ changed)
did_change {o} u t = (not-true o (sym u.tells ∙ t), rw t at u.leaves)

pub left_alone : {o : Bool} {changed old : List ℕ} → o ≡ true → ChangedUnless o changed old false old
left_alone t = record { tells = rw t refl; leaves = refl }

pub was_changed : {o : Bool} {changed old led : List ℕ} → o ≡ false → led ≡ changed → ChangedUnless o changed old true led
was_changed f q = record { tells = rw f refl; leaves = q }

-- One entry

in_bounds_changeable : (d : Change) (old : ℕ) → beyond (least_before d) (most_of d) old ≡ false → Changeable d old
in_bounds_changeable added old h = let most = ltb-false (counter_limit - 1) old (or_false_right (above 0 old) (above old (counter_limit - 1)) h) in omega arith
in_bounds_changeable removed old h = let least = ltb-false old 1 (or_false_left (above 1 old) (above old (2 ^ 32 - 1)) h) in omega arith

module _ (d : Change) (memory ledger : List ℕ) (e : Entry) where
  -- an entry that grants nothing is counted by leaving the ledger
  pub entry_idle : Fits memory ledger → Bytes ledger → some_counter (λ c. grants c e) ≡ false
      → ChangedUnless (entry_beyond (least_before d) (most_of d) ledger e) (recounted d (lent memory ledger) 1 (λ k. e)) ledger true ledger
  unfolding blocks_beyond counter_beyond some_counter gives
  entry_idle fit bytes idle =
      let none : (c : Counter) → grants c e ≡ false = no_counter (λ c. grants c e) idle in
      let s = lent memory ledger in
      was_changed (rw (none writable, none executable, none linked) refl)
      (sym (recounted_idle d s 1 (λ k. e) (fits_stored s fit).ledger_length bytes (λ c p. gain_none 1 (λ k. e) c p (λ i l. rw (none c) refl))))

  -- one whose counters are in bounds can be changed
  pub entry_countable : InRegion memory ledger e → entry_beyond (least_before d) (most_of d) ledger e ≡ false → (c : Counter) → Countable d ledger c e (cover_first e) (cover_blocks e)
  unfolding blocks_beyond counter_beyond
  entry_countable inside h c g i l =
      let s = lent memory ledger in
      let q : ℕ → Bool = λ b. beyond (least_before d) (most_of d) (counter c s b) in
      let (low, high) = cover_within (base s) (blocks s) e (grants_place c e g) inside in
      let none = no_counter (λ c. counter_beyond (least_before d) (most_of d) ledger c e (cover_first e) (cover_blocks e)) h c in
      let within-bounds = no_block_at (cover_first e) (cover_blocks e) q (and_false_right (grants c e) (some_block (cover_first e) (cover_blocks e) q) none g) (cover_first e + i) (omega arith) (omega arith) in
      let is : cover_first e + i - base s ≡ cover_first e - base s + i = omega arith in
      in_bounds_changeable d _ (rw is at within-bounds)

-- Fewer entries than can be counted, or one less

changeable_storable : (d : Change) (old k : ℕ) → Storable d old (k + 1) → Changeable d (end_value d old k)
unfolding end_value
changeable_storable added old k h = omega arith
changeable_storable removed old k h = omega arith

storable_less : (d : Change) (old j k : ℕ) → j ≤ k → Storable d old k → Storable d old j
storable_less added old j k l h = omega arith
storable_less removed old j k l h = omega arith

roomy_none : (d : Change) (s : Store) (e : ℕ → Entry) → Roomy d s 0 e
roomy_none d s e c b l = rw (gain_none 0 e c (base s + b) (λ i h. let z : ⊥ = omega arith in absurd z)) (room_none d) where
  room_none : (d : Change) → Room d (record_word s.ledger (counter_word c) b) 0
  room_none added = λ h. let z : ⊥ = omega arith in absurd z
  room_none removed = omega arith

-- The loops that count a table's entries, and the ledger that each has reached

module _ (d : Change) {v : Level} {memory ledger : List ℕ} {j m : ℕ} (pre : TablePlaced v memory ledger j m) (bytes : Bytes ledger) where
  abbrev store : Store
  store = lent memory ledger

  abbrev entry : ℕ → Entry
  entry = entry_from v memory j

  length_is : length ledger ≡ ledger_head_bytes + ledger_record_bytes * blocks store
  length_is = (fits_stored store pre.fits).ledger_length

  -- entries that can be counted: those for which there was room, and a part of others
  all_storable : (i : ℕ) → Roomy d (lent memory ledger) i (entry_from v memory j) → AllStorable d (lent memory ledger) i (entry_from v memory j)
  all_storable i r = roomy_storable d store entry length_is bytes i r

  pub fewer_storable : (i k : ℕ) → i ≤ k → AllStorable d (lent memory ledger) k (entry_from v memory j) → AllStorable d (lent memory ledger) i (entry_from v memory j)
  fewer_storable i k l st c b n =
      let rest : i + (k - i) ≡ k = omega arith in
      storable_less d _ _ _ (rw rest at (gain_grows entry c (base store + b) (k - i) i)) (st c b n)

  -- no entry is counted
  pub none_counted : (ledger ≡ recounted d (lent memory ledger) 0 (entry_from v memory j)) × Roomy d (lent memory ledger) 0 (entry_from v memory j)
  none_counted = (sym (recounted_none d store entry length_is bytes), roomy_none d store entry)

  -- i entries are
  module _ (i : ℕ) {led : List ℕ} (reached : led ≡ recounted d (lent memory ledger) i (entry_from v memory j)) where
    pub length_reached : length led ≡ length ledger
    length_reached = ap length reached ∙ length-recounted d store i entry

    fits_reached : Fits memory led
    unfolding misfit misfit_stored
    fits_reached = rw (reached, length-recounted d store i entry, head_recounted d store i entry base_place (omega arith), kinds_recounted d store i entry) pre.fits

    placed_reached : AllPlaced v memory led j m
    placed_reached k l = rw (reached, head_recounted d store i entry base_place (omega arith)) (pre.placed k l)

    pub table_reached : (k : ℕ) → k ≤ m → TablePlaced v memory led j k
    table_reached k l = record { fits = fits_reached; holds = omega (arith, pre.holds); accepted = λ n h. pre.accepted n (omega arith); placed = λ n h. placed_reached n (omega arith) }

    -- the next can be tested, counted if there is room, and is then counted too
    module _ (l : i < m) {e : Entry} (is : e ≡ entry_from v memory j i) where
      next_placed : astray (base (lent memory led)) (blocks store) e ≡ false
      next_placed = rw is (placed_reached i l)

      pub next_ready : Placed memory led e
      next_ready = (fits_reached, next_placed)

      next_roomy : Roomy d (lent memory ledger) i (entry_from v memory j) → entry_beyond (least_before d) (most_of d) led e ≡ false → Roomy d (lent memory ledger) (i + 1) (entry_from v memory j)
      next_roomy r t = roomy_more d store entry length_is bytes i r (rw (reached, is) at t)

      module _ (st : AllStorable d (lent memory ledger) (i + 1) (entry_from v memory j)) where
        next_countable : (c : Counter) → Countable d led c e (cover_first e) (cover_blocks e)
        next_countable c = rw (reached, is) now where
          now : Countable d (recounted d store i entry) c (entry i) (cover_first (entry i)) (cover_blocks (entry i))
          now g k n =
              let (low, high) = cover_within (base store) (blocks store) (entry i) (grants_place c (entry i) g) (pre.placed i l) in
              let b = cover_first (entry i) - base store + k in
              let given = gives_at c (entry i) (base store + b) g (omega arith) (omega arith) in
              rw (head_recounted d store i entry base_place (omega arith), record_counted d store entry length_is bytes i (fewer_storable i (i + 1) (omega arith) st) c b (omega arith))
              (changeable_storable d _ (gain i entry c (base store + b)) (rw (gain_given entry c (base store + b) i given) at (st c b (omega arith))))

        pub next_can : Fits memory led × (InRegion memory led e × ((c : Counter) → Countable d led c e (cover_first e) (cover_blocks e)))
        next_can = (fits_reached, (next_placed, next_countable))

        pub next-counted : {led' : List ℕ} → led' ≡ recounted d (lent memory led) 1 (λ k. e) → led' ≡ recounted d (lent memory ledger) (i + 1) (entry_from v memory j)
        next-counted q = rw (reached, is) at q ∙ recounted_more d store length_is bytes entry i (λ c b n. storable_end d _ (gain (i + 1) entry c (base store + b)) (record_word_bound ledger (counter_word c) b bytes) (st c b n))

      -- the turn of the loop that counts up to an entry that can't be
      module _ (r : Roomy d (lent memory ledger) i (entry_from v memory j)) {did : Bool} {led' : List ℕ}
          (one : ChangedUnless (entry_beyond (least_before d) (most_of d) led e) (recounted d (lent memory led) 1 (λ k. e)) led did led') where
        pub count_goes_on : did ≡ true → (led' ≡ recounted d (lent memory ledger) (i + 1) (entry_from v memory j)) × Roomy d (lent memory ledger) (i + 1) (entry_from v memory j)
        count_goes_on t =
            let (inside, q) = did_change one t in
            let more = next_roomy r inside in
            (next-counted (all_storable (i + 1) more) q, more)

        pub count_stops : did ≡ false → Counted d (lent memory ledger) m (entry_from v memory j) i led'
        count_stops f =
            let (beyond-one, q) = unchanged one f in
            record { at_most = omega arith; ledger_is = q ∙ reached; roomy = r; stuck = λ _. rw (q, ← is) beyond-one }

  -- What counting leaves

  module _ {r : ℕ} {led : List ℕ} (done : Counted d (lent memory ledger) m (entry_from v memory j) r led) where
    storable : AllStorable d store r entry
    storable = all_storable r done.roomy

    pub back_counted : AllStorable (opposite d) (lent memory led) r (entry_from v memory j)
    back_counted = rw done.ledger_is (back_storable d store entry length_is bytes r storable)

    stuck_overrun : r < m → some_overrun d store m entry ≡ true
    stuck_overrun l = stuck_overruns d store entry length_is bytes m pre.placed r l done.roomy (rw done.ledger_is at (done.stuck l))

    end_overrun : r ≡ m → some_overrun d store m entry ≡ ends_above d led m entry
    end_overrun q = rw (done.ledger_is, q) (ends_above_lem d store entry length_is bytes m pre.placed (rw q at done.roomy))

    overrun_is : not (some_overrun d store m entry) ≡ complete d led m entry r
    overrun_is =
        let most = done.at_most in
        ⊎_elim (λ (h : r < m). rw (stuck_overrun h, lt-leb m r h) refl) (λ (h : m ≤ r). rw (end_overrun (omega arith), le-leb m r h) refl) (below_or_above r m)

    -- all are counted, or what was counted is taken back
    pub counted_all : complete d led m (entry_from v memory j) r ≡ true
        → ChangedUnless (some_overrun d (lent memory ledger) m (entry_from v memory j)) (recounted d (lent memory ledger) m (entry_from v memory j)) ledger true led
    counted_all t =
        let most = done.at_most in
        let least = leb-true m r (and_true_left (leb m r) (not (ends_above d led m entry)) t) in
        let all : r ≡ m = omega arith in
        record { tells = sym (overrun_is ∙ t); leaves = rw all at done.ledger_is }

    pub counted_undone : {led' : List ℕ} → complete d led m (entry_from v memory j) r ≡ false → led' ≡ recounted (opposite d) (lent memory led) r (entry_from v memory j)
        → ChangedUnless (some_overrun d (lent memory ledger) m (entry_from v memory j)) (recounted d (lent memory ledger) m (entry_from v memory j)) ledger false led'
    counted_undone t q = record { tells = sym (overrun_is ∙ t); leaves = rw done.ledger_is at q ∙ taken_back d store entry length_is bytes r storable }
