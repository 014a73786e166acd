-- Laws of counters: changing word by word what entries give, once to each of adjacent blocks, is recounting the whole ledger with them.
use mathlib.Core.Bool.{Bool, true, false, cond, ◌&&◌, ◌||◌, and-false, or-false}
use mathlib.Core.List.{List}
use mathlib.Core.Logic.{◌≢◌, ⊎_elim}
use mathlib.Core.Path.{◌≡◌, refl, sym, ◌∙◌, ap}
use Prim.Native.Nat.{ℕ, zero, suc, ◌+◌, ◌-◌, ◌*◌, ◌/◌, ◌%◌, ◌^◌, ◌<◌, ◌≤◌}
use native.Mathlib.Nat.{add-zero, div-div-eq-div-mul}
use native.Mathlib.Numerals.{add-one}
use native.Mathlib.Omega.{arith}
use lib.Arith.{mod-mul}
use lib.Dec.{eqb, ltb}
use lib.ListN.{length}
use borrow.Author.Tests.{not-true, lt-ltb, le-ltb, ltb-true, ltb-false, eq-eqb, eqb-true, eqb-false}
use Rattle.words.specs.Bounded.{above, neqb, among, num, sum}
use Rattle.words.specs.Words.{word, bits}
use Rattle.words.proofs.Bounded.{both_ways, below_or_above, differ, or_left, or_right, or_cases, last_or_below, window_or_outside, true_unless, and_true, and_true_left, or_false_left, among_in, among_out, among_within, and_false_right}
use Rattle.words.proofs.Words.{Bytes, bytes_put_word}
use Rattle.entries.specs.Entries.{Entry, is_fault, is_link, rights, cover_first, cover_blocks, covers}
use Rattle.entries.specs.Rights.{write, execute, allows}
use Rattle.rules.specs.Store.{ledger_head_bytes, ledger_record_bytes, base_place, counter_limit, Store, blocks, base, record_word, put_record_word, type_word, Counter, writable, executable, linked, counter_word, mark_word, some_counter, counter, some_block, misfit_stored, lent}
use Rattle.rules.specs.Tables.{grants, gives, gain, astray}
use Rattle.rules.specs.General.{Change, added, removed, end_value, ends_below, overruns, some_overrun, recounted}
use Rattle.rules.proofs.Gains.{fault_is, grants_place, gain_none}
use Rattle.rules.proofs.Ledger.{InRecord, counter_in_record, counter_not_type, counter_not_mark, length-put_record_word, head_put_record_word, record_word_put_same, record_word_put_other}
use Rattle.rules.proofs.State.{fits_stored, within, inside, some_block_hit, some_block_found, no_block_at, no_counter, some_counter_found, some_counter_hit}
use Rattle.rules.proofs.Changes.{end, length-recounted, head_recounted, type_recounted, mark_recounted, counter-recounted}
use Rattle.rules.proofs.Walk.{cover_within}
use Rattle.ledger.specs.Counters.{Spreads, beyond, counter_beyond, blocks_beyond, least_before, most_before, changed, changed_counter}
use Rattle.ledger.specs.Needs.{Changeable, record_of, GrantsInside, GrantsRecorded, Countable}
use Rattle.ledger.proofs.Records.{record_word_bound, bytes_recount, ledger_ext}

-- What an entry grants

-- write or execute
two_bits : (r : ℕ) → bits r 1 2 ≡ bits r 2 1 * 2 + bits r 1 1
two_bits r = mod-mul (r / 2) {m = 2} {c = 2} (omega arith) (omega arith) ∙ ap (λ (x : ℕ). x % 2 * 2 + r / 2 % 2) (div-div-eq-div-mul r 2 2)

some_right : (r : ℕ) → neqb (bits r 1 2) 0 ≡ (allows r write || allows r execute)
unfolding allows
some_right r = both_ways (neqb (bits r 1 2) 0) (eqb (bits r 1 1) 1 || eqb (bits r 2 1) 1) there back where
  there : neqb (bits r 1 2) 0 ≡ true → (eqb (bits r 1 1) 1 || eqb (bits r 2 1) 1) ≡ true
  there t =
      let some = eqb-false (bits r 1 2) 0 (not-true (eqb (bits r 1 2) 0) t) in
      ⊎_elim (λ (w : bits r 1 1 < 1). or_right (eqb (bits r 1 1) 1) (eqb (bits r 2 1) 1) (eq-eqb (bits r 2 1) 1 (⊎_elim (λ (x : bits r 2 1 < 1). absurd (some (omega (arith, two_bits r)))) (λ (x : 1 ≤ bits r 2 1). omega arith) (below_or_above (bits r 2 1) 1))))
      (λ (w : 1 ≤ bits r 1 1). or_left (eqb (bits r 1 1) 1) (eqb (bits r 2 1) 1) (eq-eqb (bits r 1 1) 1 (omega arith)))
      (below_or_above (bits r 1 1) 1)

  back : (eqb (bits r 1 1) 1 || eqb (bits r 2 1) 1) ≡ true → neqb (bits r 1 2) 0 ≡ true
  back t =
      ⊎_elim (λ w. let q = eqb-true (bits r 1 1) 1 w in differ (bits r 1 2) 0 (λ z. omega (arith, two_bits r))) (λ x. let q = eqb-true (bits r 2 1) 1 x in differ (bits r 1 2) 0 (λ z. omega (arith, two_bits r)))
      (or_cases (eqb (bits r 1 1) 1) (eqb (bits r 2 1) 1) t)

-- the code's tests of it
pub grants_none : (e : Entry) → is_fault e ≡ true → false ≡ some_counter (λ c. grants c e)
unfolding some_counter grants rights allows is_link
grants_none e h = rw (fault_is e h) refl

pub grants_link : (e : Entry) → is_link e ≡ true → true ≡ some_counter (λ c. grants c e)
unfolding grants
grants_link e h = sym (some_counter_hit (λ c. grants c e) linked h)

pub grants_right : (e : Entry) → is_link e ≡ false → neqb (bits (rights e) 1 2) 0 ≡ some_counter (λ c. grants c e)
unfolding some_counter grants
grants_right e h = some_right (rights e) ∙ (rw h (sym (or-false (allows (rights e) write || allows (rights e) execute))))

-- One counter

-- the bounds of a counter that changes by one
beyond-overruns : (d : Change) (old : ℕ) → beyond (least_before d) (most_before d) old ≡ overruns d old 1
unfolding overruns ends_below end_value
beyond-overruns added old =
    ⊎_elim (λ (h : old < counter_limit). rw (le-ltb old 0 (omega arith), le-ltb (counter_limit - 1) old (omega arith)) (sym (le-ltb counter_limit (old + 1) (omega arith))))
    (λ (h : counter_limit ≤ old). rw (le-ltb old 0 (omega arith), lt-ltb (counter_limit - 1) old (omega arith)) (sym (lt-ltb counter_limit (old + 1) (omega arith))))
    (below_or_above old counter_limit)
beyond-overruns removed old =
    ap (λ (t : Bool). ltb old 1 || t)
    (⊎_elim (λ (h : counter_limit + 1 < old). lt-ltb (counter_limit + 1) old h ∙ sym (lt-ltb counter_limit (old - 1) (omega arith)))
    (λ (h : old ≤ counter_limit + 1). le-ltb (counter_limit + 1) old h ∙ sym (le-ltb counter_limit (old - 1) (omega arith)))
    (below_or_above (counter_limit + 1) old))

changeable : (d : Change) (old : ℕ) → overruns d old 1 ≡ false → Changeable d old
unfolding overruns ends_below end_value
changeable added old e = let l = ltb-false counter_limit (old + 1) e in omega arith
changeable removed old e = let l = ltb-false old 1 (or_false_left (ltb old 1) (ltb counter_limit (old - 1)) e) in omega arith

-- a counter that changes by nothing, and by one
end_value_none : (d : Change) (old : ℕ) → end_value d old 0 ≡ old
unfolding end_value
end_value_none added old = add-zero old
end_value_none removed old = omega arith

overruns_some : (d : Change) (old k : ℕ) → overruns d old k ≡ true → 0 < k
unfolding overruns
overruns_some d old k e = ltb-true 0 k (and_true_left (above k 0) (ends_below d old k || above (end_value d old k) counter_limit) e)

changeable_bound : (d : Change) (old : ℕ) → old < 2 ^ 32 → Changeable d old → end_value d old 1 < 2 ^ 32
unfolding end_value
changeable_bound added old b h = h
changeable_bound removed old b h = omega arith

-- The m blocks from p on, to each of which the n entries x give what e grants

module _ {n : ℕ} {x : ℕ → Entry} {e : Entry} {p m : ℕ} (spreads : Spreads n x e p m) (c : Counter) (q : ℕ) where
  gain_one : grants c e ≡ true → p ≤ q → q < p + m → gain n x c q ≡ 1
  unfolding num
  gain_one g lo hi = spreads.gains c q ∙ rw (g, among_in p m q lo hi) refl

  gain_ungranted : grants c e ≡ false → gain n x c q ≡ 0
  unfolding num
  gain_ungranted g = spreads.gains c q ∙ rw g refl

  gain-outside : (p ≤ q → p + m ≤ q) → gain n x c q ≡ 0
  unfolding num
  gain-outside o = spreads.gains c q ∙ rw (among_out p m q o, and-false (grants c e)) refl

  gain_given : 0 < gain n x c q → (grants c e ≡ true) × (p ≤ q) × (q < p + m)
  unfolding num
  gain_given h =
      let t : (grants c e && among p m q) ≡ true = true_unless (grants c e && among p m q) (λ f. omega (arith, spreads.gains c q ∙ ap num f)) in
      let (g, inside) = and_true (grants c e) (among p m q) t in
      let (lo, hi) = among_within p m q inside in
      (g, lo, hi)

-- an entry gives what it grants to the blocks that it covers
pub entry_spreads : (e : Entry) → Spreads 1 (λ k. e) e (cover_first e) (cover_blocks e)
unfolding gain sum gives covers
entry_spreads e = record { gains = λ c q. omega arith }

-- Overruns

module _ (d : Change) (s : Store) {n : ℕ} {x : ℕ → Entry} {e : Entry} {p m : ℕ} (spreads : Spreads n x e p m)
    (length_is : length s.ledger ≡ ledger_head_bytes + ledger_record_bytes * blocks s) (recorded-all : GrantsRecorded s.ledger e p m) where
  abbrev at : Counter → ℕ → Bool
  at c b = beyond (least_before d) (most_before d) (counter c s b)

  abbrev over : ℕ → Counter → Bool
  over b c = overruns d (counter c s b) (gain n x c b)

  -- refusal 13: the entries overrun some counter of the region exactly if one that e grants is beyond the bounds of a change, on one of these blocks
  overruns-blocks : blocks_beyond (least_before d) (most_before d) s.ledger e p m ≡ some_overrun d s n x
  unfolding blocks_beyond counter_beyond some_overrun
  overruns-blocks = both_ways _ _ there back where
    there : blocks_beyond (least_before d) (most_before d) s.ledger e p m ≡ true → some_overrun d s n x ≡ true
    there h =
        let (c, t) = some_counter_found (λ c. counter_beyond (least_before d) (most_before d) s.ledger c e p m) h in
        let (g, scan) = and_true (grants c e) (some_block p m (at c)) t in
        let (b, lo, hi, o) = some_block_found p m (at c) scan in
        let (low, high) = recorded-all c g in
        some_block_hit (base s) (blocks s) (λ b. some_counter (over b)) b (omega arith) (omega arith)
        (some_counter_hit (over b) c (rw (gain_one spreads c b g lo hi) (sym (beyond-overruns d (counter c s b)) ∙ o)))

    back : some_overrun d s n x ≡ true → blocks_beyond (least_before d) (most_before d) s.ledger e p m ≡ true
    back h =
        let (b, _, _, t) = some_block_found (base s) (blocks s) (λ b. some_counter (over b)) h in
        let (c, o) = some_counter_found (over b) t in
        let (g, lo, hi) = gain_given spreads c b (overruns_some d (counter c s b) (gain n x c b) o) in
        some_counter_hit (λ c. counter_beyond (least_before d) (most_before d) s.ledger c e p m) c
        (rw g (some_block_hit p m (at c) b lo hi (beyond-overruns d (counter c s b) ∙ (rw (gain_one spreads c b g lo hi) at o))))

-- Adjacent records

module _ (d : Change) (led : List ℕ) (k b : ℕ) where
  -- whatever every store of these words leaves alone is left alone
  changed_keeps : {A : Type 0} (P : List ℕ → A) (m : ℕ) → ((l : List ℕ) (j v : ℕ) → b ≤ j → j < b + m → P (put_record_word l k j v) ≡ P l) → P (changed d led k b m) ≡ P led
  unfolding changed
  changed_keeps P zero h = refl
  changed_keeps P (suc m) h = h (changed d led k b m) (b + m) _ (omega arith) (omega arith) ∙ changed_keeps P m (λ l j v lo hi. h l j v lo (omega arith))

  pub length-changed : (m : ℕ) → length (changed d led k b m) ≡ length led
  length-changed m = changed_keeps length m (λ l j v lo hi. length-put_record_word l k j v)

  head_changed : (m a : ℕ) → a + 4 ≤ ledger_head_bytes → word (changed d led k b m) a ≡ word led a
  head_changed m a h = changed_keeps (λ l. word l a) m (λ l j v lo hi. head_put_record_word l k j v a h)

  -- a word of another record, or another word of these
  record_word-changed_other : (m j i : ℕ) → InRecord k → InRecord j → (b ≤ i → i < b + m → k ≢ j) → record_word (changed d led k b m) j i ≡ record_word led j i
  record_word-changed_other m j i ik ij o = changed_keeps (λ l. record_word l j i) m (λ l x v lo hi. record_word_put_other l k x v j i ik ij (λ e. o (omega arith) (omega arith)))

  -- the turn of the loop that changes them: the next word is as it was, and is then changed
  module _ (m : ℕ) (ik : InRecord k) {now : List ℕ} (reached : now ≡ changed d led k b m) where
    next_word_lem : record_word now k (b + m) ≡ record_word led k (b + m)
    next_word_lem = ap (λ (l : List ℕ). record_word l k (b + m)) reached ∙ record_word-changed_other m k (b + m) ik ik (λ lo hi. let z : ⊥ = omega arith in absurd z)

    pub changeable_next : Changeable d (record_word led k (b + m)) → Changeable d (record_word now k (b + m))
    changeable_next h = rw next_word_lem h

    pub changed_turn : {after : List ℕ} → after ≡ put_record_word now k (b + m) (end_value d (record_word now k (b + m)) 1) → after ≡ changed d led k b (m + 1)
    unfolding changed
    changed_turn h = rw (next_word_lem, reached) at h ∙ rw add-one refl

  bytes_changed : (m : ℕ) → Bytes led → Bytes (changed d led k b m)
  unfolding changed put_record_word
  bytes_changed zero h = h
  bytes_changed (suc m) h = bytes_put_word (changed d led k b m) (ledger_head_bytes + ledger_record_bytes * (b + m) + 4 * k) _ (bytes_changed m h)

-- a word that is changed
record_word-changed : (d : Change) (led : List ℕ) (k b m n j : ℕ) → InRecord k → Bytes led → length led ≡ ledger_head_bytes + ledger_record_bytes * n → b + m ≤ n
    → ((i : ℕ) → i < m → Changeable d (record_word led k (b + i))) → b ≤ j → j < b + m → record_word (changed d led k b m) k j ≡ end_value d (record_word led k j) 1
unfolding changed
record_word-changed d led k b zero n j ik h e f all lo hi = let z : ⊥ = omega arith in absurd z
record_word-changed d led k b (suc m) n j ik h e f all lo hi =
    ⊎_elim
    (λ (q : j ≡ b + m).
    rw q (record_word_put_same (changed d led k b m) k (b + m) _ ik n (length-changed d led k b m ∙ e) (omega arith) (changeable_bound d _ (record_word_bound led k (b + m) h) (all m (omega arith)))))
    (λ (l : j < b + m).
    record_word_put_other (changed d led k b m) k (b + m) _ k j ik ik (λ q. let z : ⊥ = omega arith in absurd z)
    ∙ record_word-changed d led k b m n j ik h e (omega arith) (λ i l. all i (omega arith)) lo l)
    (last_or_below {i = j} {n = b + m} (omega arith))

-- One counter that an entry grants

module _ (d : Change) (led : List ℕ) (c : Counter) (e : Entry) (p m : ℕ) where
  counter_keeps : {A : Type 0} (P : List ℕ → A) → P (changed d led (counter_word c) (record_of led p) m) ≡ P led → P (changed_counter d led c e p m) ≡ P led
  unfolding changed_counter
  counter_keeps P h = go (grants c e) where
    go : (t : Bool) → P (cond t (changed d led (counter_word c) (record_of led p) m) led) ≡ P led
    go true = h
    go false = refl

  length-changed_counter : length (changed_counter d led c e p m) ≡ length led
  length-changed_counter = counter_keeps length (length-changed d led (counter_word c) (record_of led p) m)

  head_changed_counter : (a : ℕ) → a + 4 ≤ ledger_head_bytes → word (changed_counter d led c e p m) a ≡ word led a
  head_changed_counter a h = counter_keeps (λ l. word l a) (head_changed d led (counter_word c) (record_of led p) m a h)

  -- every other word of a record
  other_changed_counter : (k b : ℕ) → InRecord k → counter_word c ≢ k → record_word (changed_counter d led c e p m) k b ≡ record_word led k b
  other_changed_counter k b ik o = counter_keeps (λ l. record_word l k b) (record_word-changed_other d led (counter_word c) (record_of led p) m k b (counter_in_record c) ik (λ lo hi. o))

  bytes_changed_counter : Bytes led → Bytes (changed_counter d led c e p m)
  unfolding changed_counter
  bytes_changed_counter h = go (grants c e) where
    go : (t : Bool) → Bytes (cond t (changed d led (counter_word c) (record_of led p) m) led)
    go true = bytes_changed d led (counter_word c) (record_of led p) m h
    go false = h

  -- the counter itself
  own_changed_counter : {k : ℕ} {x : ℕ → Entry} → Spreads k x e p m → (n j : ℕ) → Bytes led → length led ≡ ledger_head_bytes + ledger_record_bytes * n → GrantsRecorded led e p m
      → Countable d led c e p m → j < n
      → record_word (changed_counter d led c e p m) (counter_word c) j ≡ end_value d (record_word led (counter_word c) j) (gain k x c (word led base_place + j))
  unfolding changed_counter
  own_changed_counter {k} {x} spreads n j h l recorded-all countable small = go (grants c e) refl where
    old : ℕ
    old = record_word led (counter_word c) j

    spared : gain k x c (word led base_place + j) ≡ 0 → old ≡ end_value d old (gain k x c (word led base_place + j))
    spared none = rw none (sym (end_value_none d old))

    go : (t : Bool) → grants c e ≡ t → record_word (cond t (changed d led (counter_word c) (record_of led p) m) led) (counter_word c) j ≡ end_value d old (gain k x c (word led base_place + j))
    go true g =
        let (lo, hi) = recorded-all c g in
        ⊎_elim
        (λ (w : (record_of led p ≤ j) × (j < record_of led p + m)).
        rw (gain_one spreads c (word led base_place + j) g (omega arith) (omega arith))
        (record_word-changed d led (counter_word c) (record_of led p) m n j (counter_in_record c) h l (omega arith) (countable g) w.0 w.1))
        (λ (o : record_of led p ≤ j → record_of led p + m ≤ j).
        record_word-changed_other d led (counter_word c) (record_of led p) m (counter_word c) j (counter_in_record c) (counter_in_record c) (λ a b _. omega (arith, o a))
        ∙ spared (gain-outside spreads c (word led base_place + j) (λ a. omega (arith, o (omega arith)))))
        (window_or_outside j (record_of led p) m)
    go false g = spared (gain_ungranted spreads c (word led base_place + j) g)

-- All that it grants

module _ (d : Change) (s : Store) (length_is : length s.ledger ≡ ledger_head_bytes + ledger_record_bytes * blocks s) (bytes : Bytes s.ledger) (e : Entry) (p m : ℕ) where
  -- a ledger that differs from the store's in counters only
  record Reached (led : List ℕ) : Type 0 where
    lengths : length led ≡ length s.ledger
    heads : (a : ℕ) → a + 4 ≤ ledger_head_bytes → word led a ≡ word s.ledger a
    types : (b : ℕ) → record_word led type_word b ≡ record_word s.ledger type_word b
    marks : (b : ℕ) → record_word led mark_word b ≡ record_word s.ledger mark_word b
    all_bytes : Bytes led

  -- and not in this one
  abbrev Keeps : Counter → List ℕ → Type 0
  Keeps c led = (b : ℕ) → record_word led (counter_word c) b ≡ record_word s.ledger (counter_word c) b

  reach : {led : List ℕ} (c : Counter) → Reached led → Reached (changed_counter d led c e p m)
  reach {led} c r = record {
    lengths = length-changed_counter d led c e p m ∙ r.lengths;
    heads = λ a h. head_changed_counter d led c e p m a h ∙ r.heads a h;
    types = λ b. other_changed_counter d led c e p m type_word b (omega arith) (λ q. counter_not_type c (sym q)) ∙ r.types b;
    marks = λ b. other_changed_counter d led c e p m mark_word b (omega arith) (λ q. counter_not_mark c (sym q)) ∙ r.marks b;
    all_bytes = bytes_changed_counter d led c e p m r.all_bytes;
  }

  module _ (recorded-all : GrantsRecorded s.ledger e p m) (countable : (c : Counter) → Countable d s.ledger c e p m) where
    -- what the change of a counter asks of the ledger reached
    ready : {led : List ℕ} (c : Counter) → Reached led → Keeps c led → GrantsRecorded led e p m × Countable d led c e p m
    ready {led} c r same = (
      λ k g. let (lo, hi) = recorded-all k g in rw (r.heads base_place (omega arith)) (omega (arith, lo), omega (arith, hi, r.lengths)),
      λ g i l. rw (r.heads base_place (omega arith), same (record_of s.ledger p + i)) (countable c g i l),
    )

    abbrev led1 : List ℕ
    led1 = changed_counter d s.ledger writable e p m

    abbrev led2 : List ℕ
    led2 = changed_counter d led1 executable e p m

    abbrev led3 : List ℕ
    led3 = changed_counter d led2 linked e p m

    -- a counter passes over the change of another
    passes : (led : List ℕ) (c o : Counter) → counter_word o ≢ counter_word c → (b : ℕ) → record_word (changed_counter d led o e p m) (counter_word c) b ≡ record_word led (counter_word c) b
    passes led c o h b = other_changed_counter d led o e p m (counter_word c) b (counter_in_record c) h

    reached0 : Reached s.ledger
    reached0 = record { lengths = refl; heads = λ a h. refl; types = λ b. refl; marks = λ b. refl; all_bytes = bytes }

    reached1 : Reached led1
    reached1 = reach writable reached0

    reached2 : Reached led2
    reached2 = reach executable reached1

    keeps1 : Keeps executable led1
    keeps1 b = passes s.ledger executable writable (λ q. omega arith) b

    keeps2 : Keeps linked led2
    keeps2 b = passes led1 linked executable (λ q. omega arith) b ∙ passes s.ledger linked writable (λ q. omega arith) b

    ready_executable : GrantsRecorded led1 e p m × Countable d led1 executable e p m
    ready_executable = ready executable reached1 keeps1

    ready_linked : GrantsRecorded led2 e p m × Countable d led2 linked e p m
    ready_linked = ready linked reached2 keeps2

    module _ {n : ℕ} {x : ℕ → Entry} (spreads : Spreads n x e p m) where
      -- what the change of a counter makes of it
      made : {led : List ℕ} (c : Counter) → Reached led → Keeps c led → (b : ℕ) → b < blocks s → record_word (changed_counter d led c e p m) (counter_word c) b ≡ end d s n x c b
      made {led} c r same b l =
          let (q, t) = ready c r same in
          rw (same b, r.heads base_place (omega arith)) at (own_changed_counter d led c e p m spreads (blocks s) b r.all_bytes (r.lengths ∙ length_is) q t l)

      ends : (c : Counter) (b : ℕ) → b < blocks s → record_word led3 (counter_word c) b ≡ end d s n x c b
      ends writable b l = passes led2 writable linked (λ q. omega arith) b ∙ passes led1 writable executable (λ q. omega arith) b ∙ made writable reached0 (λ b. refl) b l
      ends executable b l = passes led2 executable linked (λ q. omega arith) b ∙ made executable reached1 keeps1 b l
      ends linked b l = made linked reached2 keeps2 b l

      end_bound : (c : Counter) (b : ℕ) → b < blocks s → end d s n x c b < 2 ^ 32
      end_bound c b l = rw (← ends c b l) (record_word_bound led3 (counter_word c) b (reach linked reached2).all_bytes)

      -- changing the counters one after the other recounts the ledger with the entries
      changed-recounted : led3 ≡ recounted d s n x
      changed-recounted =
          let r = reach linked reached2 in
          ledger_ext led3 (recounted d s n x) (blocks s) (r.lengths ∙ length_is) (length-recounted d s n x ∙ length_is)
          r.all_bytes (bytes_recount s.ledger (blocks s) (end d s n x) bytes)
          (λ a h. r.heads a h ∙ sym (head_recounted d s n x a h))
          (λ b l. r.types b ∙ sym (type_recounted d s n x b))
          (λ c b l. ends c b l ∙ sym (counter-recounted d s n x length_is c b l (end_bound c b l)))
          (λ b l. r.marks b ∙ sym (mark_recounted d s n x b))

-- What the tests of a call say

-- 1 and 10 do not apply
pub recorded_inside : (s : Store) (e : Entry) (p m : ℕ) → misfit_stored s ≡ false → GrantsInside s.memory s.ledger e p m → GrantsRecorded s.ledger e p m
recorded_inside s e p m t inside c g =
    let fit = fits_stored s t in
    let (lo, hi) = within (base s) (blocks s) p m (inside c g) in
    (lo, omega arith)

-- an entry whose place is in the region grants nothing outside
pub entry_inside : (s : Store) (e : Entry) → astray (base s) (blocks s) e ≡ false → GrantsInside s.memory s.ledger e (cover_first e) (cover_blocks e)
entry_inside s e t c g = let (lo, hi) = cover_within (base s) (blocks s) e (grants_place c e g) t in inside (base s) (blocks s) (cover_first e) (cover_blocks e) lo hi

-- 13 does not apply
pub countable : (d : Change) (s : Store) {n : ℕ} {x : ℕ → Entry} (e : Entry) (p m : ℕ) → Spreads n x e p m → misfit_stored s ≡ false → GrantsInside s.memory s.ledger e p m
    → some_overrun d s n x ≡ false → (c : Counter) → Countable d s.ledger c e p m
unfolding blocks_beyond counter_beyond
countable d s e p m spreads t u o c g i l =
    let recorded = recorded_inside s e p m t u in
    let none = no_counter (λ c. counter_beyond (least_before d) (most_before d) s.ledger c e p m) (overruns-blocks d s spreads (fits_stored s t).ledger_length recorded ∙ o) c in
    let q : ℕ → Bool = λ b. beyond (least_before d) (most_before d) (counter c s b) in
    let in_bounds = no_block_at p m q (and_false_right (grants c e) (some_block p m q) none g) (p + i) (omega arith) (omega arith) in
    let is : p + i - base s ≡ record_of s.ledger p + i = omega (arith, (recorded c g).0) in
    changeable d _ (rw is at (sym (beyond-overruns d (counter c s (p + i))) ∙ in_bounds))

-- The code, over plain variables: a change of one counter after the other

module _ (d : Change) (s : Store) (e : Entry) (p m : ℕ) (t1 : misfit_stored s ≡ false) (t10 : GrantsInside s.memory s.ledger e p m) where
  pub overruns-any : {t : Bool} → t ≡ blocks_beyond (least_before d) (most_before d) s.ledger e p m → (n : ℕ) (x : ℕ → Entry) → Spreads n x e p m → t ≡ some_overrun d s n x
  overruns-any h n x spreads = h ∙ overruns-blocks d s spreads (fits_stored s t1).ledger_length (recorded_inside s e p m t1 t10)

  module _ (bytes : Bytes s.ledger) (can : (c : Counter) → Countable d s.ledger c e p m) {l1 : List ℕ} (e1 : l1 ≡ changed_counter d s.ledger writable e p m) where
    pub second_ready : GrantsRecorded l1 e p m × Countable d l1 executable e p m
    second_ready = rw e1 (ready_executable d s (fits_stored s t1).ledger_length bytes e p m (recorded_inside s e p m t1 t10) can)

    module _ {l2 : List ℕ} (e2 : l2 ≡ changed_counter d l1 executable e p m) where
      pub third_ready : GrantsRecorded l2 e p m × Countable d l2 linked e p m
      third_ready = rw (e2, e1) (ready_linked d s (fits_stored s t1).ledger_length bytes e p m (recorded_inside s e p m t1 t10) can)

      pub all_changed : {l3 : List ℕ} → l3 ≡ changed_counter d l2 linked e p m → (n : ℕ) (x : ℕ → Entry) → Spreads n x e p m → l3 ≡ recounted d s n x
      all_changed e3 n x spreads = rw (e2, e1) at e3 ∙ changed-recounted d s (fits_stored s t1).ledger_length bytes e p m (recorded_inside s e p m t1 t10) can spreads

-- Entries one after the other

gain_more : (i : ℕ) (e : ℕ → Entry) (c : Counter) (p : ℕ) → gain (i + 1) e c p ≡ gain i e c p + gain 1 (λ k. e i) c p
unfolding gain sum
gain_more i e c p = rw add-one (omega arith)

end_value_more : (d : Change) (old j k : ℕ) → end_value d (end_value d old j) k ≡ end_value d old (j + k)
unfolding end_value
end_value_more added old j k = omega arith
end_value_more removed old j k = omega arith

end_value_least : (d : Change) (old j k : ℕ) → old < 2 ^ 32 → end_value d old (j + k) < 2 ^ 32 → end_value d old j < 2 ^ 32
unfolding end_value
end_value_least added old j k b h = omega arith
end_value_least removed old j k b h = omega arith

module _ (d : Change) (s : Store) (length_is : length s.ledger ≡ ledger_head_bytes + ledger_record_bytes * blocks s) (bytes : Bytes s.ledger) (e : ℕ → Entry) (i : ℕ)
    (bound : (c : Counter) (b : ℕ) → b < blocks s → end d s (i + 1) e c b < 2 ^ 32) where
  abbrev reached : Store
  reached = lent s.memory (recounted d s i e)

  counter_reached : (c : Counter) (b : ℕ) → b < blocks s → record_word (recounted d s i e) (counter_word c) b ≡ end d s i e c b
  counter_reached c b l =
      counter-recounted d s i e length_is c b l
      (end_value_least d _ _ (gain 1 (λ k. e i) c (base s + b)) (record_word_bound s.ledger (counter_word c) b bytes) (rw (gain_more i e c (base s + b)) at (bound c b l)))

  ends_reached : (c : Counter) (b : ℕ) → b < blocks s → end d reached 1 (λ k. e i) c b ≡ end d s (i + 1) e c b
  ends_reached c b l =
      rw (counter_reached c b l, head_recounted d s i e base_place (omega arith), gain_more i e c (base s + b))
      (end_value_more d (record_word s.ledger (counter_word c) b) (gain i e c (base s + b)) (gain 1 (λ k. e i) c (base s + b)))

  -- recounting with i entries, and then with the next, recounts with i + 1
  pub recounted_more : recounted d reached 1 (λ k. e i) ≡ recounted d s (i + 1) e
  recounted_more =
      let one : ℕ → Entry = λ k. e i in
      let length_reached = length-recounted d s i e ∙ length_is in
      ledger_ext (recounted d reached 1 one) (recounted d s (i + 1) e) (blocks s) (length-recounted d reached 1 one ∙ length_reached) (length-recounted d s (i + 1) e ∙ length_is)
      (bytes_recount (recounted d s i e) (blocks s) (end d reached 1 one) (bytes_recount s.ledger (blocks s) (end d s i e) bytes))
      (bytes_recount s.ledger (blocks s) (end d s (i + 1) e) bytes)
      (λ a h. head_recounted d reached 1 one a h ∙ head_recounted d s i e a h ∙ sym (head_recounted d s (i + 1) e a h))
      (λ b l. type_recounted d reached 1 one b ∙ type_recounted d s i e b ∙ sym (type_recounted d s (i + 1) e b))
      (λ c b l.
      counter-recounted d reached 1 one length_reached c b l (rw (ends_reached c b l) (bound c b l)) ∙ ends_reached c b l
      ∙ sym (counter-recounted d s (i + 1) e length_is c b l (bound c b l)))
      (λ b l. mark_recounted d reached 1 one b ∙ mark_recounted d s i e b ∙ sym (mark_recounted d s (i + 1) e b))

-- recounting with entries that give nothing leaves the ledger
pub recounted_idle : (d : Change) (s : Store) (n : ℕ) (e : ℕ → Entry) → length s.ledger ≡ ledger_head_bytes + ledger_record_bytes * blocks s → Bytes s.ledger → ((c : Counter) (p : ℕ) → gain n e c p ≡ 0)
    → recounted d s n e ≡ s.ledger
recounted_idle d s n e length_is bytes none =
    let same : (c : Counter) (b : ℕ) → end d s n e c b ≡ record_word s.ledger (counter_word c) b = λ c b. rw (none c (base s + b)) (end_value_none d _) in
    ledger_ext (recounted d s n e) s.ledger (blocks s) (length-recounted d s n e ∙ length_is) length_is (bytes_recount s.ledger (blocks s) (end d s n e) bytes) bytes
    (λ a h. head_recounted d s n e a h)
    (λ b l. type_recounted d s n e b)
    (λ c b l. counter-recounted d s n e length_is c b l (rw (same c b) (record_word_bound s.ledger (counter_word c) b bytes)) ∙ same c b)
    (λ b l. mark_recounted d s n e b)

-- recounting with no entry does
pub recounted_none : (d : Change) (s : Store) (e : ℕ → Entry) → length s.ledger ≡ ledger_head_bytes + ledger_record_bytes * blocks s → Bytes s.ledger → recounted d s 0 e ≡ s.ledger
recounted_none d s e length_is bytes = recounted_idle d s 0 e length_is bytes (λ c p. gain_none 0 e c p (λ i l. let z : ⊥ = omega arith in absurd z))
