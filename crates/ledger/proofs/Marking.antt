-- Laws of marks: marking or clearing block after block, and the marks of adjacent blocks to which an entry grants execute.
use mathlib.Core.Bool.{Bool, true, false, not, ◌&&◌}
use mathlib.Core.List.{List}
use mathlib.Core.Path.{◌≡◌, refl, sym, ◌∙◌, ap}
use Prim.Native.Nat.{ℕ, zero, suc, ◌+◌, ◌-◌, ◌<◌, ◌≤◌}
use native.Mathlib.Nat.{add_assoc, add-zero}
use native.Mathlib.Numerals.{add-one}
use native.Mathlib.Omega.{arith}
use lib.Dec.{eqb, leb}
use borrow.Author.Tests.{le-leb, lt-leb, leb-true}
use Rattle.rules.specs.Signature.{unknown}
use Rattle.words.specs.Bounded.{above, among, sum, num, count, any, neqb}
use Rattle.words.proofs.Bounded.{among_in, among_out, among_within, both_ways, any_avoids, any_none}
use Rattle.words.proofs.Sums.{sum_same, sum_window, count_none}
use Rattle.entries.specs.Entries.{Entry}
use Rattle.rules.specs.Store.{Store, blocks, base, record_word, put_record_word, executable, mark_word, mark_value, marked, clear_mark, clear_marks, mark_blocks, misfit_stored, some_block}
use Rattle.rules.specs.Tables.{grants, executed}
use Rattle.rules.specs.General.{hashed_blocks}
use Rattle.rules.proofs.State.{within}
use Rattle.ledger.specs.Counters.{Spreads}
use Rattle.ledger.specs.Needs.{record_of, GrantsInside}

module _ (led : List ℕ) where
  -- one block more
  pub clear_more : {now then : List ℕ} (b i : ℕ) → now ≡ clear_marks led b i → then ≡ clear_mark now (b + i) → then ≡ clear_marks led b (i + 1)
  unfolding clear_marks
  clear_more b i e f = f ∙ rw e (rw add-one refl)

  pub mark_more : {now then : List ℕ} (b i : ℕ) → now ≡ mark_blocks led (b + i) (leb b) → then ≡ put_record_word now mark_word (b + i) mark_value → then ≡ mark_blocks led (b + (i + 1)) (leb b)
  unfolding mark_blocks
  mark_more b i e f = f ∙ rw e (rw (← add_assoc b i 1, add-one, le-leb b (b + i) (omega arith)) refl)

  -- blocks that have not q stay as they are
  mark_none : (n : ℕ) (q : ℕ → Bool) → ((k : ℕ) → k < n → q k ≡ false) → mark_blocks led n q ≡ led
  unfolding mark_blocks
  mark_none zero q h = refl
  mark_none (suc n) q h = rw (h n (omega arith)) (mark_none n q (λ k l. h k (omega arith)))

  pub mark_start : (b : ℕ) → led ≡ mark_blocks led (b + 0) (leb b)
  mark_start b = rw (add-zero b) (sym (mark_none b (leb b) (λ k l. lt-leb b k l)))

  pub mark_same : (n : ℕ) (q r : ℕ → Bool) → ((k : ℕ) → k < n → q k ≡ r k) → mark_blocks led n q ≡ mark_blocks led n r
  unfolding mark_blocks
  mark_same zero q r h = refl
  mark_same (suc n) q r h = rw (mark_same n q r (λ k l. h k (omega arith)), h n (omega arith)) refl

  -- none behind the first n has q
  mark_first : (n m : ℕ) (q : ℕ → Bool) → ((k : ℕ) → n ≤ k → k < n + m → q k ≡ false) → mark_blocks led (n + m) q ≡ mark_blocks led n q
  unfolding mark_blocks
  mark_first n zero q h = rw (add-zero n) refl
  mark_first n (suc m) q h =
      let e : n + suc m ≡ suc (n + m) = omega arith in
      rw e (rw (h (n + m) (omega arith) (omega arith)) (mark_first n m q (λ k lo hi. h k lo (omega arith))))

  -- those that have q are m adjacent ones
  mark_window : (n b m : ℕ) (q : ℕ → Bool) → b + m ≤ n → ((k : ℕ) → k < n → q k ≡ among b m k) → mark_blocks led (b + m) (leb b) ≡ mark_blocks led n q
  mark_window n b m q l h =
      let e : b + m + (n - (b + m)) ≡ n = omega arith in
      mark_same (b + m) (leb b) q (λ k small. both_ways (leb b k) (q k) (λ t. rw (h k (omega arith)) (there k small t)) (λ t. le-leb b k (among_within b m k (sym (h k (omega arith)) ∙ t)).0))
      ∙ sym (mark_first (b + m) (n - (b + m)) q (λ k lo hi. h k (omega arith) ∙ among_out b m k (λ _. lo)))
      ∙ ap (λ (x : ℕ). mark_blocks led x q) e where
        there : (k : ℕ) → k < b + m → leb b k ≡ true → among b m k ≡ true
        there k small t = among_in b m k (leb-true b k t) small

-- Adjacent blocks to which an entry grants execute

above-num : (t : Bool) → above (num t) 0 ≡ t
unfolding num
above-num true = refl
above-num false = refl

module _ (s : Store) (e : Entry) (p m : ℕ) (t1 : misfit_stored s ≡ false) (t10 : GrantsInside s.memory s.ledger e p m) {n : ℕ} {x : ℕ → Entry} (spreads : Spreads n x e p m) where
  -- what the entries execute
  executed_is : (b : ℕ) → executed n x (base s + b) ≡ (grants executable e && among p m (base s + b))
  executed_is b = ap (λ (k : ℕ). above k 0) (spreads.gains executable (base s + b)) ∙ above-num _

  -- they execute nothing
  module _ (none : grants executable e ≡ false) where
    not_executed : (b : ℕ) → executed n x (base s + b) ≡ false
    not_executed b = executed_is b ∙ ap (λ (t : Bool). t && among p m (base s + b)) none

    pub marks_none : (led : List ℕ) → led ≡ mark_blocks led (blocks s) (λ b. executed n x (base s + b))
    marks_none led = sym (mark_none led (blocks s) _ (λ b l. not_executed b))

    pub hashes_none : 0 ≡ hashed_blocks s n x
    unfolding hashed_blocks
    hashes_none = sym (count_none _ (blocks s) (λ b l. rw (not_executed b) refl))

  -- they execute the m blocks from p on
  module _ (granted : grants executable e ≡ true) where
    abbrev b₀ : ℕ
    b₀ = record_of s.ledger p

    inside_region : (base s ≤ p) × (p + m ≤ base s + blocks s)
    inside_region = within (base s) (blocks s) p m (t10 executable granted)

    executed_window : (b : ℕ) → executed n x (base s + b) ≡ among b₀ m b
    executed_window b =
        let (lo, hi) = inside_region in
        executed_is b ∙ ap (λ (t : Bool). t && among p m (base s + b)) granted
        ∙ both_ways (among p m (base s + b)) (among b₀ m b)
        (λ t. let (from, to) = among_within p m (base s + b) t in among_in b₀ m b (omega arith) (omega arith))
        (λ t. let (from, to) = among_within b₀ m b t in among_in p m (base s + b) (omega arith) (omega arith))

    pub marks_window : (led : List ℕ) {after : List ℕ} → after ≡ mark_blocks led (b₀ + m) (leb b₀) → after ≡ mark_blocks led (blocks s) (λ b. executed n x (base s + b))
    marks_window led h = let (lo, hi) = inside_region in h ∙ mark_window led (blocks s) b₀ m _ (omega arith) (λ b l. executed_window b)

    pub hashes_window : {k : ℕ} → k ≡ count m (λ i. not (eqb (record_word s.ledger mark_word (b₀ + i)) mark_value)) → k ≡ hashed_blocks s n x
    unfolding hashed_blocks num
    hashes_window {k} h =
        let (lo, hi) = inside_region in
        let f : ℕ → ℕ = λ b. num (executed n x (base s + b) && not (marked s (base s + b))) in
        let none : (i : ℕ) → i < blocks s → (b₀ ≤ i → b₀ + m ≤ i) → f i ≡ 0 = λ i l o. rw (executed_window i, among_out b₀ m i o) refl in
        let at : (i : ℕ) → base s + (b₀ + i) - base s ≡ b₀ + i = λ i. omega arith in
        let own : (i : ℕ) → i < m → num (not (eqb (record_word s.ledger mark_word (b₀ + i)) mark_value)) ≡ f (b₀ + i) = λ i l.
        rw (executed_window (b₀ + i), among_in b₀ m (b₀ + i) (omega arith) (omega arith), at i) refl in
        let window = sum_window f (λ i. 0) (blocks s) b₀ m (omega arith) none in
        let zeros : (j : ℕ) → sum j (λ i. 0) ≡ 0 = λ j. count_none (λ i. false) j (λ i l. refl) in
        h ∙ sum_same _ (λ i. f (b₀ + i)) m own ∙ omega (arith, window, zeros (blocks s), zeros m)

-- where all of the m blocks from p on are marked, none is unknown
pub all_marked : (golden : List ℕ) (s : Store) (p m : ℕ) {b : ℕ} → b ≡ p - base s → base s ≤ p → any m (λ i. neqb (record_word s.ledger mark_word (b + i)) mark_value) ≡ false
    → some_block p m (unknown golden s) ≡ false
unfolding some_block unknown
all_marked golden s p m {b} is low none =
    any_avoids (λ k. unknown golden s (p + k)) m
    (λ k l. let at : p + k - base s ≡ b + k = omega arith in rw (at, any_none (λ i. neqb (record_word s.ledger mark_word (b + i)) mark_value) m none k l) refl)
