-- Laws of the blocks of a set that are hashed: what is found of adjacent blocks, joined with what is found of the next ones.
use mathlib.Core.Bool.{Bool, true, false, cond, false≢true}
use Rattle.std.specs.Prelude.{None, Some}
use mathlib.Core.List.{List}
use mathlib.Core.Logic.{⊎_elim}
use mathlib.Core.Path.{◌≡◌, refl, sym, ◌∙◌, ap, ap₂}
use Prim.Native.Nat.{ℕ, ◌+◌, ◌-◌, ◌<◌, ◌≤◌}
use native.Mathlib.Nat.{add-zero, zero-add}
use native.Mathlib.Omega.{arith}
use lib.Dec.{eqb}
use Rattle.words.specs.Bounded.{any, sum, num, count}
use Rattle.words.proofs.Bounded.{and_true, below_or_above, any_none, any_avoids, any_hit, any_found, any_same}
use Rattle.words.proofs.Sums.{sum_same, sum_cut, count_none, count_most}
use Rattle.rules.specs.Store.{Store, blocks, base, record_word, mark_word, mark_value}
use Rattle.rules.specs.Signature.{signed_block, unknown}
use Rattle.validation.specs.Sets.{member, member_unknown, member_hashed, InRegionOnly, hash_number}

-- a block of the set is one of the region
pub member_inside : (s : Store) (members : List ℕ) → InRegionOnly s members → (b : ℕ) → member members b ≡ true → b < blocks s
member_inside s members inside b t = ⊎_elim (λ (l : b < blocks s). l) (λ (l : blocks s ≤ b). absurd (false≢true (sym (inside b l) ∙ t))) (below_or_above b (blocks s))

module _ (golden : List ℕ) (s : Store) (members : List ℕ) where
  abbrev unknown_from : ℕ → ℕ → Bool
  unknown_from b k = member_unknown golden s members (b + k)

  abbrev hashed_from : ℕ → ℕ → Bool
  hashed_from b k = member_hashed s.ledger members (b + k)

  -- all of the m blocks from b on that are to be hashed are signed, and they are k
  pub record Known (b m k : ℕ) : Type 0 where
    pub none : any m (unknown_from b) ≡ false
    pub counted : k ≡ count m (hashed_from b)

  -- What is answered, and what it says

  pub known_answer : {b m k : ℕ} → Known b m k → Some k ≡ hash_number golden s members b m
  unfolding hash_number
  known_answer known = rw known.none (ap Some known.counted)

  pub unknown_answer : (b m : ℕ) → any m (unknown_from b) ≡ true → None ≡ hash_number golden s members b m
  unfolding hash_number
  unknown_answer b m some = rw some refl

  pub known_most : {b m k : ℕ} → Known b m k → k ≤ m
  known_most {b} {m} {k} known = omega (arith, known.counted, count_most (hashed_from b) m)

  pub answer_unknown : (b m : ℕ) → None ≡ hash_number golden s members b m → any m (unknown_from b) ≡ true
  unfolding hash_number
  answer_unknown b m is = go (any m (unknown_from b)) refl where
    go : (t : Bool) → any m (unknown_from b) ≡ t → any m (unknown_from b) ≡ true
    go true e = e
    go false e = let z : None ≡ Some (count m (hashed_from b)) = is ∙ (rw e refl) in cc

  pub answer_known : (b m : ℕ) {k : ℕ} → Some k ≡ hash_number golden s members b m → Known b m k
  unfolding hash_number
  answer_known b m {k} is = go (any m (unknown_from b)) refl where
    go : (t : Bool) → any m (unknown_from b) ≡ t → Known b m k
    go true e = let z : Some k ≡ None = is ∙ (rw e refl) in cc
    go false e = let q : Some k ≡ Some (count m (hashed_from b)) = is ∙ (rw e refl) in record { none = e; counted = cc }

  -- More blocks

  pub known_start : (b : ℕ) → Known b 0 0
  unfolding any sum
  known_start b = record { none = refl; counted = refl }

  known_join : (b a m : ℕ) {k j : ℕ} → Known b a k → Known (b + a) m j → Known b (a + m) (k + j)
  known_join b a m first next = record {
    none = any_avoids (unknown_from b) (a + m) passed;
    counted = ap₂ ◌+◌ first.counted (next.counted ∙ sum_same _ _ m (λ i l. let e : b + a + i ≡ b + (a + i) = omega arith in ap (λ (x : ℕ). num (member_hashed s.ledger members x)) e)) ∙ sym (sum_cut (λ i. num (hashed_from b i)) a m);
  } where
    passed : (i : ℕ) → i < a + m → unknown_from b i ≡ false
    passed i l =
        ⊎_elim (λ (h : i < a). any_none (unknown_from b) a first.none i h)
        (λ (h : a ≤ i). let e : b + a + (i - a) ≡ b + i = omega arith in rw e at (any_none (unknown_from (b + a)) m next.none (i - a) (omega arith)))
        (below_or_above i a)

  -- the turn of a loop that goes on: the m blocks from c on are those behind the first a
  pub known_next : (b a c m n : ℕ) {k r : ℕ} → c ≡ b + a → n ≡ a + m → Known b a k → Some r ≡ hash_number golden s members c m → Known b n (k + r)
  known_next b a c m n at to known is = rw to (known_join b a m known (answer_known (b + a) m (rw at at is)))

  -- the turn that is the last: the m blocks from c on are among the n from b on
  pub unknown-among : (b n c m : ℕ) → b ≤ c → c + m ≤ b + n → None ≡ hash_number golden s members c m → None ≡ hash_number golden s members b n
  unknown-among b n c m low high is =
      let (i, l, t) = any_found (unknown_from c) m (answer_unknown c m is) in
      let e : c + i ≡ b + (c + i - b) = omega arith in
      unknown_answer b n (any_hit (unknown_from b) n (c + i - b) (omega arith) (rw e at t))

  -- Blocks that are not in the set

  outside_known : (b : ℕ) → member members b ≡ false → member_unknown golden s members b ≡ false
  unfolding member_unknown
  outside_known b out = rw out refl

  outside_idle : (b : ℕ) → member members b ≡ false → member_hashed s.ledger members b ≡ false
  unfolding member_hashed
  outside_idle b out = rw out refl

  none_known : (b m : ℕ) → ((k : ℕ) → k < m → member members (b + k) ≡ false) → Known b m 0
  none_known b m out = record {
    none = any_avoids (unknown_from b) m (λ k l. outside_known (b + k) (out k l));
    counted = sym (count_none (hashed_from b) m (λ k l. outside_idle (b + k) (out k l)));
  }

  pub none_answer : (b m : ℕ) → ((k : ℕ) → k < m → member members (b + k) ≡ false) → Some 0 ≡ hash_number golden s members b m
  none_answer b m out = known_answer (none_known b m out)

  -- the turn of a loop that passes blocks over
  pub known_past : (b a c m n : ℕ) {k : ℕ} → c ≡ b + a → n ≡ a + m → Known b a k → ((i : ℕ) → i < m → member members (c + i) ≡ false) → Known b n k
  known_past b a c m n {k} at to known out =
      let same : k + 0 ≡ k = omega arith in
      rw same at (known_next b a c m n at to known (none_answer c m out))

  -- those behind the region
  module _ (inside : InRegionOnly s members) where
    pub known_region : (m : ℕ) {k : ℕ} → blocks s ≤ m → Known 0 m k → Known 0 (blocks s) k
    known_region m {k} l known = record { none = any_avoids (unknown_from 0) (blocks s) (λ i h. any_none (unknown_from 0) m known.none i (omega arith)); counted = counts } where
      rest : ℕ
      rest = m - blocks s

      counts : k ≡ count (blocks s) (hashed_from 0)
      counts =
          let e : m ≡ blocks s + rest = omega arith in
          let all : k ≡ count (blocks s + rest) (hashed_from 0) = rw e at known.counted in
          let behind = count_none (λ i. hashed_from 0 (blocks s + i)) rest (λ i h. outside_idle (0 + (blocks s + i)) (inside (0 + (blocks s + i)) (omega arith))) in
          omega (arith, all, sum_cut (λ i. num (hashed_from 0 i)) (blocks s) rest, behind)

    pub unknown_region : (c m : ℕ) → None ≡ hash_number golden s members c m → None ≡ hash_number golden s members 0 (blocks s)
    unfolding member_unknown
    unknown_region c m is =
        let (i, l, t) = any_found (unknown_from c) m (answer_unknown c m is) in
        let (has, new) = and_true (member members (c + i)) (unknown golden s (base s + (c + i))) t in
        let e : c + i ≡ 0 + (c + i) = omega arith in
        unknown_answer 0 (blocks s) (any_hit (unknown_from 0) (blocks s) (c + i) (member_inside s members inside (c + i) has) (rw e at t))

  -- The whole region: what the answer says of all its blocks

  all_unknown : any (blocks s) (unknown_from 0) ≡ any (blocks s) (member_unknown golden s members)
  all_unknown = any_same (unknown_from 0) (member_unknown golden s members) (blocks s) (λ k l. ap (member_unknown golden s members) (zero-add k))

  pub region_unknown : None ≡ hash_number golden s members 0 (blocks s) → any (blocks s) (member_unknown golden s members) ≡ true
  region_unknown is = sym all_unknown ∙ answer_unknown 0 (blocks s) is

  module _ {k : ℕ} (is : Some k ≡ hash_number golden s members 0 (blocks s)) where
    pub region_known : any (blocks s) (member_unknown golden s members) ≡ false
    region_known = sym all_unknown ∙ (answer_known 0 (blocks s) is).none

    pub region_counted : k ≡ count (blocks s) (member_hashed s.ledger members)
    region_counted = (answer_known 0 (blocks s) is).counted ∙ sum_same _ _ (blocks s) (λ k l. ap (λ (x : ℕ). num (member_hashed s.ledger members x)) (zero-add k))

  -- One block

  module _ (b : ℕ) where
    one : hash_number golden s members b 1 ≡ cond (member_unknown golden s members b) None (Some (num (member_hashed s.ledger members b)))
    unfolding hash_number any sum
    one = rw (add-zero b, zero-add) refl

    pub block_out : member members b ≡ false → Some 0 ≡ hash_number golden s members b 1
    block_out out = none_answer b 1 (λ k l. let e : b + k ≡ b = omega arith in rw e out)

    module _ (has : member members b ≡ true) where
      at_block : base s + b - base s ≡ b
      at_block = omega arith

      pub block_marked : eqb (record_word s.ledger mark_word b) mark_value ≡ true → Some 0 ≡ hash_number golden s members b 1
      unfolding member_unknown member_hashed unknown num
      block_marked marked = sym (one ∙ (rw (has, at_block, marked) refl))

      module _ (new : eqb (record_word s.ledger mark_word b) mark_value ≡ false) where
        pub block_signed : signed_block golden (base s) s.memory (base s + b) ≡ true → Some 1 ≡ hash_number golden s members b 1
        unfolding member_unknown member_hashed unknown num
        block_signed signs = sym (one ∙ (rw (has, signs, at_block, new) refl))

        pub block_unsigned : signed_block golden (base s) s.memory (base s + b) ≡ false → None ≡ hash_number golden s members b 1
        unfolding member_unknown member_hashed unknown num
        block_unsigned fails = sym (one ∙ (rw (has, fails, at_block, new) refl))
