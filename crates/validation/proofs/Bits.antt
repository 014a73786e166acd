-- Laws of a set of blocks in bits: a block joins the set, and no other.
use mathlib.Core.Bool.{Bool, true, false, not, ◌||◌, or-false, or_assoc}
use mathlib.Core.List.{List}
use mathlib.Core.Logic.{⊎_elim}
use mathlib.Core.Path.{◌≡◌, refl, sym, ◌∙◌, ap}
use Prim.Native.Nat.{ℕ, ◌+◌, ◌*◌, ◌/◌, ◌%◌, ◌^◌, ◌<◌, ◌≤◌}
use native.Mathlib.Omega.{arith}
use lib.Bits.{bit_or}
use lib.Dec.{eqb}
use lib.ListN.{length, get_or, set, replicate, length-replicate, get_or-replicate, get_or-eq_default}
use lib.Seq.{get_or-set_same, get_or-set_other}
use borrow.Author.Tests.{eq-eqb, ne_eqb, eqb-true, eqb-false}
use Rattle.words.specs.Bounded.{among, any}
use Rattle.words.proofs.Bounded.{both_ways, below_or_above, or_left, or_right, or_cases, any_none, among_in, among_out, among_within}
use Rattle.validation.specs.Sets.{is_set, member, EmptySet}

-- two tests differ
abbrev differs : Bool → Bool → Bool
differs true b = not b
differs false b = b

agree : (a b : Bool) → differs a b ≡ false → a ≡ b
agree true true e = refl
agree true false e = e
agree false b e = sym e

-- one bit of a byte is set: computed for every byte and every two bits
abbrev wrong : ℕ → ℕ → ℕ → Bool
wrong x i k = differs (is_set (bit_or x (1 * 2 ^ i % 2 ^ 8)) k) (is_set x k || eqb i k)

none_wrong : any 256 (λ x. any 8 (λ i. any 8 (wrong x i))) ≡ false
unfolding any
none_wrong = refl

pub bit_set : (x i : ℕ) → x < 256 → i < 8 → (k : ℕ) → k < 8 → is_set (bit_or x (1 * 2 ^ i % 2 ^ 8)) k ≡ (is_set x k || eqb i k)
bit_set x i hx hi k hk = agree _ _ (any_none (wrong x i) 8 (any_none (λ i. any 8 (wrong x i)) 8 (any_none (λ x. any 8 (λ i. any 8 (wrong x i))) 256 none_wrong x hx) i hi) k hk)

-- two blocks of one byte
same_block : (b k : ℕ) → k / 8 ≡ b / 8 → eqb (b % 8) (k % 8) ≡ eqb b k
same_block b k e =
    both_ways (eqb (b % 8) (k % 8)) (eqb b k)
    (λ t. let q = eqb-true (b % 8) (k % 8) t in eq-eqb b k (omega arith))
    (λ t. let q = eqb-true b k t in eq-eqb (b % 8) (k % 8) (omega arith))

-- the byte of block b becomes y, with the block's bit set
module _ (members : List ℕ) (b y : ℕ) (joined : (k : ℕ) → k < 8 → is_set y k ≡ (is_set (get_or members (b / 8) 0) k || eqb (b % 8) k)) (inside : b < 8 * length members) where
  pub insert_joins : (k : ℕ) → member (set members (b / 8) y) k ≡ (member members k || eqb b k)
  unfolding member
  insert_joins k = go (eqb (k / 8) (b / 8)) refl where
    go : (t : Bool) → eqb (k / 8) (b / 8) ≡ t → member (set members (b / 8) y) k ≡ (member members k || eqb b k)
    go true t =
        let e = eqb-true (k / 8) (b / 8) t in
        rw (e, get_or-set_same members (b / 8) y 0 (omega arith), ← same_block b k e) (joined (k % 8) (omega arith))
    go false t =
        let h = eqb-false (k / 8) (b / 8) t in
        rw (get_or-set_other members (b / 8) (k / 8) y 0 h, ne_eqb b k (λ q. h (omega arith)))
        (sym (or-false (is_set (get_or members (k / 8) 0) (k % 8))))

-- a set with no bit set has no block
zero_bits : any 8 (λ i. is_set 0 i) ≡ false
unfolding any
zero_bits = refl

-- nor has a byte that is 0
pub byte_empty : (members : List ℕ) (i : ℕ) → get_or members i 0 ≡ 0 → (k : ℕ) → k < 8 → member members (8 * i + k) ≡ false
unfolding member
byte_empty members i h k l =
    let e : (8 * i + k) / 8 ≡ i = omega arith in
    rw (e, h) (any_none (λ i. is_set 0 i) 8 zero_bits ((8 * i + k) % 8) (omega arith))

no_members : (n b : ℕ) → b < 8 * n → member (replicate n 0) b ≡ false
unfolding member
no_members n b h = rw (get_or-replicate {A = ℕ} n (b / 8) 0 0 (omega arith)) (any_none (λ i. is_set 0 i) 8 zero_bits (b % 8) (omega arith))

-- nor behind the last bit
pub empty_set : (n : ℕ) → EmptySet (replicate n 0)
unfolding member
empty_set n b =
    ⊎_elim (λ (l : b < 8 * n). no_members n b l)
    (λ (l : 8 * n ≤ b). rw (get_or-eq_default {A = ℕ} (replicate n 0) 0 {n = b / 8} (rw (length-replicate {A = ℕ} n 0) (omega arith))) (any_none (λ i. is_set 0 i) 8 zero_bits (b % 8) (omega arith)))
    (below_or_above b (8 * n))

-- the turns of a loop by which the blocks from b on join the set
pub members_start : (members : List ℕ) (b k : ℕ) → member members k ≡ (member members k || among b 0 k)
members_start members b k = rw (among_out b 0 k (λ l. omega arith)) (sym (or-false (member members k)))

pub members_next : (members now after : List ℕ) (b i : ℕ) → ((k : ℕ) → member now k ≡ (member members k || among b i k)) → ((k : ℕ) → member after k ≡ (member now k || eqb (b + i) k))
    → (k : ℕ) → member after k ≡ (member members k || among b (i + 1) k)
members_next members now after b i before one k = one k ∙ (rw (before k) (or_assoc (member members k) (among b i k) (eqb (b + i) k) ∙ ap (λ (t : Bool). member members k || t) (sym more))) where
  more : among b (i + 1) k ≡ (among b i k || eqb (b + i) k)
  more =
      both_ways (among b (i + 1) k) (among b i k || eqb (b + i) k)
      (λ t. let (lo, hi) = among_within b (i + 1) k t in
      ⊎_elim (λ (l : k < b + i). or_left (among b i k) (eqb (b + i) k) (among_in b i k lo l)) (λ (l : b + i ≤ k). or_right (among b i k) (eqb (b + i) k) (eq-eqb (b + i) k (omega arith))) (below_or_above k (b + i)))
      (λ t. ⊎_elim (λ u. let (lo, hi) = among_within b i k u in among_in b (i + 1) k lo (omega arith)) (λ u. let q = eqb-true (b + i) k u in among_in b (i + 1) k (omega arith) (omega arith)) (or_cases (among b i k) (eqb (b + i) k) t))
