-- What a word means does not depend on its memory kind (entries 23): the bits that are read of it, its form, AP, XN and place, lie beside those of
-- the kind.
use mathlib.Core.Bool.{Bool, true, false, cond}
use mathlib.Core.List.{List}
use mathlib.Core.Logic.{◌≢◌}
use mathlib.Core.Path.{◌≡◌, refl, sym, ◌∙◌, ap}
use Prim.Native.Nat.{ℕ, ◌+◌, ◌*◌, ◌/◌, ◌%◌, ◌^◌, ◌<◌, ◌≤◌}
use native.Mathlib.Omega.{arith}
use lib.Dec.{eqb}
use borrow.Author.Tests.{eqb-true}
use Rattle.words.specs.Words.{bits, put_bits, word}
use Rattle.words.proofs.Fields.{bits_put_above, bits_put_below}
use Rattle.entries.specs.Entries.{section, page, large, l1, l2, section_blocks, large_blocks, is_link_form, is_section_form, is_page_form, is_large_form, l1_entry, l2_entry, run_words, run_word, is_run, entry_at}
use Rattle.entries.specs.Written.{page_tex, section_tex, large_tex, page_s, section_s, large_s, written_ap, written_xn, page_bits, section_bits, large_bits, word_of, put_kind, with_kind, KindsApart}
use Rattle.entries.proofs.Decoding.{no_large, l2_entry_alone, is_run_all, is_run-word}

-- the m bits from bit j on lie below or above the n bits from bit lo on
data Beside (j m lo n : ℕ) : Type 0 where
  under : j + m ≤ lo → Beside j m lo n
  over : n + lo ≤ j → Beside j m lo n

module _ (tex s kind w : ℕ) where
  -- such bits of a word are the same with another kind
  kept : (j m : ℕ) → Beside j m 2 2 → Beside j m tex 3 → Beside j m s 2 → bits (put_kind tex s kind w) j m ≡ bits w j m
  kept j m a b c = put _ _ _ _ c ∙ put _ _ _ _ b ∙ put w 2 2 (bits kind 0 2) a where
    put : (v lo n u : ℕ) → Beside j m lo n → bits (put_bits v lo n u) j m ≡ bits v j m
    put v lo n u (under h) = bits_put_below v lo n u j m h
    put v lo n u (over h) = bits_put_above v lo n u j m h

-- a section: 1..0, 4, 9..5, 11..10, 15, 19..18 and 31..20 are read
module _ (kind w : ℕ) where
  section_kept : (j m : ℕ) → Beside j m 2 2 → Beside j m section_tex 3 → Beside j m section_s 2 → bits (put_kind section_tex section_s kind w) j m ≡ bits w j m
  section_kept = kept section_tex section_s kind w

  section_same : bits w 0 2 ≡ 0b10 → l1_entry (put_kind section_tex section_s kind w) ≡ l1_entry w
  unfolding l1_entry is_link_form is_section_form
  section_same h =
      rw (
        section_kept 0 2 (under (omega arith)) (under (omega arith)) (under (omega arith)),
        section_kept 4 1 (over (omega arith)) (under (omega arith)) (under (omega arith)),
        section_kept 5 5 (over (omega arith)) (under (omega arith)) (under (omega arith)),
        section_kept 10 2 (over (omega arith)) (under (omega arith)) (under (omega arith)),
        section_kept 15 1 (over (omega arith)) (over (omega arith)) (under (omega arith)),
        section_kept 18 2 (over (omega arith)) (over (omega arith)) (over (omega arith)),
        section_kept 20 12 (over (omega arith)) (over (omega arith)) (over (omega arith)),
        h,
      ) refl

  l1_same : l1_entry (with_kind l1 kind w) ≡ l1_entry w
  unfolding with_kind
  l1_same = go (eqb (bits w 0 2) 0b10) refl where
    go : (t : Bool) → eqb (bits w 0 2) 0b10 ≡ t → l1_entry (cond t (put_kind section_tex section_s kind w) w) ≡ l1_entry w
    go true e = section_same (eqb-true (bits w 0 2) 0b10 e)
    go false e = refl

-- a page: 1..0, 5..4, 9 and 31..12 are read; a word with bit 1 has not the form of a large page
module _ (kind w : ℕ) (run : Bool) (k : ℕ) where
  page_kept : (j m : ℕ) → Beside j m 2 2 → Beside j m page_tex 3 → Beside j m page_s 2 → bits (put_kind page_tex page_s kind w) j m ≡ bits w j m
  page_kept = kept page_tex page_s kind w

  page_same : bits w 1 1 ≡ 1 → l2_entry run k (put_kind page_tex page_s kind w) ≡ l2_entry run k w
  unfolding l2_entry is_page_form
  page_same h =
      let low = page_kept 0 2 (under (omega arith)) (under (omega arith)) (under (omega arith)) in
      rw (
        no_large (put_kind page_tex page_s kind w) (λ z. let one : bits w 0 2 ≡ 0b01 = sym low ∙ z in omega arith),
        no_large w (λ z. omega arith),
        low,
        page_kept 0 1 (under (omega arith)) (under (omega arith)) (under (omega arith)),
        page_kept 1 1 (under (omega arith)) (under (omega arith)) (under (omega arith)),
        page_kept 4 2 (over (omega arith)) (under (omega arith)) (under (omega arith)),
        page_kept 9 1 (over (omega arith)) (over (omega arith)) (under (omega arith)),
        page_kept 12 20 (over (omega arith)) (over (omega arith)) (over (omega arith)),
      ) refl

  -- a large page: 1..0, 5..4, 8..6, 9, 15 and 31..16 are read
  large_kept : (j m : ℕ) → Beside j m 2 2 → Beside j m large_tex 3 → Beside j m large_s 2 → bits (put_kind large_tex large_s kind w) j m ≡ bits w j m
  large_kept = kept large_tex large_s kind w

  large_same : bits w 0 2 ≡ 0b01 → l2_entry run k (put_kind large_tex large_s kind w) ≡ l2_entry run k w
  unfolding l2_entry is_page_form is_large_form
  large_same h =
      let one = large_kept 1 1 (under (omega arith)) (under (omega arith)) (under (omega arith)) in
      let none : bits w 1 1 ≡ 0 = omega arith in
      rw (
        one,
        none,
        large_kept 0 2 (under (omega arith)) (under (omega arith)) (under (omega arith)),
        large_kept 4 2 (over (omega arith)) (under (omega arith)) (under (omega arith)),
        large_kept 6 3 (over (omega arith)) (under (omega arith)) (under (omega arith)),
        large_kept 9 1 (over (omega arith)) (under (omega arith)) (under (omega arith)),
        large_kept 15 1 (over (omega arith)) (over (omega arith)) (over (omega arith)),
        large_kept 16 16 (over (omega arith)) (over (omega arith)) (over (omega arith)),
      ) refl

  l2_same : l2_entry run k (with_kind l2 kind w) ≡ l2_entry run k w
  unfolding with_kind
  l2_same = go (eqb (bits w 1 1) 1) (eqb (bits w 0 2) 0b01) refl refl where
    go : (t u : Bool) → eqb (bits w 1 1) 1 ≡ t → eqb (bits w 0 2) 0b01 ≡ u
        → l2_entry run k (cond t (put_kind page_tex page_s kind w) (cond u (put_kind large_tex large_s kind w) w)) ≡ l2_entry run k w
    go true u e f = page_same (eqb-true (bits w 1 1) 1 e)
    go false true e f = large_same (eqb-true (bits w 0 2) 0b01 f)
    go false false e f = refl

-- a word without the low bits of a large page stands by itself
alone_same : (kind : ℕ) (mem after : List ℕ) (j : ℕ) → bits (word mem (4 * j)) 0 2 ≢ 0b01 → word after (4 * j) ≡ with_kind l2 kind (word mem (4 * j))
    → entry_at l2 after j ≡ entry_at l2 mem j
unfolding entry_at
alone_same kind mem after j h own =
    let w = word mem (4 * j) in
    let k = j % run_words in
    rw own (l2_same kind w (is_run after j) k ∙ l2_entry_alone w (is_run after j) (is_run mem j) k k h)

-- sixteen words that were equal are equal with one kind
run_same : (kind : ℕ) (mem after : List ℕ) (j : ℕ) → is_run mem j ≡ true → ((k : ℕ) → k < run_words → run_word after j k ≡ with_kind l2 kind (run_word mem j k))
    → entry_at l2 after j ≡ entry_at l2 mem j
unfolding entry_at
run_same kind mem after j h each =
    let at : run_words * (j / run_words) + j % run_words ≡ j = omega arith in
    let own : word after (4 * j) ≡ with_kind l2 kind (word mem (4 * j)) = rw at at (each (j % run_words) (omega arith)) in
    let still : is_run after j ≡ true = is_run_all after j (λ k l. each k l ∙ ap (with_kind l2 kind) (is_run-word mem j h k l) ∙ sym own) in
    rw (own, still, h) (l2_same kind (word mem (4 * j)) true (j % run_words))

-- What is written with one kind becomes, with another, what is written with that one

-- a word by its fields B and C, TEX, S and nG: where each can be put by itself, a kind can
module _ (fields : ℕ → ℕ → ℕ → ℕ) (tex s : ℕ)
    (put-bc : (bc t g u : ℕ) → bc < 4 → t < 8 → g < 4 → put_bits (fields bc t g) 2 2 u ≡ fields (u % 4) t g)
    (put-tex : (bc t g u : ℕ) → bc < 4 → t < 8 → g < 4 → put_bits (fields bc t g) tex 3 u ≡ fields bc (u % 8) g)
    (put_s : (bc t g u : ℕ) → bc < 4 → t < 8 → g < 4 → put_bits (fields bc t g) s 2 u ≡ fields bc t (u % 4)) where
  put_kind_lem : (k kind : ℕ) → put_kind tex s kind (fields (bits k 0 2) (bits k 2 3) (bits k 5 2)) ≡ fields (bits kind 0 2) (bits kind 2 3) (bits kind 5 2)
  put_kind_lem k kind =
      let bc : bits kind 0 2 % 4 ≡ bits kind 0 2 = omega arith in
      let t : bits kind 2 3 % 8 ≡ bits kind 2 3 = omega arith in
      let g : bits kind 5 2 % 4 ≡ bits kind 5 2 = omega arith in
      rw (
        put-bc (bits k 0 2) (bits k 2 3) (bits k 5 2) (bits kind 0 2) (omega arith) (omega arith) (omega arith),
        bc,
        put-tex (bits kind 0 2) (bits k 2 3) (bits k 5 2) (bits kind 2 3) (omega arith) (omega arith) (omega arith),
        t,
        put_s (bits kind 0 2) (bits kind 2 3) (bits k 5 2) (bits kind 5 2) (omega arith) (omega arith) (omega arith),
        g,
      ) refl

-- the words of the three forms by these fields, the number q of their place, AP x and XN n
module _ (q x n : ℕ) where
  page_fields : ℕ → ℕ → ℕ → ℕ
  page_fields bc t g = 2 ^ 12 * q + (2 ^ 2 * bc + 2 ^ 6 * t + 2 ^ 10 * g + 2 ^ 4 * x + 2 + n)

  section_fields : ℕ → ℕ → ℕ → ℕ
  section_fields bc t g = 2 ^ 20 * q + (2 ^ 2 * bc + 2 ^ 12 * t + 2 ^ 16 * g + 2 ^ 10 * x + 2 ^ 4 * n + 2)

  large_fields : ℕ → ℕ → ℕ → ℕ
  large_fields bc t g = 2 ^ 16 * q + (2 ^ 2 * bc + 2 ^ 12 * t + 2 ^ 10 * g + 2 ^ 4 * x + 2 ^ 15 * n + 1)

  module _ (bc t g : ℕ) (hn : n < 2) where
    page_form : bits (page_fields bc t g) 1 1 ≡ 1
    unfolding page_fields
    page_form = omega arith

    section_form : bits (section_fields bc t g) 0 2 ≡ 0b10
    unfolding section_fields
    section_form = omega arith

    large_form : (bits (large_fields bc t g) 0 2 ≡ 0b01) × (bits (large_fields bc t g) 1 1 ≡ 0)
    unfolding large_fields
    large_form = (omega arith, omega arith)

  module _ (hx : x < 4) (hn : n < 2) (k kind : ℕ) where
    page_put : put_kind page_tex page_s kind (page_fields (bits k 0 2) (bits k 2 3) (bits k 5 2)) ≡ page_fields (bits kind 0 2) (bits kind 2 3) (bits kind 5 2)
    unfolding page_fields put_bits
    page_put = put_kind_lem page_fields page_tex page_s (λ bc t g u a b c. omega arith) (λ bc t g u a b c. omega arith) (λ bc t g u a b c. omega arith) k kind

    section_put : put_kind section_tex section_s kind (section_fields (bits k 0 2) (bits k 2 3) (bits k 5 2)) ≡ section_fields (bits kind 0 2) (bits kind 2 3) (bits kind 5 2)
    unfolding section_fields put_bits
    section_put = put_kind_lem section_fields section_tex section_s (λ bc t g u a b c. omega arith) (λ bc t g u a b c. omega arith) (λ bc t g u a b c. omega arith) k kind

    large_put : put_kind large_tex large_s kind (large_fields (bits k 0 2) (bits k 2 3) (bits k 5 2)) ≡ large_fields (bits kind 0 2) (bits kind 2 3) (bits kind 5 2)
    unfolding large_fields put_bits
    large_put = put_kind_lem large_fields large_tex large_s (λ bc t g u a b c. omega arith) (λ bc t g u a b c. omega arith) (λ bc t g u a b c. omega arith) k kind

-- AP has two bits, and XN one
pub ap_bound : (r : ℕ) → written_ap r < 4
ap_bound r = go (eqb (bits r 1 1) 1) (eqb (bits r 0 1) 1) where
  go : (t u : Bool) → cond t 0b011 (cond u 0b010 0b001) < 4
  go true u = omega arith
  go false true = omega arith
  go false false = omega arith

xn_bound : (r : ℕ) → written_xn r < 2
xn_bound r = omega arith

-- a written word by its fields
module _ (b r kind : ℕ) where
  page_is : word_of kind (page b r) ≡ page_fields b (written_ap r) (written_xn r) (bits kind 0 2) (bits kind 2 3) (bits kind 5 2)
  unfolding word_of page_bits page_fields
  page_is = omega arith

  section_is : b % section_blocks ≡ 0 → word_of kind (section b r) ≡ section_fields (b / section_blocks) (written_ap r) (written_xn r) (bits kind 0 2) (bits kind 2 3) (bits kind 5 2)
  unfolding word_of section_bits section_fields
  section_is h = omega arith

  large_is : word_of kind (large b r) ≡ large_fields (b / large_blocks) (written_ap r) (written_xn r) (bits kind 0 2) (bits kind 2 3) (bits kind 5 2)
  unfolding word_of large_bits large_fields
  large_is = omega arith

module _ (k kind b r : ℕ) where
  pub page_with_kind : with_kind l2 kind (word_of k (page b r)) ≡ word_of kind (page b r)
  unfolding with_kind
  page_with_kind =
      rw (
        page_is b r k,
        page_is b r kind,
        page_form b (written_ap r) (written_xn r) (bits k 0 2) (bits k 2 3) (bits k 5 2) (xn_bound r),
      ) (page_put b (written_ap r) (written_xn r) (ap_bound r) (xn_bound r) k kind)

  pub large_with_kind : with_kind l2 kind (word_of k (large b r)) ≡ word_of kind (large b r)
  unfolding with_kind
  large_with_kind =
      let (one, none) = large_form (b / large_blocks) (written_ap r) (written_xn r) (bits k 0 2) (bits k 2 3) (bits k 5 2) (xn_bound r) in
      rw (large_is b r k, large_is b r kind, none, one) (large_put (b / large_blocks) (written_ap r) (written_xn r) (ap_bound r) (xn_bound r) k kind)

  pub section_with_kind : b % section_blocks ≡ 0 → with_kind l1 kind (word_of k (section b r)) ≡ word_of kind (section b r)
  unfolding with_kind
  section_with_kind h =
      rw (
        section_is b r k h,
        section_is b r kind h,
        section_form (b / section_blocks) (written_ap r) (written_xn r) (bits k 0 2) (bits k 2 3) (bits k 5 2) (xn_bound r),
      ) (section_put (b / section_blocks) (written_ap r) (written_xn r) (ap_bound r) (xn_bound r) k kind)

-- the named theorem, entries 23
pub kinds_apart : KindsApart
kinds_apart = record { at_l1 = l1_same; at_l2 = l2_same; alone = alone_same; in_run = run_same }
