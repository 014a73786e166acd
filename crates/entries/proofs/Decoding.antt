-- Laws of reading entries: the form of its word decides an entry, and the table or the whole word has the rights of an L2 word. On its neighbours only the
-- form of a large page depends, and only on the aligned sixteen words around it.
use mathlib.Core.Path.{◌≡◌, refl, sym, ◌∙◌, ap, ap₂}
use mathlib.Core.Bool.{Bool, true, false, cond, not, ◌&&◌, false≢true}
use mathlib.Core.List.{List}
use mathlib.Core.Logic.{◌⊎◌, ◌≢◌, ⊎_elim, inl}
use Prim.Native.Nat.{ℕ, ◌+◌, ◌*◌, ◌/◌, ◌%◌, ◌≤◌, ◌<◌}
use native.Mathlib.Omega.{arith}
use lib.Dec.{eqb}
use borrow.Author.Tests.{eqb-true, ne_eqb, not-true, not-false}
use Rattle.words.specs.Bounded.{neqb, num}
use Rattle.words.specs.Words.{bits, word}
use Rattle.words.proofs.Bounded.{and_true, and_true_left, any_none, any_avoids, any_hit, any_same, differ, same, below_or_above}
use Rattle.words.proofs.Fields.{bits_low}
use Rattle.entries.specs.Rights.{accepted_ap, may_read, may_write, may_execute, rights_of}
use Rattle.entries.specs.Entries.{Entry, fault, unaccepted, link, section, page, large, Level, l1, l2, section_ap, section_xn, page_ap, page_xn, large_xn, is_link_form, is_section_form, is_page_form, is_large_form, l1_entry, l2_entry, run_words, run_word, is_run, entry_at, code_of, word_code, whole_word, page_code, is_fault, is_unaccepted, is_link, is_section, is_page, is_large, section_blocks, large_blocks}
use Rattle.entries.specs.Needs.{accepted_at, has_page_bit}
use Rattle.entries.proofs.Covers.{stands_alone}

-- Words of level 2

-- rights fill three bits
pub rights_of_bound : (ap xn : ℕ) → rights_of ap xn < 8
unfolding rights_of num
rights_of_bound ap xn = omega (arith, num_bound (may_read ap), num_bound (may_write ap), num_bound (may_execute ap xn)) where
  num_bound : (t : Bool) → num t < 2
  num_bound true = omega arith
  num_bound false = omega arith

-- bits 1..0 tell the forms apart
pub page_form_bit : (w : ℕ) → is_page_form w ≡ true → bits w 1 1 ≡ 1
unfolding is_page_form
page_form_bit w h = eqb-true (bits w 1 1) 1 (and_true_left (eqb (bits w 1 1) 1) (accepted_ap (page_ap w)) h)

large_form_bits : (w : ℕ) → is_large_form w ≡ true → bits w 0 2 ≡ 0b01
unfolding is_large_form
large_form_bits w h =
    let form = eqb (bits w 0 2) 0b01 in
    let zeros = eqb (bits w 6 3) 0 in
    eqb-true (bits w 0 2) 0b01 (and_true_left form zeros (and_true_left (form && zeros) (accepted_ap (page_ap w)) h))

pub page_bit : (w : ℕ) → bits w 0 2 ≢ 0b00 → bits w 0 2 ≢ 0b01 → bits w 1 1 ≡ 1
page_bit w h k =
    ⊎_elim
    (λ (l : bits w 0 2 < 2). ⊎_elim (λ (m : bits w 0 2 < 1). absurd (h (omega arith))) (λ (m : 1 ≤ bits w 0 2). absurd (k (omega arith))) (below_or_above (bits w 0 2) 1))
    (λ (l : 2 ≤ bits w 0 2). omega arith)
    (below_or_above (bits w 0 2) 2)

no_page : (w : ℕ) → bits w 1 1 ≢ 1 → is_page_form w ≡ false
unfolding is_page_form
no_page w h = rw (ne_eqb (bits w 1 1) 1 h)

pub no_large : (w : ℕ) → bits w 0 2 ≢ 0b01 → is_large_form w ≡ false
unfolding is_large_form
no_large w h = rw (ne_eqb (bits w 0 2) 0b01 h)

-- an L2 word that is no fault, by its tests, its places and rights
by_tests : ℕ → ℕ → ℕ → ℕ → Bool → Bool → Bool → Entry
by_tests p q b r is_page is_large run = cond is_page (page p q) (cond (is_large && run) (large b r) unaccepted)

-- its page rights, where it has the low bits of a page, or of a large page
module _ (p q b r : ℕ) where
  code_of_page : (t : Bool) → code_of (by_tests p q b r t false true) ≡ cond t (8 + q) 7
  unfolding by_tests code_of
  code_of_page true = refl
  code_of_page false = refl

  code_of_large : (t : Bool) → code_of (by_tests p q b r false t true) ≡ cond t (8 + r) 7
  unfolding by_tests code_of
  code_of_large true = refl
  code_of_large false = refl

module _ (w : ℕ) where
  abbrev first : ℕ
  first = large_blocks * bits w 16 16

  abbrev tests : Bool → Bool → Bool → ℕ → Entry
  tests is_page is_large run k = by_tests (bits w 12 20) (rights_of (page_ap w) (page_xn w)) (first + k) (rights_of (page_ap w) (large_xn w)) is_page is_large run

  by_tests_lem : (run : Bool) (k : ℕ) → bits w 0 2 ≢ 0 → l2_entry run k w ≡ tests (is_page_form w) (is_large_form w) run k
  unfolding l2_entry by_tests
  by_tests_lem run k h = rw (ne_eqb (bits w 0 2) 0 h) refl

  by_page_tests : (run : Bool) (k : ℕ) → bits w 1 1 ≡ 1 → l2_entry run k w ≡ tests (is_page_form w) false run k
  by_page_tests run k h = rw (no_large w (λ z. omega arith)) at (by_tests_lem run k (λ z. omega arith))

  by_large_tests : (run : Bool) (k : ℕ) → bits w 0 2 ≡ 0b01 → l2_entry run k w ≡ tests false (is_large_form w) run k
  by_large_tests run k h = rw (no_page w (λ z. omega arith)) at (by_tests_lem run k (λ z. omega arith))

  -- the page rights of a whole word, by its low bits
  pub word_code_fault : bits w 0 2 ≡ 0b00 → word_code w ≡ 0
  unfolding word_code l2_entry code_of
  word_code_fault h = rw h refl

  word_code_page : bits w 1 1 ≡ 1 → word_code w ≡ cond (is_page_form w) (8 + rights_of (page_ap w) (page_xn w)) 7
  unfolding word_code
  word_code_page h = ap code_of (by_page_tests true 0 h) ∙ code_of_page _ _ (first + 0) (rights_of (page_ap w) (large_xn w)) (is_page_form w)

  pub word_code_large : bits w 0 2 ≡ 0b01 → word_code w ≡ cond (is_large_form w) (8 + rights_of (page_ap w) (large_xn w)) 7
  unfolding word_code
  word_code_large h = ap code_of (by_large_tests true 0 h) ∙ code_of_large (bits w 12 20) (rights_of (page_ap w) (page_xn w)) (first + 0) _ (is_large_form w)

  -- so of a word with the form of a page they are 8 and its rights
  pub word_code_page_form : is_page_form w ≡ true → word_code w ≡ 8 + rights_of (page_ap w) (page_xn w)
  word_code_page_form h = rw h at (word_code_page (page_form_bit w h))

  -- an L2 entry by its form
  module _ (k : ℕ) where
    pub l2_entry_page : (run : Bool) → is_page_form w ≡ true → l2_entry run k w ≡ page (bits w 12 20) (rights_of (page_ap w) (page_xn w))
    unfolding l2_entry
    l2_entry_page run h = let one = page_form_bit w h in rw (ne_eqb (bits w 0 2) 0 (λ z. omega arith), h) refl

    pub l2_entry_large : is_large_form w ≡ true → l2_entry true k w ≡ large (first + k) (rights_of (page_ap w) (large_xn w))
    unfolding l2_entry
    l2_entry_large h =
        let one = large_form_bits w h in
        rw (ne_eqb (bits w 0 2) 0 (λ z. omega arith), no_page w (λ z. omega arith), h) refl

    l2_entry_neither : (run : Bool) → bits w 0 2 ≢ 0b00 → is_page_form w ≡ false → (is_large_form w && run) ≡ false → l2_entry run k w ≡ unaccepted
    unfolding l2_entry
    l2_entry_neither run h p q = rw (ne_eqb (bits w 0 2) 0 h, p, q) refl

  -- without the low bits of a large page its neighbours and its position do not matter
  pub l2_entry_alone : (run other : Bool) (k l : ℕ) → bits w 0 2 ≢ 0b01 → l2_entry run k w ≡ l2_entry other l w
  unfolding l2_entry
  l2_entry_alone run other k l h = rw (no_large w h) refl

-- the table has the page rights of every word with the low bits of a page
pub page_code-word : (w : ℕ) → bits w 1 1 ≡ 1 → page_code (bits w 0 10) ≡ word_code w
unfolding page_code is_page_form
page_code-word w h =
    let low = bits w 0 10 in
    let one : bits low 1 1 ≡ 1 = bits_low w 1 1 10 (omega arith) ∙ h in
    rw (
      ne_eqb (bits low 0 2) 0b01 (λ z. omega arith),
      word_code_page low one,
      word_code_page w h,
      bits_low w 1 1 10 (omega arith),
      bits_low w 9 1 10 (omega arith),
      bits_low w 4 2 10 (omega arith),
      bits_low w 0 1 10 (omega arith),
    ) refl

-- the number of a page by AP and XN, the binary digits of n
unfoldable pub access_code : ℕ → ℕ
access_code n = cond (accepted_ap (n / 2)) (8 + rights_of (n / 2) (n % 2)) 7

pub page_code_page : (low r n : ℕ) → bits low 1 1 ≡ 1 → r ≡ 2 * page_ap low + page_xn low → r ≡ n → access_code n ≡ page_code low
unfolding access_code page_code is_page_form
page_code_page low r n h e k =
    let ap : page_ap low ≡ n / 2 = omega arith in
    let xn : page_xn low ≡ n % 2 = omega arith in
    rw (ne_eqb (bits low 0 2) 0b01 (λ z. omega arith), word_code_page low h, h, ap, xn) refl

-- page rights fit half a byte
pub page_code_bound : (low : ℕ) → page_code low < 16
unfolding page_code word_code l2_entry code_of
page_code_bound low =
    each (eqb (bits low 0 2) 0b01) (eqb (bits low 0 2) 0b00) (is_page_form low) (is_large_form low && true) _ _
    (rights_of_bound (page_ap low) (page_xn low)) (rights_of_bound (page_ap low) (large_xn low)) where
      each : (s t u v : Bool) (p b : ℕ) {q r : ℕ} → q < 8 → r < 8 → cond s whole_word (code_of (cond t fault (cond u (page p q) (cond v (large b r) unaccepted)))) < 16
      each true t u v p b h k = omega arith
      each false true u v p b h k = omega arith
      each false false true v p b h k = omega arith
      each false false false true p b h k = omega arith
      each false false false false p b h k = omega arith

-- the form and the rights of a page stand in its low twelve bits, those of a large page in its low sixteen
pub is_page_form_low : (w : ℕ) → is_page_form (bits w 0 12) ≡ is_page_form w
unfolding is_page_form
is_page_form_low w = rw (bits_low w 1 1 12 (omega arith), bits_low w 9 1 12 (omega arith), bits_low w 4 2 12 (omega arith)) refl

pub page_rights_low : (w : ℕ) → rights_of (page_ap (bits w 0 12)) (page_xn (bits w 0 12)) ≡ rights_of (page_ap w) (page_xn w)
page_rights_low w = rw (bits_low w 9 1 12 (omega arith), bits_low w 4 2 12 (omega arith), bits_low w 0 1 12 (omega arith)) refl

pub is_large_form_low : (w : ℕ) → is_large_form (bits w 0 16) ≡ is_large_form w
unfolding is_large_form
is_large_form_low w =
    rw (bits_low w 0 2 16 (omega arith), bits_low w 6 3 16 (omega arith), bits_low w 9 1 16 (omega arith), bits_low w 4 2 16 (omega arith)) refl

pub large_rights_low : (w : ℕ) → rights_of (page_ap (bits w 0 16)) (large_xn (bits w 0 16)) ≡ rights_of (page_ap w) (large_xn w)
large_rights_low w = rw (bits_low w 9 1 16 (omega arith), bits_low w 4 2 16 (omega arith), bits_low w 15 1 16 (omega arith)) refl

-- Words of level 1

-- an L1 entry by its form: the forms differ in bits 1..0
pub l1_entry_link : (w : ℕ) → is_link_form w ≡ true → l1_entry w ≡ link (bits w 10 22)
unfolding l1_entry is_link_form
l1_entry_link w h =
    let form = eqb-true (bits w 0 2) 0b01 (and_true (eqb (bits w 0 2) 0b01) (eqb (bits w 2 8) 0) h).0 in
    rw (h, form)

pub l1_entry_section : (w : ℕ) → is_section_form w ≡ true → l1_entry w ≡ section (section_blocks * bits w 20 12) (rights_of (section_ap w) (section_xn w))
unfolding l1_entry is_link_form is_section_form
l1_entry_section w h = go (eqb (bits w 0 2) 0b10) refl where
  go : (t : Bool) → eqb (bits w 0 2) 0b10 ≡ t → l1_entry w ≡ section (section_blocks * bits w 20 12) (rights_of (section_ap w) (section_xn w))
  go true e = rw (h, eqb-true (bits w 0 2) 0b10 e)
  go false e = absurd (false≢true (rw e at h))

-- the form and the rights of a section stand in its low twenty bits
pub is_section_form_low : (w : ℕ) → is_section_form (bits w 0 20) ≡ is_section_form w
unfolding is_section_form
is_section_form_low w =
    rw (
      bits_low w 0 2 20 (omega arith),
      bits_low w 18 2 20 (omega arith),
      bits_low w 5 5 20 (omega arith),
      bits_low w 15 1 20 (omega arith),
      bits_low w 10 2 20 (omega arith),
    )

pub section_rights_low : (w : ℕ) → rights_of (section_ap (bits w 0 20)) (section_xn (bits w 0 20)) ≡ rights_of (section_ap w) (section_xn w)
section_rights_low w = rw (bits_low w 15 1 20 (omega arith), bits_low w 10 2 20 (omega arith), bits_low w 4 1 20 (omega arith))

-- Positions

-- bits 1..0 tell a fault at both levels
pub is_fault-bits : (v : Level) (mem : List ℕ) (j : ℕ) → eqb (bits (word mem (4 * j)) 0 2) 0b00 ≡ is_fault (entry_at v mem j)
unfolding entry_at l1_entry l2_entry is_fault
is_fault-bits l1 mem j = (let w = word mem (4 * j) in first (eqb (bits w 0 2) 0b00) (is_link_form w) (is_section_form w) (bits w 10 22) (section_blocks * bits w 20 12) (rights_of (section_ap w) (section_xn w))) where
  first : (t a b : Bool) (p q r : ℕ) → t ≡ is_fault (cond t fault (cond a (link p) (cond b (section q r) unaccepted)))
  first true a b p q r = refl
  first false true b p q r = refl
  first false false true p q r = refl
  first false false false p q r = refl
is_fault-bits l2 mem j = (let w = word mem (4 * j) in second (eqb (bits w 0 2) 0b00) (is_page_form w) (is_large_form w && is_run mem j) (bits w 12 20) (rights_of (page_ap w) (page_xn w)) (large_blocks * bits w 16 16 + j % run_words) (rights_of (page_ap w) (large_xn w))) where
  second : (t a b : Bool) (p q r x : ℕ) → t ≡ is_fault (cond t fault (cond a (page p q) (cond b (large r x) unaccepted)))
  second true a b p q r x = refl
  second false true b p q r x = refl
  second false false true p q r x = refl
  second false false false p q r x = refl

-- so a word with 00 is one
pub entry_at_fault : (v : Level) (mem : List ℕ) (j : ℕ) → bits (word mem (4 * j)) 0 2 ≡ 0b00 → fault ≡ entry_at v mem j
unfolding entry_at l1_entry l2_entry
entry_at_fault l1 mem j h = rw h
entry_at_fault l2 mem j h = rw h

-- an L2 entry that is no fault, by the form of its word w
module _ (mem : List ℕ) (j w : ℕ) (is : w ≡ word mem (4 * j)) where
  pub entry_at_page : is_page_form w ≡ true → page (bits w 12 20) (rights_of (page_ap w) (page_xn w)) ≡ entry_at l2 mem j
  unfolding entry_at
  entry_at_page h = sym (l2_entry_page w (j % run_words) (is_run mem j) h) ∙ ap (l2_entry (is_run mem j) (j % run_words)) is

  pub entry_at_large : is_large_form w ≡ true → is_run mem j ≡ true → large (large_blocks * bits w 16 16 + j % run_words) (rights_of (page_ap w) (large_xn w)) ≡ entry_at l2 mem j
  unfolding entry_at
  entry_at_large h run = sym (l2_entry_large w (j % run_words) h) ∙ ap₂ (λ (t : Bool) (w : ℕ). l2_entry t (j % run_words) w) (sym run) is

  pub entry_at_unaccepted : bits w 0 2 ≢ 0b00 → is_page_form w ≡ false → (is_large_form w && is_run mem j) ≡ false → unaccepted ≡ entry_at l2 mem j
  unfolding entry_at
  entry_at_unaccepted h p q = sym (l2_entry_neither w (j % run_words) (is_run mem j) h p q) ∙ ap (l2_entry (is_run mem j) (j % run_words)) is

-- Accepted words: bits 1..0 alone tell their form

accepted_cond : (t : Bool) (e : Entry) → is_unaccepted (cond t e unaccepted) ≡ false → t ≡ true
unfolding is_unaccepted
accepted_cond true e h = refl
accepted_cond false e h = absurd (false≢true (sym h))

module _ (w : ℕ) (taken : is_unaccepted (l1_entry w) ≡ false) where
  pub accepted_link : bits w 0 2 ≡ 0b01 → is_link_form w ≡ true
  unfolding l1_entry is_section_form
  accepted_link h = accepted_cond (is_link_form w) _ (rw h at taken)

  pub accepted_section : bits w 0 2 ≢ 0b00 → bits w 0 2 ≢ 0b01 → is_section_form w ≡ true
  unfolding l1_entry is_link_form
  accepted_section h k = accepted_cond (is_section_form w) _ (rw (ne_eqb (bits w 0 2) 0b00 h, ne_eqb (bits w 0 2) 0b01 k) at taken)

-- an accepted word has the form that these bits tell, and one of a large page stands in a run
module _ (mem : List ℕ) (j w : ℕ) (is : w ≡ word mem (4 * j)) (taken : is_unaccepted (entry_at l2 mem j) ≡ false) where
  l2_taken : is_unaccepted (l2_entry (is_run mem j) (j % run_words) w) ≡ false
  unfolding entry_at
  l2_taken = rw is taken

  pub accepted_page : bits w 1 1 ≡ 1 → is_page_form w ≡ true
  unfolding by_tests
  accepted_page h = accepted_cond (is_page_form w) _ (rw (by_page_tests w (is_run mem j) (j % run_words) h) at l2_taken)

  pub accepted_large : bits w 0 2 ≢ 0b00 → bits w 1 1 ≢ 1 → (is_large_form w ≡ true) × (is_run mem j ≡ true)
  unfolding by_tests
  accepted_large h k =
      let low : bits w 0 2 ≡ 0b01 = omega arith in
      and_true _ _ (accepted_cond (is_large_form w && is_run mem j) _ (rw (by_large_tests w (is_run mem j) (j % run_words) low) at l2_taken))

-- the same of a word alone, which is taken for one that stands in a run
module _ (j w : ℕ) (taken : is_unaccepted (accepted_at l2 j w) ≡ false) where
  pub page_alone : bits w 1 1 ≡ 1 → is_page_form w ≡ true
  unfolding by_tests
  page_alone h = accepted_cond (is_page_form w) _ (rw (by_page_tests w true (j % run_words) h) at taken)

  pub large_alone : bits w 0 2 ≢ 0b00 → bits w 1 1 ≢ 1 → is_large_form w ≡ true
  unfolding by_tests
  large_alone h k =
      let low : bits w 0 2 ≡ 0b01 = omega arith in
      and_true_left _ _ (accepted_cond (is_large_form w && true) _ (rw (by_large_tests w true (j % run_words) low) at taken))

module _ (v : Level) (j w : ℕ) where
  pub accepted_fault : bits w 0 2 ≡ 0b00 → fault ≡ accepted_at v j w
  unfolding l1_entry l2_entry
  accepted_fault h = elim v as (λ v. fault ≡ accepted_at v j w) [ l1 ↦ rw h | l2 ↦ rw h ]

-- an accepted word is what it is alone
pub accepted_is : (v : Level) (mem : List ℕ) (j w : ℕ) → w ≡ word mem (4 * j) → is_unaccepted (entry_at v mem j) ≡ false → accepted_at v j w ≡ entry_at v mem j
unfolding entry_at l2_entry is_unaccepted
accepted_is l1 mem j w is taken = ap l1_entry is
accepted_is l2 mem j w is taken = rw is (settled (eqb (bits (word mem (4 * j)) 0 2) 0b00) (is_page_form (word mem (4 * j))) (is_large_form (word mem (4 * j))) (is_run mem j) _ _ taken) where
  settled : (s t u run : Bool) (p q : Entry) → is_unaccepted (cond s fault (cond t p (cond (u && run) q unaccepted))) ≡ false
      → cond s fault (cond t p (cond (u && true) q unaccepted)) ≡ cond s fault (cond t p (cond (u && run) q unaccepted))
  settled true t u run p q h = refl
  settled false true u run p q h = refl
  settled false false true true p q h = refl
  settled false false true false p q h = absurd (false≢true (sym h))
  settled false false false run p q h = refl

-- so an accepted word with the bit of a page is one
pub accepted_page_bit : (v : Level) (mem : List ℕ) (j w : ℕ) → w ≡ word mem (4 * j) → is_unaccepted (entry_at v mem j) ≡ false → has_page_bit v w ≡ true
    → (is_page_form w ≡ true) × (page (bits w 12 20) (rights_of (page_ap w) (page_xn w)) ≡ entry_at v mem j)
accepted_page_bit l1 mem j w is taken h = absurd (false≢true h)
accepted_page_bit l2 mem j w is taken h =
    let form = accepted_page mem j w is taken (eqb-true _ _ h) in
    (form, entry_at_page mem j w is form)

-- no page, large or not, stands in an L1 table, and no link and no section in an L2 table
cond_not : (q : Entry → Bool) (t : Bool) (e f : Entry) → q e ≡ false → q f ≡ false → q (cond t e f) ≡ false
cond_not q true e f h k = h
cond_not q false e f h k = k

pub l1_no_page : (mem : List ℕ) (j : ℕ) → (is_page (entry_at l1 mem j) ≡ false) × (is_large (entry_at l1 mem j) ≡ false)
unfolding entry_at l1_entry is_page is_large
l1_no_page mem j = (none is_page refl refl (λ p. refl) (λ b r. refl), none is_large refl refl (λ p. refl) (λ b r. refl)) where
  none : (q : Entry → Bool) → q fault ≡ false → q unaccepted ≡ false → ((p : ℕ) → q (link p) ≡ false) → ((b r : ℕ) → q (section b r) ≡ false) → q (l1_entry (word mem (4 * j))) ≡ false
  none q a b c d =
      let w = word mem (4 * j) in
      let s = section (section_blocks * bits w 20 12) (rights_of (section_ap w) (section_xn w)) in
      let f = cond (is_section_form w) s unaccepted in
      cond_not q (eqb (bits w 0 2) 0) fault (cond (is_link_form w) (link (bits w 10 22)) f) a
      (cond_not q (is_link_form w) (link (bits w 10 22)) f (c _) (cond_not q (is_section_form w) s unaccepted (d _ _) b))

pub l2_no_link : (mem : List ℕ) (j : ℕ) → (is_link (entry_at l2 mem j) ≡ false) × (is_section (entry_at l2 mem j) ≡ false)
unfolding entry_at l2_entry is_link is_section
l2_no_link mem j = (none is_link refl refl (λ b r. refl) (λ b r. refl), none is_section refl refl (λ b r. refl) (λ b r. refl)) where
  none : (q : Entry → Bool) → q fault ≡ false → q unaccepted ≡ false → ((b r : ℕ) → q (page b r) ≡ false) → ((b r : ℕ) → q (large b r) ≡ false)
      → q (l2_entry (is_run mem j) (j % run_words) (word mem (4 * j))) ≡ false
  none q a b c d =
      let w = word mem (4 * j) in
      let p = page (bits w 12 20) (rights_of (page_ap w) (page_xn w)) in
      let s = large (large_blocks * bits w 16 16 + j % run_words) (rights_of (page_ap w) (large_xn w)) in
      let f = cond (is_large_form w && is_run mem j) s unaccepted in
      cond_not q (eqb (bits w 0 2) 0) fault (cond (is_page_form w) p f) a
      (cond_not q (is_page_form w) p f (c _ _) (cond_not q (is_large_form w && is_run mem j) s unaccepted (d _ _) b))

-- Neighbours

-- a word that says by itself what it is
abbrev pub Lone : Level → ℕ → Type 0
Lone l1 w = Unit {0}
Lone l2 w = bits w 0 2 ≢ 0b01

-- that of an entry that stands by itself
pub lone_word : (v : Level) (mem : List ℕ) (j : ℕ) → stands_alone (entry_at v mem j) ≡ true → Lone v (word mem (4 * j))
unfolding entry_at is_fault is_section is_link is_page by_tests
lone_word l1 mem j h = tt
lone_word l2 mem j h = λ one. false≢true (sym (lonely (is_run mem j) (word mem (4 * j)) one) ∙ h) where
  lonely : (run : Bool) (w : ℕ) → bits w 0 2 ≡ 0b01 → stands_alone (l2_entry run (j % run_words) w) ≡ false
  lonely run w one = rw (by_large_tests w run (j % run_words) one) (cond_not stands_alone (is_large_form w && run) _ _ refl refl)

-- an entry is the same in two memories that agree on its word, and on the aligned sixteen around it except where both have lone words
pub entry_at_beside : (v : Level) (xs ys : List ℕ) (j : ℕ) → word xs (4 * j) ≡ word ys (4 * j)
    → ((i : ℕ) → i / run_words ≡ j / run_words → (word xs (4 * i) ≡ word ys (4 * i)) ⊎ (Lone v (word xs (4 * i)) × Lone v (word ys (4 * i))))
    → entry_at v xs j ≡ entry_at v ys j
unfolding entry_at is_run
entry_at_beside l1 xs ys j e h = ap l1_entry e
entry_at_beside l2 xs ys j e h = go (eqb (bits (word ys (4 * j)) 0 2) 0b01) refl where
  k : ℕ
  k = j % run_words

  alike : bits (word ys (4 * j)) 0 2 ≡ 0b01 → (i : ℕ) → i < run_words → neqb (run_word xs j i) (word xs (4 * j)) ≡ neqb (run_word ys j i) (word ys (4 * j))
  alike one i l =
      let a = run_words * (j / run_words) + i in
      ⊎_elim
      (λ (s : word xs (4 * a) ≡ word ys (4 * a)). rw (s, e) refl)
      (λ lone. let (x, y) = lone in
      differ _ _ (λ s. x (ap (λ n. bits n 0 2) (s ∙ e) ∙ one)) ∙ sym (differ _ _ (λ s. y (ap (λ n. bits n 0 2) s ∙ one))))
      (h a (omega arith))

  go : (t : Bool) → eqb (bits (word ys (4 * j)) 0 2) 0b01 ≡ t → l2_entry (is_run xs j) k (word xs (4 * j)) ≡ l2_entry (is_run ys j) k (word ys (4 * j))
  go true t =
      let run : is_run xs j ≡ is_run ys j = ap not (any_same (λ i. neqb (run_word xs j i) (word xs (4 * j))) (λ i. neqb (run_word ys j i) (word ys (4 * j))) run_words (alike (eqb-true _ _ t))) in
      ap₂ (λ (r : Bool) (w : ℕ). l2_entry r k w) run e
  go false t = ap (l2_entry (is_run xs j) k) e ∙ l2_entry_alone (word ys (4 * j)) (is_run xs j) (is_run ys j) k k (λ one. false≢true (sym t ∙ rw one refl))

-- so it is in memories that agree on the aligned sixteen
pub entry_at_cong : (v : Level) (xs ys : List ℕ) (j : ℕ)
    → ((i : ℕ) → i / run_words ≡ j / run_words → word xs (4 * i) ≡ word ys (4 * i)) → entry_at v xs j ≡ entry_at v ys j
entry_at_cong v xs ys j h = entry_at_beside v xs ys j (h j refl) (λ i near. inl (h i near))

-- Runs

module _ (mem : List ℕ) (j : ℕ) where
  -- a run, word by word
  pub is_run_all : ((k : ℕ) → k < run_words → run_word mem j k ≡ word mem (4 * j)) → is_run mem j ≡ true
  unfolding is_run
  is_run_all h = ap not (any_avoids (λ k. neqb (run_word mem j k) (word mem (4 * j))) run_words (λ k l. same _ _ (h k l)))

  pub is_run_broken : (k : ℕ) → k < run_words → run_word mem j k ≢ word mem (4 * j) → is_run mem j ≡ false
  unfolding is_run
  is_run_broken k l h = ap not (any_hit (λ k. neqb (run_word mem j k) (word mem (4 * j))) run_words k l (differ _ _ h))

  pub is_run-word : is_run mem j ≡ true → (k : ℕ) → k < run_words → run_word mem j k ≡ word mem (4 * j)
  unfolding is_run
  is_run-word h k l =
      eqb-true _ _ (not-false _ (any_none (λ k. neqb (run_word mem j k) (word mem (4 * j))) run_words (not-true _ h) k l))

-- sixteen equal words from a multiple of 16 on, each read at its position in a run
pub entry_at-run : (mem : List ℕ) (j w : ℕ) → j % run_words ≡ 0 → ((k : ℕ) → k < run_words → word mem (4 * (j + k)) ≡ w)
    → (k : ℕ) → k < run_words → entry_at l2 mem (j + k) ≡ l2_entry true k w
unfolding entry_at
entry_at-run mem j w aligned one k l =
    let at : run_words * ((j + k) / run_words) ≡ j = omega arith in
    let position : (j + k) % run_words ≡ k = omega arith in
    let run : is_run mem (j + k) ≡ true = is_run_all mem (j + k) (λ i m. rw at (one i m) ∙ sym (one k l)) in
    rw (run, position, one k l) refl

-- the sixteen words of an aligned run are a large page together, if the first of them is an entry of one
pub large_run : (mem : List ℕ) (j : ℕ) → j % run_words ≡ 0 → is_large (entry_at l2 mem j) ≡ true
    → (b : ℕ) × (r : ℕ) × (b % large_blocks ≡ 0) × ((k : ℕ) → k < run_words → entry_at l2 mem (j + k) ≡ large (b + k) r)
unfolding entry_at l2_entry is_large
large_run mem j aligned h = (large_blocks * bits w 16 16, rights_of (page_ap w) (large_xn w), omega arith, each) where
  w : ℕ
  w = word mem (4 * j)

  both : (s t u run : Bool) (p q b r : ℕ) → is_large (cond s fault (cond t (page p q) (cond (u && run) (large b r) unaccepted))) ≡ true → (u ≡ true) × (run ≡ true)
  both true t u run p q b r e = absurd (false≢true e)
  both false true u run p q b r e = absurd (false≢true e)
  both false false true true p q b r e = (refl, refl)
  both false false true false p q b r e = absurd (false≢true e)
  both false false false run p q b r e = absurd (false≢true e)

  is : (is_large_form w ≡ true) × (is_run mem j ≡ true)
  is = both (eqb (bits w 0 2) 0) (is_page_form w) (is_large_form w) (is_run mem j) _ _ _ _ h

  one : (k : ℕ) → k < run_words → word mem (4 * (j + k)) ≡ w
  one k l = let at : run_words * (j / run_words) ≡ j = omega arith in rw at at (is_run-word mem j is.1 k l)

  each : (k : ℕ) → k < run_words → entry_at l2 mem (j + k) ≡ large (large_blocks * bits w 16 16 + k) (rights_of (page_ap w) (large_xn w))
  each k l = entry_at-run mem j w aligned one k l ∙ l2_entry_large w k is.0
