-- What is written reads back as what was asked. With kind 0 that is computed for the low bits, which do not reach the place; and what a word means does
-- not depend on its kind.
use mathlib.Core.Path.{◌≡◌, refl, sym, ◌∙◌, ap, ap₂}
use mathlib.Core.Bool.{Bool, true}
use mathlib.Core.List.{List}
use Prim.Native.Nat.{ℕ, ◌+◌, ◌*◌, ◌/◌, ◌%◌, ◌^◌, ◌<◌}
use native.Mathlib.Omega.{arith}
use Rattle.words.specs.Bounded.{num}
use Rattle.words.specs.Words.{bits, word}
use Rattle.words.proofs.Fields.{bits_low, bits_above, bits_below}
use Rattle.entries.specs.Rights.{may_read, may_write, may_execute, rights_of}
use Rattle.entries.specs.Entries.{Entry, fault, link, section, page, large, Level, l1, l2, section_ap, section_xn, page_ap, page_xn, large_xn, is_link_form, is_section_form, is_page_form, is_large_form, l1_entry, l2_entry, section_blocks, large_blocks, run_words, is_run, entry_at}
use Rattle.entries.specs.Written.{page_bits, section_bits, large_bits, word_of}
use Rattle.entries.specs.Needs.{IsBlock, IsSectionStart, IsLargeStart, IsTablePlace}
use Rattle.entries.proofs.MemoryKinds.{ap_bound, page_with_kind, large_with_kind, section_with_kind, kinds_apart}
use Rattle.entries.proofs.Decoding.{l2_entry_page, l2_entry_large, is_page_form_low, page_rights_low, is_large_form_low, large_rights_low, l1_entry_link, l1_entry_section, is_section_form_low, section_rights_low, entry_at-run}

-- the rights with which a mapping is written (entries 15)
pub data Grantable : ℕ → Type 0 where
  none : Grantable 0
  read : Grantable 1
  read_write : Grantable 3
  read_execute : Grantable 5

-- what an accepted map, link or unmap leaves at a word that stands by itself, at each level
pub data Single : Level → Entry → Type 0 where
  a_fault : {v : Level} → Single v fault
  a_link : {p : ℕ} → IsTablePlace p → Single l1 (link p)
  a_section : {b r : ℕ} → IsSectionStart b → Grantable r → Single l1 (section b r)
  a_page : {b r : ℕ} → IsBlock b → Grantable r → Single l2 (page b r)

-- what it leaves in its m words from word j on: such words, or an aligned run of a large page
pub data Encodable : Level → ℕ → ℕ → (ℕ → Entry) → Type 0 where
  singly : {v : Level} {j m : ℕ} {e : ℕ → Entry} → ((k : ℕ) → k < m → Single v (e k)) → Encodable v j m e
  in_run : {j b r : ℕ} {e : ℕ → Entry} → j % run_words ≡ 0 → IsLargeStart b → Grantable r → ((k : ℕ) → e k ≡ large (b + k) r) → Encodable l2 j run_words e

-- With kind 0 the low bits that are written have the form and the rights, by computation

abbrev page_rights : ℕ → ℕ
page_rights low = rights_of (page_ap low) (page_xn low)

abbrev large_rights : ℕ → ℕ
large_rights low = rights_of (page_ap low) (large_xn low)

abbrev section_rights : ℕ → ℕ
section_rights low = rights_of (section_ap low) (section_xn low)

page_low : {r : ℕ} → Grantable r → (is_page_form (page_bits 0 r) ≡ true) × (page_rights (page_bits 0 r) ≡ r)
unfolding page_bits is_page_form rights_of may_read may_write may_execute num
page_low none = (refl, refl)
page_low read = (refl, refl)
page_low read_write = (refl, refl)
page_low read_execute = (refl, refl)

large_low : {r : ℕ} → Grantable r → (is_large_form (large_bits 0 r) ≡ true) × (large_rights (large_bits 0 r) ≡ r)
unfolding large_bits is_large_form rights_of may_read may_write may_execute num
large_low none = (refl, refl)
large_low read = (refl, refl)
large_low read_write = (refl, refl)
large_low read_execute = (refl, refl)

section_low : {r : ℕ} → Grantable r → (is_section_form (section_bits 0 r) ≡ true) × (section_rights (section_bits 0 r) ≡ r)
unfolding section_bits is_section_form rights_of may_read may_write may_execute num
section_low none = (refl, refl)
section_low read = (refl, refl)
section_low read_write = (refl, refl)
section_low read_execute = (refl, refl)

-- they do not reach the place, whatever the kind
module _ (kind r : ℕ) where
  page_bound : page_bits kind r < 2 ^ 12
  unfolding page_bits
  page_bound = let h = ap_bound r in omega arith

  large_bound : large_bits kind r < 2 ^ 16
  unfolding large_bits
  large_bound = let h = ap_bound r in omega arith

  section_bound : section_bits kind r < 2 ^ 20
  unfolding section_bits
  section_bound = let h = ap_bound r in omega arith

-- What is written reads back: with kind 0 by its form, and so with every kind (entries 23)

page_plain : {b r : ℕ} → IsBlock b → Grantable r → (run : Bool) (k : ℕ) → l2_entry run k (word_of 0 (page b r)) ≡ page b r
unfolding word_of
page_plain {b} {r} h g run k =
    let low = page_bits 0 r in
    let w = 2 ^ 12 * b + low in
    let (form, granted) = page_low g in
    let bound = page_bound 0 r in
    let below : bits w 0 12 ≡ low = bits_below 12 b bound in
    let is_form : is_page_form w ≡ true = sym (is_page_form_low w) ∙ ap is_page_form below ∙ form in
    let rights : page_rights w ≡ r = sym (page_rights_low w) ∙ ap page_rights below ∙ granted in
    l2_entry_page w k run is_form ∙ ap₂ page (bits_above 12 b bound 20 h) rights

large_plain : {b r : ℕ} → IsLargeStart b → Grantable r → (k : ℕ) → l2_entry true k (word_of 0 (large b r)) ≡ large (b + k) r
unfolding word_of
large_plain {b} {r} h g k =
    let low = large_bits 0 r in
    let w = 2 ^ 16 * (b / large_blocks) + low in
    let (form, granted) = large_low g in
    let bound = large_bound 0 r in
    let below : bits w 0 16 ≡ low = bits_below 16 (b / large_blocks) bound in
    let place : bits w 16 16 ≡ b / large_blocks = bits_above 16 (b / large_blocks) bound 16 (omega arith) in
    let whole : 2 ^ 12 * (large_blocks * (b / large_blocks)) ≡ 2 ^ 16 * (b / large_blocks) = omega arith in
    let start : large_blocks * (b / large_blocks) ≡ b = omega arith in
    let is_form : is_large_form w ≡ true = sym (is_large_form_low w) ∙ ap is_large_form below ∙ form in
    let rights : large_rights w ≡ r = sym (large_rights_low w) ∙ ap large_rights below ∙ granted in
    rw whole (l2_entry_large w k is_form ∙ ap₂ large (ap (λ n. large_blocks * n + k) place ∙ ap (λ n. n + k) start) rights)

section_plain : {b r : ℕ} → IsSectionStart b → Grantable r → l1_entry (word_of 0 (section b r)) ≡ section b r
unfolding word_of
section_plain {b} {r} h g =
    let low = section_bits 0 r in
    let w = 2 ^ 20 * (b / section_blocks) + low in
    let (form, granted) = section_low g in
    let bound = section_bound 0 r in
    let below : bits w 0 20 ≡ low = bits_below 20 (b / section_blocks) bound in
    let place : bits w 20 12 ≡ b / section_blocks = bits_above 20 (b / section_blocks) bound 12 (omega arith) in
    let whole : 2 ^ 12 * b ≡ 2 ^ 20 * (b / section_blocks) = omega arith in
    let start : section_blocks * (b / section_blocks) ≡ b = omega arith in
    let is_form : is_section_form w ≡ true = sym (is_section_form_low w) ∙ ap is_section_form below ∙ form in
    let rights : section_rights w ≡ r = sym (section_rights_low w) ∙ ap section_rights below ∙ granted in
    rw whole (l1_entry_section w is_form ∙ ap₂ section (ap (λ n. section_blocks * n) place ∙ start) rights)

module _ (kind : ℕ) where
  pub page_reads_back : {b r : ℕ} → IsBlock b → Grantable r → (run : Bool) (k : ℕ) → l2_entry run k (word_of kind (page b r)) ≡ page b r
  page_reads_back {b} {r} h g run k = ap (l2_entry run k) (sym (page_with_kind 0 kind b r)) ∙ kinds_apart.at_l2 kind (word_of 0 (page b r)) run k ∙ page_plain h g run k

  -- the word of a large page, at position k of a run of it
  pub large_reads_back : {b r : ℕ} → IsLargeStart b → Grantable r → (k : ℕ) → l2_entry true k (word_of kind (large b r)) ≡ large (b + k) r
  large_reads_back {b} {r} h g k = ap (l2_entry true k) (sym (large_with_kind 0 kind b r)) ∙ kinds_apart.at_l2 kind (word_of 0 (large b r)) true k ∙ large_plain h g k

  pub section_reads_back : {b r : ℕ} → IsSectionStart b → Grantable r → l1_entry (word_of kind (section b r)) ≡ section b r
  section_reads_back {b} {r} h g = ap l1_entry (sym (section_with_kind 0 kind b r h.1)) ∙ kinds_apart.at_l1 kind (word_of 0 (section b r)) ∙ section_plain h g

  pub link_reads_back : {p : ℕ} → IsTablePlace p → l1_entry (word_of kind (link p)) ≡ link p
  unfolding word_of is_link_form
  link_reads_back {p} h =
      let w = 2 ^ 10 * p + 1 in
      let below : bits w 0 10 ≡ 1 = bits_below 10 p (omega arith) in
      let form : bits w 0 2 ≡ 1 = sym (bits_low w 0 2 10 (omega arith)) ∙ ap (λ n. bits n 0 2) below in
      let zeros : bits w 2 8 ≡ 0 = sym (bits_low w 2 8 10 (omega arith)) ∙ ap (λ n. bits n 2 8) below in
      l1_entry_link w (rw (form, zeros)) ∙ ap link (bits_above 10 p (omega arith) 22 h)

  single_bound : {v : Level} {e : Entry} → Single v e → word_of kind e < 2 ^ 32
  unfolding word_of
  single_bound a_fault = omega arith
  single_bound (a_link h) = omega arith
  single_bound (a_section {r = r} h g) = let bound = section_bound kind r in omega arith
  single_bound (a_page {r = r} h g) = let bound = page_bound kind r in omega arith

  -- the words of a large page are all the same
  pub large_word : (b r k : ℕ) → b % large_blocks ≡ 0 → k < large_blocks → word_of kind (large (b + k) r) ≡ word_of kind (large b r)
  unfolding word_of
  large_word b r k h l = let same : (b + k) / large_blocks ≡ b / large_blocks = omega arith in rw same refl

  pub written_bound : {v : Level} {j m : ℕ} {e : ℕ → Entry} → Encodable v j m e → (k : ℕ) → k < m → word_of kind (e k) < 2 ^ 32
  unfolding word_of
  written_bound (singly x) k l = single_bound (x k l)
  written_bound (in_run {b = b} {r = r} a h g is) k l = rw (is k, large_word b r k h.1 l) (run_bound h r) where
    run_bound : {b : ℕ} → IsLargeStart b → (r : ℕ) → word_of kind (large b r) < 2 ^ 32
    run_bound h r = let bound = large_bound kind r in omega arith

  -- what a map, a link or an unmap writes into a memory is read there, at each level
  single_reads_back : (mem : List ℕ) (j : ℕ) {v : Level} {e : Entry} → Single v e → word mem (4 * j) ≡ word_of kind e → entry_at v mem j ≡ e
  unfolding entry_at word_of l1_entry l2_entry
  single_reads_back mem j {v = l1} a_fault h = ap l1_entry h
  single_reads_back mem j {v = l2} a_fault h = rw h refl
  single_reads_back mem j (a_link p) h = ap l1_entry h ∙ link_reads_back p
  single_reads_back mem j (a_section b g) h = ap l1_entry h ∙ section_reads_back b g
  single_reads_back mem j (a_page b g) h = rw h (page_reads_back b g (is_run mem j) (j % run_words))

  pub written_reads_back : (mem : List ℕ) {v : Level} {j m : ℕ} {e : ℕ → Entry} → Encodable v j m e → ((k : ℕ) → k < m → word mem (4 * (j + k)) ≡ word_of kind (e k))
      → (k : ℕ) → k < m → entry_at v mem (j + k) ≡ e k
  written_reads_back mem {j = j} (singly x) h k l = single_reads_back mem (j + k) (x k l) (h k l)
  written_reads_back mem {j = j} (in_run {b = b} {r = r} a start g is) h k l =
      let w = word_of kind (large b r) in
      let one : (i : ℕ) → i < run_words → word mem (4 * (j + i)) ≡ w = λ i l. h i l ∙ ap (word_of kind) (is i) ∙ large_word b r i start.1 l in
      entry_at-run mem j w a one k l ∙ large_reads_back start g k ∙ sym (is k)
