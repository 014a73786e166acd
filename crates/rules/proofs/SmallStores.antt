-- Small stores on which answers can be computed: eight blocks of zeros but for a word, and a ledger of zeros but for a record's word.
use mathlib.Core.Bool.{Bool, true, false}
use mathlib.Core.List.{List, []}
use mathlib.Core.Logic.{⊎_elim}
use mathlib.Core.Path.{◌≡◌, refl, sym, ◌∙◌, ap}
use Prim.Native.Nat.{ℕ, ◌+◌, ◌*◌, ◌^◌, ◌<◌, ◌≤◌}
use native.Mathlib.Decide.{ℕ_discrete}
use native.Mathlib.Omega.{arith}
use lib.ListN.{length, get_or, replicate, length-replicate, get_or-replicate, get_or-eq_default}
use Rattle.words.specs.Bounded.{any}
use Rattle.words.specs.Words.{half, word, put_word}
use Rattle.words.proofs.Bounded.{below_or_above}
use Rattle.words.proofs.Words.{length-put_word, word-put_word_same, word-put_word_other}
use Rattle.signature.specs.Signed.{signed, listed}
use Rattle.entries.specs.Entries.{fault, Level, l1, l2, entry_at, l1_entry, l2_entry, is_run}
use Rattle.entries.proofs.Decoding.{l2_entry_alone, is_run_broken, entry_at_fault}
use Rattle.rules.specs.Store.{block_bytes, kinds_bytes, ledger_head_bytes, ledger_record_bytes, base_place, Store, kinds_of, kind_at, unlawful_kinds, record_word, put_record_word, retype, type_word, counter_word, writable, misfit, misfit_stored}
use Rattle.rules.specs.Signature.{signed_block}
use Rattle.rules.specs.Tables.{type_code}

unfoldable pub zeros : ℕ → List ℕ
zeros n = replicate n 0

pub length-zeros : (n : ℕ) → length (zeros n) ≡ n
unfolding zeros
length-zeros n = length-replicate {A = ℕ} n 0

-- eight blocks of zeros but for the first word
pub memory : ℕ → List ℕ
memory w = put_word (zeros (block_bytes * 8)) 0 w

pub length_memory : (w : ℕ) → length (memory w) ≡ block_bytes * 8
unfolding memory
length_memory w = length-put_word (zeros (block_bytes * 8)) 0 w ∙ length-zeros (block_bytes * 8)

-- a ledger of zeros: B and active are 0, all blocks are D
abbrev pub ledger : List ℕ
ledger = replicate (ledger_head_bytes + ledger_record_bytes * 8) 0

abbrev pub small_store : ℕ → List ℕ → Store
small_store w led = record { memory = memory w; ledger = led }

-- a ledger for eight blocks, all of whose kinds are 0
abbrev pub Plain : List ℕ → Type 0
Plain led = (length led ≡ ledger_head_bytes + ledger_record_bytes * 8) × (kinds_of led ≡ replicate kinds_bytes 0)

-- B 0 fits eight blocks, and B 1 does not, given or stored
pub fit_given : (w : ℕ) (led : List ℕ) → length led ≡ ledger_head_bytes + ledger_record_bytes * 8 → misfit (small_store w led) 0 ≡ false
unfolding misfit
fit_given w led e = rw (length_memory w, e) refl

pub unfit_given : (w : ℕ) (led : List ℕ) → length led ≡ ledger_head_bytes + ledger_record_bytes * 8 → misfit (small_store w led) 1 ≡ true
unfolding misfit
unfit_given w led e = rw (length_memory w, e) refl

pub fit : (w : ℕ) (led : List ℕ) → Plain led → word led base_place ≡ 0 → misfit_stored (small_store w led) ≡ false
unfolding misfit_stored unlawful_kinds any kind_at half
fit w led (e, zero_kinds) based = rw (based, fit_given w led e, zero_kinds) refl

pub unfit : (w : ℕ) (led : List ℕ) → length led ≡ ledger_head_bytes + ledger_record_bytes * 8 → word led base_place ≡ 1 → misfit_stored (small_store w led) ≡ true
unfolding misfit_stored
unfit w led e based = rw (based, unfit_given w led e) refl

-- block 0 is an L2 block; blocks 0 to 3 are an L1 table
abbrev pub one_l2 : List ℕ
one_l2 = put_record_word ledger type_word 0 (type_code l2)

abbrev pub one_l1 : List ℕ
one_l1 = retype ledger 0 4 (type_code l1)

abbrev pub writes_to5 : ℕ → List ℕ
writes_to5 count = put_record_word one_l2 (counter_word writable) 5 count

word-zeros : (n a : ℕ) → word (zeros n) a ≡ 0
unfolding word zeros
word-zeros n a = rw (get_or-zeros n a, get_or-zeros n (a + 1), get_or-zeros n (a + 2), get_or-zeros n (a + 3)) refl where
  get_or-zeros : (n i : ℕ) → get_or {A = ℕ} (replicate n 0) i 0 ≡ 0
  get_or-zeros n i = ⊎_elim (λ (h : i < n). get_or-replicate n i 0 0 h) (λ (h : n ≤ i). get_or-eq_default (replicate n 0) 0 {n = i} (rw (length-replicate {A = ℕ} n 0) h)) (below_or_above i n)

-- every entry of zeros is a fault
pub zero_entry : (v : Level) (n i : ℕ) → entry_at v (zeros n) i ≡ fault
zero_entry v n i = sym (entry_at_fault v (zeros n) i (rw (word-zeros n (4 * i)) refl))

-- the first word, and every other
first_word_lem : (w : ℕ) → w < 2 ^ 32 → word (memory w) 0 ≡ w
unfolding memory
first_word_lem w h = word-put_word_same (zeros (block_bytes * 8)) 0 w (rw (length-zeros (block_bytes * 8)) (omega arith)) h

rest_word : (w i : ℕ) → 0 < i → word (memory w) (4 * i) ≡ 0
unfolding memory
rest_word w i h = word-put_word_other (zeros (block_bytes * 8)) 0 w (4 * i) (λ e. omega arith) ∙ word-zeros (block_bytes * 8) (4 * i)

-- the first word as an entry: no run begins with it
pub first_entry : (w : ℕ) → w < 2 ^ 32 → (entry_at l1 (memory w) 0 ≡ l1_entry w) × (entry_at l2 (memory w) 0 ≡ l2_entry false 0 w)
unfolding entry_at
first_entry w h = (ap l1_entry (first_word_lem w h), ap (l2_entry (is_run (memory w) 0) 0) (first_word_lem w h) ∙ go (ℕ_discrete w 0)) where
  go : Dec (w ≡ 0) → l2_entry (is_run (memory w) 0) 0 w ≡ l2_entry false 0 w
  go (yes z) = l2_entry_alone w (is_run (memory w) 0) false 0 0 (λ one. omega arith)
  go (no n) = ap (λ (run : Bool). l2_entry run 0 w) (is_run_broken (memory w) 0 1 (omega arith) (λ e. n (sym (first_word_lem w h) ∙ sym e ∙ rest_word w 1 (omega arith))))

-- every entry but the first is a fault
pub rest_entry : (v : Level) (w i : ℕ) → 0 < i → entry_at v (memory w) i ≡ fault
rest_entry v w i h = sym (entry_at_fault v (memory w) i (rw (rest_word w i h) refl))

pub zero_record : (n k b : ℕ) → record_word (replicate n 0) k b ≡ 0
unfolding zeros record_word
zero_record n k b = word-zeros n (ledger_head_bytes + ledger_record_bytes * b + 4 * k)

pub record_zeros : (k b : ℕ) → record_word ledger k b ≡ 0
record_zeros = zero_record (ledger_head_bytes + ledger_record_bytes * 8)

-- nothing is signed by an empty golden image
pub unsigned : (mem : List ℕ) (B p : ℕ) → signed_block [] B mem p ≡ false
unfolding signed_block signed listed any
unsigned mem B p = refl
