-- A ledger is its words: two ledgers of bytes whose words agree are the same.
use mathlib.Core.List.{List}
use mathlib.Core.Logic.{⊎_elim}
use mathlib.Core.Path.{◌≡◌, sym, ◌∙◌, ap}
use Prim.Native.Nat.{ℕ, zero, suc, ◌+◌, ◌-◌, ◌*◌, ◌/◌, ◌%◌, ◌^◌, ◌<◌, ◌≤◌}
use native.Mathlib.Omega.{arith}
use lib.ListN.{length, get_or}
use lib.Seq.{ext_get_or}
use Rattle.words.specs.Words.{bits, word}
use Rattle.words.proofs.Bounded.{below_or_above}
use Rattle.words.proofs.Words.{Bytes, word_bound, bytes_put_word, get_or-put_word_same, put_word_self}
use Rattle.rules.specs.Store.{ledger_head_bytes, ledger_record_bytes, record_word, put_record_word, recount, type_word, Counter, writable, executable, linked, counter_word, mark_word}

-- the words of a ledger of bytes, and its bytes when it is recounted
pub record_word_bound : (led : List ℕ) (k b : ℕ) → Bytes led → record_word led k b < 2 ^ 32
unfolding record_word
record_word_bound led k b h = word_bound led (ledger_head_bytes + ledger_record_bytes * b + 4 * k) h

pub bytes_recount : (led : List ℕ) (n : ℕ) (f : Counter → ℕ → ℕ) → Bytes led → Bytes (recount led n f)
unfolding recount put_record_word
bytes_recount led zero f h = h
bytes_recount led (suc n) f h = bytes_put_word _ _ _ (bytes_put_word _ _ _ (bytes_put_word (recount led n f) _ _ (bytes_recount led n f h)))

-- a byte is a part of its word
byte_of_word : (xs : List ℕ) (a k : ℕ) → Bytes xs → k < 4 → a + k < length xs → get_or xs (a + k) 0 ≡ bits (word xs a) (8 * k) 8
byte_of_word xs a k b h l = sym (ap (λ (ys : List ℕ). get_or ys (a + k) 0) (put_word_self xs a b)) ∙ get_or-put_word_same xs a (word xs a) k h l

words_ext : (xs ys : List ℕ) → length xs ≡ length ys → Bytes xs → Bytes ys → ((j : ℕ) → 4 * j < length xs → word xs (4 * j) ≡ word ys (4 * j)) → xs ≡ ys
words_ext xs ys n bx by h = ext_get_or 0 xs ys n (λ i l. at_byte i (i / 4) (i % 4) l (omega arith) (omega arith)) where
  at_byte : (i j k : ℕ) → i < length xs → k < 4 → i ≡ 4 * j + k → get_or xs i 0 ≡ get_or ys i 0
  at_byte i j k l small e =
      rw e (byte_of_word xs (4 * j) k bx small (omega arith) ∙ ap (λ (w : ℕ). bits w (8 * k) 8) (h j (omega arith)) ∙ sym (byte_of_word ys (4 * j) k by small (omega arith)))

-- the words of a ledger of n records: those of the head, the types, the counters and the marks
module _ (xs ys : List ℕ) (n : ℕ) (lx : length xs ≡ ledger_head_bytes + ledger_record_bytes * n) (ly : length ys ≡ ledger_head_bytes + ledger_record_bytes * n) (bx : Bytes xs) (by : Bytes ys)
    (heads : (a : ℕ) → a + 4 ≤ ledger_head_bytes → word xs a ≡ word ys a)
    (types : (b : ℕ) → b < n → record_word xs type_word b ≡ record_word ys type_word b)
    (counters : (c : Counter) (b : ℕ) → b < n → record_word xs (counter_word c) b ≡ record_word ys (counter_word c) b)
    (marks : (b : ℕ) → b < n → record_word xs mark_word b ≡ record_word ys mark_word b) where
  in_record : (k b : ℕ) → k < 5 → b < n → record_word xs k b ≡ record_word ys k b
  in_record zero b h l = types b l
  in_record (suc zero) b h l = counters writable b l
  in_record (suc (suc zero)) b h l = counters executable b l
  in_record (suc (suc (suc zero))) b h l = counters linked b l
  in_record (suc (suc (suc (suc zero)))) b h l = marks b l
  in_record (suc (suc (suc (suc (suc k))))) b h l = let z : ⊥ = omega arith in absurd z

  pub ledger_ext : xs ≡ ys
  unfolding record_word
  ledger_ext = words_ext xs ys (lx ∙ sym ly) bx by at_word where
    at_word : (j : ℕ) → 4 * j < length xs → word xs (4 * j) ≡ word ys (4 * j)
    at_word j l =
        ⊎_elim (λ (h : 4 * j < ledger_head_bytes). heads (4 * j) (omega arith))
        (λ (h : ledger_head_bytes ≤ 4 * j).
        let e : 4 * j ≡ ledger_head_bytes + ledger_record_bytes * ((4 * j - ledger_head_bytes) / ledger_record_bytes) + 4 * ((4 * j - ledger_head_bytes) % ledger_record_bytes / 4) = omega arith in
        rw e (in_record ((4 * j - ledger_head_bytes) % ledger_record_bytes / 4) ((4 * j - ledger_head_bytes) / ledger_record_bytes) (omega arith) (omega arith)))
        (below_or_above (4 * j) ledger_head_bytes)
