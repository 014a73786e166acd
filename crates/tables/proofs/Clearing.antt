-- The records can be cleared one by one: types, counters and marks are stored apart from each other, so the order of the stores is free.
use mathlib.Core.List.{List}
use mathlib.Core.Logic.{◌≢◌, ⊎_elim}
use mathlib.Core.Path.{◌≡◌, refl, sym, ◌∙◌, ap}
use Prim.Native.Nat.{ℕ, zero, suc, ◌+◌, ◌*◌, ◌<◌, ◌≤◌}
use native.Mathlib.Nat.{zero-add}
use native.Mathlib.Numerals.{add-one}
use native.Mathlib.Omega.{arith}
use Rattle.words.proofs.Bounded.{below_or_above}
use Rattle.words.proofs.Words.{put_word_comm}
use Rattle.rules.specs.Store.{ledger_head_bytes, ledger_record_bytes, type_word, Counter, writable, executable, linked, counter_word, mark_word, put_record_word, put_counters, retype, recount, clear_mark, clear_marks}
use Rattle.rules.proofs.Ledger.{InRecord, counter_in_record, counter_not_type, counter_not_mark}

-- two words of other kinds, whichever is stored first
put_record_word_comm : (led : List ℕ) (k b u j c v : ℕ) → InRecord k → InRecord j → k ≢ j
    → put_record_word (put_record_word led k b u) j c v ≡ put_record_word (put_record_word led j c v) k b u
unfolding put_record_word
put_record_word_comm led k b u j c v ik ij o =
    put_word_comm led (ledger_head_bytes + ledger_record_bytes * b + 4 * k) u v (ledger_head_bytes + ledger_record_bytes * c + 4 * j)
    (λ l. ⊎_elim (λ (h : c < b). omega arith) (λ (h : b ≤ c). ⊎_elim (λ (t : b < c). omega arith) (λ (t : c ≤ b). omega arith) (below_or_above b c)) (below_or_above c b))

-- a type, and the counters of n blocks
type_recount_comm : (led : List ℕ) (b u n : ℕ) (f : Counter → ℕ → ℕ) → recount (put_record_word led type_word b u) n f ≡ put_record_word (recount led n f) type_word b u
unfolding recount
type_recount_comm led b u zero f = refl
type_recount_comm led b u (suc n) f =
    rw (type_recount_comm led b u n f, past (recount led n f) writable)
    (rw (past _ executable) (past _ linked)) where
      past : (led : List ℕ) (c : Counter) → put_record_word (put_record_word led type_word b u) (counter_word c) n (f c n) ≡ put_record_word (put_record_word led (counter_word c) n (f c n)) type_word b u
      past led c = put_record_word_comm led type_word b u (counter_word c) n (f c n) (omega arith) (counter_in_record c) (counter_not_type c)

-- another word, and the marks of m blocks
clear_marks_comm : (led : List ℕ) (k c v b m : ℕ) → InRecord k → mark_word ≢ k → put_record_word (clear_marks led b m) k c v ≡ clear_marks (put_record_word led k c v) b m
unfolding clear_marks
clear_marks_comm led k c v b zero i o = refl
clear_marks_comm led k c v b (suc m) i o =
    put_record_word_comm (clear_marks led b m) mark_word (b + m) 0 k c v (omega arith) i o ∙ ap (λ (l : List ℕ). clear_mark l (b + m)) (clear_marks_comm led k c v b m i o)

-- the turn of a loop that clears a record
module _ (led : List ℕ) (t n : ℕ) (f : Counter → ℕ → ℕ) where
  counter_comm : (led : List ℕ) (c : Counter) → put_record_word (clear_marks led 0 n) (counter_word c) n (f c n) ≡ clear_marks (put_record_word led (counter_word c) n (f c n)) 0 n
  counter_comm led c = clear_marks_comm led (counter_word c) n (f c n) 0 n (counter_in_record c) (counter_not_mark c)

  record_comm : (led : List ℕ) → put_counters (put_record_word (clear_marks led 0 n) type_word n t) n (λ c. f c n) ≡ clear_marks (put_counters (put_record_word led type_word n t) n (λ c. f c n)) 0 n
  record_comm led = rw (clear_marks_comm led type_word n t 0 n (omega arith) (λ e. omega arith), counter_comm (put_record_word led type_word n t) writable) (rw (counter_comm _ executable) (counter_comm _ linked))

  type_more : retype led 0 (suc n) t ≡ put_record_word (retype led 0 n t) type_word n t
  unfolding retype
  type_more = ap (λ (b : ℕ). put_record_word (retype led 0 n t) type_word b t) (zero-add n)

  one_more : recount (retype led 0 (suc n) t) (suc n) f ≡ put_counters (put_record_word (recount (retype led 0 n t) n f) type_word n t) n (λ c. f c n)
  unfolding recount
  one_more =
      ap (λ (l : List ℕ). put_counters (recount l n f) n (λ c. f c n)) type_more
      ∙ ap (λ (l : List ℕ). put_counters l n (λ c. f c n)) (type_recount_comm (retype led 0 n t) n t n f)

  marks_more : (l : List ℕ) → clear_marks l 0 (suc n) ≡ clear_mark (clear_marks l 0 n) n
  unfolding clear_marks
  marks_more l = ap (λ (b : ℕ). clear_mark (clear_marks l 0 n) b) (zero-add n)

  pub cleared_more : clear_mark (put_counters (put_record_word (clear_marks (recount (retype led 0 n t) n f) 0 n) type_word n t) n (λ c. f c n)) n ≡ clear_marks (recount (retype led 0 (n + 1) t) (n + 1) f) 0 (n + 1)
  cleared_more =
      let before = recount (retype led 0 n t) n f in
      rw add-one
      (ap (λ (l : List ℕ). clear_mark l n) (record_comm before ∙ ap (λ (l : List ℕ). clear_marks l 0 n) (sym one_more))
      ∙ sym (marks_more (recount (retype led 0 (suc n) t) (suc n) f)))
