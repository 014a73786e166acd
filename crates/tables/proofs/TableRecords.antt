-- The records of a table's blocks: a scan for any counter is a scan for each of the three.
use mathlib.Core.Bool.{Bool, ◌||◌}
use mathlib.Core.List.{List}
use mathlib.Core.Path.{◌≡◌, refl, sym, ◌∙◌, ap₂}
use Prim.Native.Nat.{ℕ, ◌+◌, ◌-◌, ◌≤◌}
use native.Mathlib.Numerals.{add-one}
use Rattle.words.specs.Bounded.{above, any}
use Rattle.words.proofs.Bounded.{any_or}
use Rattle.entries.specs.Entries.{Level}
use Rattle.rules.specs.Store.{Store, base, record_word, put_record_word, type_word, Counter, writable, executable, linked, counter_word, some_counter, counter, some_block, retype}
use Rattle.rules.specs.Tables.{table_blocks}
use Rattle.rules.specs.Create.{some_count}
use Rattle.ledger.proofs.Blocks.{some_block_records}

-- the scans of create's refusal 6
module _ (v : Level) (s : Store) (p : ℕ) (low : base s ≤ p) where
  abbrev pub counts : Counter → Bool
  counts c = any (table_blocks v) (λ i. above (record_word s.ledger (counter_word c) (p - base s + i)) 0)

  abbrev at : Counter → ℕ → Bool
  at c k = above (counter c s (p + k)) 0

  scan_is : (c : Counter) → any (table_blocks v) (at c) ≡ counts c
  unfolding some_block
  scan_is c = sym (some_block_records (base s) p (table_blocks v) (λ x. above (record_word s.ledger (counter_word c) x) 0) low)

  pub some_count_is : some_count v s p ≡ (counts writable || counts executable || counts linked)
  unfolding some_count some_counter some_block
  some_count_is =
      any_or (table_blocks v) (λ k. at writable k || at executable k) (at linked)
      ∙ ap₂ ◌||◌ (any_or (table_blocks v) (at writable) (at executable) ∙ ap₂ ◌||◌ (scan_is writable) (scan_is executable)) (scan_is linked)

pub retype_more : (ledger : List ℕ) (b m t : ℕ) → retype ledger b (m + 1) t ≡ put_record_word (retype ledger b m t) type_word (b + m) t
unfolding retype
retype_more ledger b m t = rw add-one refl
