-- What functions require: a table whose entries can be counted, and counters that can change (RULES: refusal, calls).
use Rattle.std.specs.Prelude.{List, ℕ, ◌+◌, ◌*◌, ◌^◌, ◌<◌, ◌≤◌}
use Rattle.entries.specs.Entries.{Entry, Level}
use Rattle.rules.specs.Store.{block_words, Store, blocks, base, record_word, Counter, counter_word}
use Rattle.rules.specs.Tables.{table_entries, gain}
use Rattle.rules.specs.General.{Change, added, removed}
use Rattle.ledger.specs.Needs.{Fits, TableInside, record_of}
use Rattle.validation.specs.Needs.{AllAccepted, AllPlaced}

-- refusal 1, refusal 2, create 8, create 10, free 8, free 10: 1 and 2 do not apply to a table at block p, and its entries are accepted and have their places in
-- the region
pub record TableReady (v : Level) (memory ledger : List ℕ) (p : ℕ) : Type 0 where
  pub fits : Fits memory ledger
  pub inside : TableInside v memory ledger p
  pub accepted : AllAccepted v memory (block_words * record_of ledger p) (table_entries v)
  pub placed : AllPlaced v memory ledger (block_words * record_of ledger p) (table_entries v)

-- calls 1: a counter can change by k and does not overflow
abbrev pub Storable : Change → ℕ → ℕ → Type 0
Storable added old k = old + k < 2 ^ 32
Storable removed old k = k ≤ old

-- calls 1: so for every counter of the region, by the first i entries e
abbrev pub AllStorable : Change → Store → ℕ → (ℕ → Entry) → Type 0
AllStorable d s i e = (c : Counter) (b : ℕ) → b < blocks s → Storable d (record_word s.ledger (counter_word c) b) (gain i e c (base s + b))
