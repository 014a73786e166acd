-- Refusal 13, looked for while the entries of a table are counted one by one (RULES: refusal, calls).
use Rattle.std.specs.Prelude.{Bool, true, false, cond, not, ◌&&◌, List, ◌≡◌, ℕ, ◌+◌, ◌-◌, ◌^◌, ◌<◌, ◌≤◌, leb}
use Rattle.words.specs.Bounded.{any}
use Rattle.entries.specs.Entries.{Entry}
use Rattle.rules.specs.Store.{counter_limit, Store, blocks, base, record_word, Counter, counter_word}
use Rattle.rules.specs.Tables.{gain}
use Rattle.rules.specs.General.{Change, added, removed, recounted}
use Rattle.ledger.specs.Counters.{entry_beyond, least_before}

-- refusal 13: the greatest value of a counter that can change by one on the way: one that is added to stays within its limit,
-- one that is taken from is judged at the end
abbrev pub most_of : Change → ℕ
most_of added = counter_limit - 1
most_of removed = 2 ^ 32 - 1

-- refusal 13: after k changes a counter that is added to has not passed its limit, and one that is taken from has not passed 0
abbrev pub Room : Change → ℕ → ℕ → Type 0
Room added old k = 0 < k → old + k ≤ counter_limit
Room removed old k = k ≤ old

-- refusal 13: so for every counter of the region, after the first i entries e
abbrev pub Roomy : Change → Store → ℕ → (ℕ → Entry) → Type 0
Roomy d s i e = (c : Counter) (b : ℕ) → b < blocks s → Room d (record_word s.ledger (counter_word c) b) (gain i e c (base s + b))

-- calls 3: the change that takes a change back
abbrev pub opposite : Change → Change
opposite added = removed
opposite removed = added

-- refusal 13: what counting the m entries e leaves: r of them are counted, and if there is a next one it cannot be
pub record Counted (d : Change) (s : Store) (m : ℕ) (e : ℕ → Entry) (r : ℕ) (ledger : List ℕ) : Type 0 where
  pub at_most : r ≤ m
  pub ledger_is : ledger ≡ recounted d s r e
  pub roomy : Roomy d s r e
  pub stuck : r < m → entry_beyond (least_before d) (most_of d) ledger (e r) ≡ true

-- refusal 13: when all m entries are counted, a counter that was taken from is above its limit
abbrev pub ends_above : Change → List ℕ → ℕ → (ℕ → Entry) → Bool
ends_above added ledger m e = false
ends_above removed ledger m e = any m (λ i. entry_beyond 0 counter_limit ledger (e i))

-- refusal 13: it does not apply: r, the number of entries counted, is all m, and no counter ends above its limit
abbrev pub complete : Change → List ℕ → ℕ → (ℕ → Entry) → ℕ → Bool
complete d ledger m e r = leb m r && not (ends_above d ledger m e)

-- refusal 13, calls 3: the ledger is the changed one and r is true, unless a counter would overrun: then it is the old one
pub record ChangedUnless (overrun : Bool) (changed old : List ℕ) (r : Bool) (ledger : List ℕ) : Type 0 where
  pub tells : r ≡ not overrun
  pub leaves : ledger ≡ cond r changed old
