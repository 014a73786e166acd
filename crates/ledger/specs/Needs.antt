-- What functions require: of lengths, of places in the region, and of counters (RULES: memory, ledger, refusal, calls).
use Rattle.std.specs.Prelude.{true, false, List, ◌≡◌, ℕ, ◌+◌, ◌-◌, ◌*◌, ◌^◌, ◌<◌, ◌≤◌, length}
use Rattle.words.specs.Words.{word}
use Rattle.entries.specs.Entries.{Entry, Level, cover_first, cover_blocks}
use Rattle.rules.specs.Store.{ledger_head_bytes, ledger_record_bytes, base_place, lent, base, blocks, Counter, counter_word, record_word, outside, misfit_stored}
use Rattle.rules.specs.Tables.{grants}
use Rattle.rules.specs.General.{Change, added, removed, table_outside}

-- ledger 1: the ledger holds the records of the first n blocks
abbrev pub InLedger : List ℕ → ℕ → Type 0
InLedger ledger n = ledger_head_bytes + ledger_record_bytes * n ≤ length ledger

-- refusal 1: it does not apply to the memory, the ledger and what stands in its head
abbrev pub Fits : List ℕ → List ℕ → Type 0
Fits memory ledger = misfit_stored (lent memory ledger) ≡ false

-- refusal 2: a table at block p lies in the region
abbrev pub TableInside : Level → List ℕ → List ℕ → ℕ → Type 0
TableInside v memory ledger p = table_outside v (lent memory ledger) p ≡ false

-- memory 3: the m blocks from p on lie in the region
abbrev pub BlocksInside : List ℕ → List ℕ → ℕ → ℕ → Type 0
BlocksInside memory ledger p m = outside (base (lent memory ledger)) (blocks (lent memory ledger)) p m ≡ false

-- memory 3: they do if the entry grants something that is counted
abbrev pub GrantsInside : List ℕ → List ℕ → Entry → ℕ → ℕ → Type 0
GrantsInside memory ledger e p m = (c : Counter) → grants c e ≡ true → BlocksInside memory ledger p m

-- ledger 1, memory 3: the number of the record of block p; no meaning for a block below B
abbrev pub record_of : List ℕ → ℕ → ℕ
record_of ledger p = p - word ledger base_place

-- ledger 1: the ledger has a record for each of the m blocks from p on if the entry grants something that is counted
abbrev pub GrantsRecorded : List ℕ → Entry → ℕ → ℕ → Type 0
GrantsRecorded ledger e p m = (c : Counter) → grants c e ≡ true → (word ledger base_place ≤ p) × InLedger ledger (record_of ledger p + m)

-- ledger 1: so for the blocks that the entry covers
abbrev pub EntryRecorded : List ℕ → Entry → Type 0
EntryRecorded ledger e = GrantsRecorded ledger e (cover_first e) (cover_blocks e)

-- calls 1: a stored value can change by one and does not overflow
abbrev pub Changeable : Change → ℕ → Type 0
Changeable added old = old + 1 < 2 ^ 32
Changeable removed old = 0 < old

-- calls 1: so for a counter that the entry grants, on each of the m blocks from p on
abbrev pub Countable : Change → List ℕ → Counter → Entry → ℕ → ℕ → Type 0
Countable d ledger c e p m = grants c e ≡ true → (i : ℕ) → i < m → Changeable d (record_word ledger (counter_word c) (record_of ledger p + i))
