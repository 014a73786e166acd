-- What functions require: words of the memory, records of the ledger, entries with their places in the region (RULES: calls, ledger, create, free).
use Rattle.std.specs.Prelude.{false, List, ◌≡◌, ℕ, ◌+◌, ◌*◌, ◌%◌, ◌<◌, ◌≤◌, length}
use Rattle.words.specs.Words.{word}
use Rattle.entries.specs.Entries.{Entry, Level, run_words, is_unaccepted, cover_first, cover_blocks}
use Rattle.rules.specs.Store.{base_place, lent, blocks, base}
use Rattle.rules.specs.Tables.{astray}
use Rattle.ledger.specs.Needs.{InLedger, Fits, record_of}
use Rattle.validation.specs.Tests.{entry_from}

-- calls 1, entries 21: the m words from word j on lie in the memory, which is a multiple of sixteen words long: so do the aligned sixteen around each
abbrev pub HoldsWords : List ℕ → ℕ → ℕ → Type 0
HoldsWords memory j m = (4 * (j + m) ≤ length memory) × (length memory % (4 * run_words) ≡ 0)

-- ledger 1: the ledger has a record for each block that the entry covers
abbrev pub CoverRecorded : List ℕ → Entry → Type 0
CoverRecorded ledger e = (word ledger base_place ≤ cover_first e) × InLedger ledger (record_of ledger (cover_first e) + cover_blocks e)

-- create 10, free 10: the place of the entry lies in the region, if it has one
abbrev pub InRegion : List ℕ → List ℕ → Entry → Type 0
InRegion memory ledger e = astray (base (lent memory ledger)) (blocks (lent memory ledger)) e ≡ false

-- refusal 1, create 10, free 10: 1 does not apply, and the place of the entry lies in the region, if it has one
abbrev pub Placed : List ℕ → List ℕ → Entry → Type 0
Placed memory ledger e = Fits memory ledger × InRegion memory ledger e

-- create 10, free 10: the places of the m entries from word j on lie in the region
abbrev pub AllPlaced : Level → List ℕ → List ℕ → ℕ → ℕ → Type 0
AllPlaced v memory ledger j m = (i : ℕ) → i < m → InRegion memory ledger (entry_from v memory j i)

-- create 8, free 8: these entries are accepted
abbrev pub AllAccepted : Level → List ℕ → ℕ → ℕ → Type 0
AllAccepted v memory j m = (i : ℕ) → i < m → is_unaccepted (entry_from v memory j i) ≡ false

-- refusal 1, create 8, create 10, free 8, free 10: 1 does not apply, and the m entries from word j on can be read, are accepted and have their places in the
-- region
pub record TablePlaced (v : Level) (memory ledger : List ℕ) (j m : ℕ) : Type 0 where
  pub fits : Fits memory ledger
  pub holds : HoldsWords memory j m
  pub accepted : AllAccepted v memory j m
  pub placed : AllPlaced v memory ledger j m
