-- Tests of entries, one by one, by which 10 and 11 of create are looked for; counters are those of the ledger (RULES: create).
use Rattle.std.specs.Prelude.{Bool, ◌&&◌, ◌||◌, List, ℕ, ◌+◌, ltb}
use Rattle.words.specs.Bounded.{above}
use Rattle.entries.specs.Entries.{Entry, Level, entry_at, cover_first, cover_blocks}
use Rattle.rules.specs.Create.{unfit_link, unfit_write}
use Rattle.rules.specs.Store.{Store, record_word, Counter, writable, executable, counter_word, some_block}
use Rattle.rules.specs.Tables.{grants}
use Rattle.ledger.specs.Needs.{record_of}

-- entry i of the table whose first word is word j of the memory
abbrev pub entry_from : Level → List ℕ → ℕ → ℕ → Entry
entry_from v memory j i = entry_at v memory (j + i)

-- word k of the record of some block that the entry covers has q; no meaning for blocks below B
abbrev pub some_covered : List ℕ → ℕ → Entry → (ℕ → Bool) → Bool
some_covered ledger k e q = some_block (cover_first e) (cover_blocks e) (λ b. q (record_word ledger k (record_of ledger b)))

-- create 10: the entry links to a block that is not L2, or gives write to one that is not D or is of the table created at block p;
-- no meaning if its place lies outside the region
abbrev pub unfit : Level → Store → ℕ → Entry → Bool
unfit v s p e = unfit_link s e || unfit_write v s p e

-- create 11: the entry gives c to some block on which d is counted
unfoldable pub meets : Counter → Counter → List ℕ → Entry → Bool
meets c d ledger e = grants c e && some_covered ledger (counter_word d) e (λ x. above x 0)

-- create 11: the entry gives write to a block with x above 0, or execute to one with w above 0
unfoldable pub meets_count : List ℕ → Entry → Bool
meets_count ledger e = meets writable executable ledger e || meets executable writable ledger e

-- create 10: the m blocks from p on and the n from q on have one in common; no meaning if m or n is 0
abbrev pub overlap : ℕ → ℕ → ℕ → ℕ → Bool
overlap p m q n = ltb p (q + n) && ltb q (p + m)
