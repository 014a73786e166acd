-- The claim about a whole list of steps: demand 3, that what is marked is signed, that the kinds are those of begin, that an acknowledge changes nothing, and that
-- neither 13 nor 24 is answered (RULES: lists).
use Rattle.std.specs.Prelude.{true, List, ◌≢◌, ◌≡◌, ℕ, suc, ◌+◌, ◌≤◌, ◌<◌, take, get_or}
use Rattle.std.proofs.Math.Option.{some}
use Rattle.std.proofs.Math.ListN.{get_elem?}
use Rattle.entries.specs.Entries.{Level}
use Rattle.rules.specs.Store.{Store, kinds_of, blocks, Counter, writable, executable, record_word, counter_word, mark_word, mark_value}
use Rattle.rules.specs.Signature.{contents, signed_block}
use Rattle.rules.specs.Outcomes.{Outcome}
use Rattle.rules.specs.Tables.{type_d}
use Rattle.rules.specs.Begin.{begin_outcome}
use Rattle.rules.specs.Guest.{ends, walk, byte_index, Access, fetches}
use Rattle.rules.specs.Steps.{Step, accesses, acknowledges, obey, run_by, Told, begun, history, afresh}

-- lists 6: w, x or l of block b, b counted from the region's first, read afresh
abbrev pub counted : Told → Store → Counter → ℕ → ℕ
counted h s c b = afresh h (blocks s) s.memory c (h.B + b)

-- lists 7, lists 8, lists 9, lists 14, lists 15: what holds of the region's blocks, and of the kinds, at a moment
pub record Safe (h : Told) (s : Store) : Type 0 where
  -- lists 7: none is both writable and executable
  pub exclusive : (b : ℕ) → b < blocks s → 0 < counted h s writable b → 0 < counted h s executable b → ⊥
  -- lists 8: each executable one is signed, by its number and its present bytes
  pub signs : (b : ℕ) → b < blocks s → 0 < counted h s executable b → signed_block h.golden h.B s.memory (h.B + b) ≡ true
  -- lists 9: the ledger's counters are the counts read afresh
  pub honest : (c : Counter) (b : ℕ) → b < blocks s → record_word s.ledger (counter_word c) b ≡ counted h s c b
  -- lists 15: the ledger's kinds are those of the last accepted begin
  pub kinds_kept : kinds_of s.ledger ≡ h.kinds
  -- lists 14: each marked one is signed, by its number and its present bytes
  pub believed : (b : ℕ) → b < blocks s → record_word s.ledger mark_word b ≡ mark_value → signed_block h.golden h.B s.memory (h.B + b) ≡ true

-- lists 10: each block of the tables told has the same bytes afterwards
abbrev pub KeepsTables : Told → Store → Store → Type 0
KeepsTables h s after = (b : ℕ) → b < blocks s → h.types (h.B + b) ≢ type_d → contents after.memory b ≡ contents s.memory b

-- lists 11: the byte is at the end of the address's walk from the table of the last accepted switch, and that is in a signed block of the region
pub record Fetched (h : Told) (s : Store) (addr byte : ℕ) : Type 0 where
  pub table : ℕ
  pub level : Level
  pub block : ℕ
  pub rights : ℕ
  pub switched : h.table ≡ some table
  pub walked : walk h.B (blocks s) s.memory table addr ≡ ends level block rights
  pub inside : (h.B ≤ block) × (block < h.B + blocks s)
  pub taken : byte ≡ get_or s.memory (byte_index h.B addr (ends level block rights)) 0
  pub signs : signed_block h.golden h.B s.memory block ≡ true

-- Lists of steps from the store s that a begin with these kinds and B left; by says what comes of a step

module _ (by : Store → Step → Outcome) (golden kinds : List ℕ) (B : ℕ) (s : Store) (steps : List Step) where
  -- lists 3: the store that the first i steps reach
  abbrev pub store_by : ℕ → Store
  store_by i = (run_by by s (take i steps)).reached

  -- lists 4, lists 5: what the first i steps told, with their answers
  abbrev pub told_by : ℕ → Told
  told_by i = history (begun kinds B golden) (take i steps) (run_by by s steps).answers

  -- lists 7, lists 8, lists 9, lists 10, lists 11, lists 12, lists 14, lists 15, lists 16: the claim
  pub record Claim : Type 0 where
    -- lists 7, lists 8, lists 9, lists 14, lists 15: at the start and after each step
    pub safe : (i : ℕ) → Safe (told_by i) (store_by i)
    -- lists 10: no guest step changes a table
    pub guarded : (i : ℕ) (a : Access) (registers : List ℕ) (addr : ℕ) → get_elem? steps i ≡ some (accesses a registers addr) → KeepsTables (told_by i) (store_by i) (store_by (suc i))
    -- lists 11: a byte that is fetched is of a signed block
    pub fetched : (i : ℕ) (registers : List ℕ) (addr byte : ℕ) → get_elem? steps i ≡ some (accesses fetches registers addr)
        → get_elem? (run_by by s steps).answers i ≡ some 0 → get_elem? (run_by by s steps).bytes i ≡ some byte
        → Fetched (told_by i) (store_by i) addr byte
    -- lists 16: an acknowledge changes neither memory nor ledger
    pub untouched : (i : ℕ) (registers : List ℕ) → get_elem? steps i ≡ some (acknowledges registers) → store_by (suc i) ≡ store_by i
    -- lists 12: no answer is 13 or 24
    pub never : (i k : ℕ) → get_elem? (run_by by s steps).answers i ≡ some k → (k ≢ 13) × (k ≢ 24)

-- lists 3: the store that the first i steps reach, where they are calls that are lent one image
abbrev pub store_at : List ℕ → Store → List Step → ℕ → Store
store_at golden s steps i = (run_by (obey golden) s (take i steps)).reached

-- lists 4, lists 5: what such steps told
abbrev pub told_at : List ℕ → List ℕ → ℕ → Store → List Step → ℕ → Told
told_at golden kinds B s steps i = told_by (obey golden) golden kinds B s steps i

-- lists 7, lists 8, lists 9, lists 10, lists 11, lists 12, lists 14, lists 15, lists 16: the claim about such steps
abbrev pub Demand3 : List ℕ → List ℕ → ℕ → Store → List Step → Type 0
Demand3 golden kinds B s steps = Claim (obey golden) golden kinds B s steps

-- lists 2, lists 3, lists 13: the claim about every list from every accepted begin on, over any memory and ledger, under any image
abbrev pub Demand3-holds : Type 0
Demand3-holds =
    (golden : List ℕ) (start : Store) (kinds : List ℕ) (B : ℕ) → (begin_outcome start kinds B).answer ≡ 0
    → (steps : List Step) → Demand3 golden kinds B (begin_outcome start kinds B).after steps
