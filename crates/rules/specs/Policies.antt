-- What walks grant, from every table to which a switch is accepted (RULES: policies).
use Rattle.std.specs.Prelude.{Bool, true, false, not, List, [], ◌∷◌, ◌⊎◌, ◌≢◌, ◌≡◌, ℕ, suc, ◌+◌, ◌-◌, ◌*◌, ◌%◌, ◌≤◌, ◌<◌, get_or}
use Rattle.std.proofs.Math.Option.{some}
use Rattle.std.proofs.Math.ListN.{get_elem?}
use Rattle.entries.specs.Entries.{Entry, page, Level, l2, entry_at, is_large}
use Rattle.rules.specs.Store.{block_bytes, block_words, Store, blocks, writable, executable}
use Rattle.rules.specs.Signature.{contents, signed_block}
use Rattle.signature.specs.Signed.{misfit_image}
use Rattle.rules.specs.Tables.{type_code, table_entries, Form, sections, pages, larges, level}
use Rattle.entries.specs.Rights.{Right, write, execute, allows}
use Rattle.rules.specs.Begin.{begin_outcome}
use Rattle.rules.specs.Map.{first_kind}
use Rattle.rules.specs.Switch.{switch_outcome}
use Rattle.rules.specs.Guest.{ends, walk, Access, fetches}
use Rattle.rules.specs.Steps.{Step, frees, maps, unmaps, accesses, run, Told, Root}
use Rattle.rules.specs.Demand3.{counted, store_at, told_at}

-- policies reach: an L1 table of the tables told that lies in the region
abbrev pub Switchable : Told → Store → ℕ → Type 0
Switchable h s p = Root h.B (blocks s) h.types p

-- policies 1: the table of the last accepted switch is such a table
abbrev pub ActiveSwitchable : Told → Store → Type 0
ActiveSwitchable h s = (p : ℕ) → h.table ≡ some p → Switchable h s p

-- policies 1: a switch to such a table is accepted, and a switch to anything else is not
abbrev pub SwitchesToTables : Told → Store → Type 0
SwitchesToTables h s = (p : ℕ) → ((switch_outcome s p).answer ≡ 0 → Switchable h s p) × (Switchable h s p → (switch_outcome s p).answer ≡ 0)

-- policies reach: some address leads to physical block p with this right, through some such table
pub record Accessible (h : Told) (s : Store) (right : Right) (p : ℕ) : Type 0 where
  pub table : ℕ
  pub address : ℕ
  pub level : Level
  pub rights : ℕ
  pub switchable : Switchable h s table
  pub walked : walk h.B (blocks s) s.memory table address ≡ ends level p rights
  pub allowed : allows rights right ≡ true

-- policies 2: no block is reached both with write and with execute
abbrev pub Exclusive : Told → Store → Type 0
Exclusive h s = (p : ℕ) → Accessible h s write p → Accessible h s execute p → ⊥

-- policies reach: block p is reached with execute (source document 002 calls such blocks the working set)
abbrev pub InWorkingSet : Told → Store → ℕ → Type 0
InWorkingSet h s p = Accessible h s execute p

-- policies 3: a block that is reached with execute is signed
abbrev pub Integrity : Told → Store → Type 0
Integrity h s = (p : ℕ) → InWorkingSet h s p → signed_block h.golden h.B s.memory p ≡ true

-- policies 4: each block of the region has the same bytes afterwards, or is reached with write
abbrev pub AltersWritableOnly : Told → Store → Store → Type 0
AltersWritableOnly h s after = (b : ℕ) → b < blocks s → (contents after.memory b ≡ contents s.memory b) ⊎ Accessible h s write (h.B + b)

-- policies 5: each block whose x, read afresh, is above 0 has the same bytes afterwards, whether a walk leads there or not
abbrev pub KeepsExecutable : Told → Store → Store → Type 0
KeepsExecutable h s after = (b : ℕ) → b < blocks s → 0 < counted h s executable b → contents after.memory b ≡ contents s.memory b

-- policies 5: so has each block that is reached with execute
abbrev pub KeepsWorkingSet : Told → Store → Store → Type 0
KeepsWorkingSet h s after = (p : ℕ) → InWorkingSet h s p → contents after.memory (p - h.B) ≡ contents s.memory (p - h.B)

-- policies 6: each walk from such a table is the same afterwards
abbrev pub KeepsWalks : Told → Store → Store → Type 0
KeepsWalks h s after = (table addr : ℕ) → Switchable h s table → walk h.B (blocks s) after.memory table addr ≡ walk h.B (blocks s) s.memory table addr

-- policies 7: the byte is of a block that is reached with execute, and signed
pub record FetchedCode (h : Told) (s : Store) (addr byte : ℕ) : Type 0 where
  pub block : ℕ
  pub executes : InWorkingSet h s block
  pub taken : byte ≡ get_or (contents s.memory (block - h.B)) (addr % block_bytes) 0
  pub signs : signed_block h.golden h.B s.memory block ≡ true

-- policies 9: entry i of the L2 block p is a page of the signed block t with read and write; no other entry makes t writable,
-- and none makes p executable
pub record WritableByOneEntry (h : Told) (s : Store) (p i t : ℕ) : Type 0 where
  pub inside : (h.B ≤ p) × (p < h.B + blocks s)
  pub table : h.types p ≡ type_code l2
  pub index : i < table_entries l2
  pub entry : entry_at l2 s.memory (block_words * (p - h.B) + i) ≡ page t 3
  pub alone : counted h s writable (t - h.B) ≡ 1
  pub holder : counted h s executable (p - h.B) ≡ 0
  pub signs : signed_block h.golden h.B s.memory t ≡ true

-- policies 9: the entry is taken away, entered with read and execute, taken away, and entered with read and write
abbrev pub there_and_back : ℕ → ℕ → ℕ → List Step
there_and_back p i t = unmaps pages p i ∷ maps pages p i t 5 first_kind ∷ unmaps pages p i ∷ maps pages p i t 3 first_kind ∷ []

-- policies 8: the entry is none that this unmap is for: unmap L2 meets an entry of a large page, unmap large any other
unfoldable pub for_another : Form → Entry → Bool
for_another sections e = false
for_another pages e = is_large e
for_another larges e = not (is_large e)

-- Lists of steps, from the store s that a begin with these kinds and B left

module _ (golden kinds : List ℕ) (B : ℕ) (s : Store) (steps : List Step) where
  -- policies 1, policies 2, policies 3, policies 9: P at the start and after each step
  abbrev pub Always : (Told → Store → Type 0) → Type 0
  Always P = (i : ℕ) → P (told_at golden kinds B s steps i) (store_at golden s steps i)

  -- policies 4, policies 5, policies 6: P from before to after each guest step
  abbrev pub AtGuestSteps : (Told → Store → Store → Type 0) → Type 0
  AtGuestSteps P = (i : ℕ) (a : Access) (registers : List ℕ) (addr : ℕ) → get_elem? steps i ≡ some (accesses a registers addr)
      → P (told_at golden kinds B s steps i) (store_at golden s steps i) (store_at golden s steps (suc i))

  -- policies 8: wherever the list has this step, it is answered neither 8 nor 10
  abbrev pub MeetsSoundEntries : Step → Type 0
  MeetsSoundEntries step = (i k : ℕ) → get_elem? steps i ≡ some step → get_elem? (run golden s steps).answers i ≡ some k → (k ≢ 8) × (k ≢ 10)

  -- policies 8: wherever the list has this unmap, it is not answered 10, and 8 only at an entry that it is not for
  abbrev pub MeetsItsEntries : Form → ℕ → ℕ → Type 0
  MeetsItsEntries f p j = (i k : ℕ) → get_elem? steps i ≡ some (unmaps f p j) → get_elem? (run golden s steps).answers i ≡ some k
      → (k ≢ 10) × (k ≡ 8 → for_another f (entry_at (level f) (store_at golden s steps i).memory (block_words * (p - (told_at golden kinds B s steps i).B) + j)) ≡ true)

  -- policies 1, policies 2, policies 3, policies 4, policies 5, policies 6, policies 7, policies 8, policies 9: all of these, of one list
  pub record Policies : Type 0 where
    -- policies 2, policies 3: of the blocks that are reached
    pub exclusive : Always Exclusive
    pub integrity : Always Integrity
    -- policies 1: of the tables through which they are
    pub active : Always ActiveSwitchable
    pub switches : Always SwitchesToTables
    -- policies 4, policies 5, policies 6: what guest steps leave as it is
    pub alters_writable : AtGuestSteps AltersWritableOnly
    pub keeps_executable : AtGuestSteps KeepsExecutable
    pub keeps_working_set : AtGuestSteps KeepsWorkingSet
    pub keeps_walks : AtGuestSteps KeepsWalks
    -- policies 7: what the guest executes
    pub fetched : (i : ℕ) (registers : List ℕ) (addr byte : ℕ) → get_elem? steps i ≡ some (accesses fetches registers addr)
        → get_elem? (run golden s steps).answers i ≡ some 0 → get_elem? (run golden s steps).bytes i ≡ some byte
        → FetchedCode (told_at golden kinds B s steps i) (store_at golden s steps i) addr byte
    -- policies 8: no entry is held against a free, and against an unmap only that it is not for it
    pub free_sound : (v : Level) (p : ℕ) → MeetsSoundEntries (frees v p)
    pub unmap_sound : (f : Form) (p j : ℕ) → MeetsItsEntries f p j
    -- policies 9: the four calls are accepted, if the image's length is lawful
    pub in_turn : misfit_image golden ≡ false → (p j t : ℕ) → Always (λ h now. WritableByOneEntry h now p j t → (run golden now (there_and_back p j t)).answers ≡ (0 ∷ 0 ∷ 0 ∷ 0 ∷ []))

-- lists 2, lists 3: the policies hold of every list from every accepted begin on, as the claim about lists does
abbrev pub Policies-hold : Type 0
Policies-hold =
    (golden : List ℕ) (start : Store) (kinds : List ℕ) (B : ℕ) → (begin_outcome start kinds B).answer ≡ 0
    → (steps : List Step) → Policies golden kinds B (begin_outcome start kinds B).after steps
