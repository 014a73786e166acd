-- Laws of accesses: which refusal answers, what the registers then are, and that the byte of an accepted one lies in the memory, in a block that has its record.
use mathlib.Core.Bool.{Bool, true, false, false≢true}
use mathlib.Core.List.{List, [], ◌∷◌}
use mathlib.Core.Logic.{◌≢◌}
use mathlib.Core.Path.{◌≡◌, refl, ◌∙◌}
use Prim.Native.Nat.{ℕ, zero, suc, ◌+◌, ◌*◌, ◌/◌, ◌<◌, ◌≤◌}
use native.Mathlib.Omega.{arith}
use lib.ListN.{length, get_or}
use Rattle.words.proofs.Bounded.{differ, same, or_false_left}
use Rattle.entries.specs.Entries.{l1}
use Rattle.rules.specs.Refusals.{Refusal, ◌if◌, answer_of}
use Rattle.rules.specs.Store.{block_bytes, Store, base, blocks, active, misfit_stored}
use Rattle.rules.specs.Outcomes.{Accepted, settle}
use Rattle.rules.specs.Registers.{registers_bytes, misfit_registers}
use Rattle.rules.specs.Guest.{Walk, stops, ends, byte_index, written, unmarked, byte_given, Access, walk_refusals, active_walk, no_active_table, guest_refusals, guest_accepted, guest_outcome, walk_level, registers_after, guest_registers}
use Rattle.rules.specs.Tables.{table_blocks}
use Rattle.rules.specs.General.{misaligned, table_outside}
use Rattle.rules.proofs.State.{fits_stored, within}
use Rattle.ledger.specs.Needs.{InLedger}
use Rattle.ledger.proofs.Judge.{refuses}
use Rattle.guest.specs.declared.access.Access as access
use Rattle.guest.specs.declared.access.Access.TheVariants.{Read, Fetch, Write}
use Rattle.guest.specs.Meaning.{access_of}
use Rattle.guest.specs.Needs.{Loads}
use Rattle.guest.proofs.Walking.{InRegion, walk_in_region}

-- The byte

-- the test that refuses, if one of a single test does
only : {k n : ℕ} (t : Bool) → n ≡ answer_of (k if t ∷ []) → n ≢ 0 → (n ≡ k) × (t ≡ true)
unfolding answer_of
only true e z = (e, refl)
only false e z = absurd (z e)

ends_within : (a : Access) (B n addr : ℕ) (w : Walk) → InRegion B n w → 0 ≡ answer_of (walk_refusals a w) → byte_index B addr w < block_bytes * n
unfolding walk_refusals answer_of byte_index InRegion
ends_within a B n addr (stops v k) i e = let z : ⊥ = omega arith in absurd z
ends_within a B n addr (ends v p r) i e = omega arith

-- where no refusal applies, the byte lies in the memory, and its block has a record
pub byte_lies : (a : Access) (s : Store) (addr : ℕ) → misfit_stored s ≡ false → 0 ≡ answer_of (walk_refusals a (active_walk s addr))
    → let j = byte_index (base s) addr (active_walk s addr) in (j < length s.memory) × InLedger s.ledger (j / block_bytes + 1)
byte_lies a s addr e q =
    let f = fits_stored s e in
    let l : byte_index (base s) addr (active_walk s addr) < block_bytes * blocks s = ends_within a (base s) (blocks s) addr (active_walk s addr) (walk_in_region (base s) (blocks s) addr s.memory (active s)) q in
    (omega arith, omega arith)

-- a read and a fetch store nothing, and give the byte
pub loaded : (access : access.Access) (s : Store) (j : ℕ) → Loads access
    → (s ≡ record { memory = written (access_of access) s.memory j; ledger = unmarked (access_of access) s.ledger j }) × (get_or s.memory j 0 ≡ byte_given (access_of access) s.memory j)
unfolding written unmarked byte_given
loaded Read s j l = (refl, refl)
loaded Fetch s j l = (refl, refl)
loaded (Write v) s j l = absurd l

-- The table in use

pub table_within : (s : Store) → 0 ≡ answer_of (21 if no_active_table s ∷ []) → (base s ≤ active s) × (active s + table_blocks l1 ≤ base s + blocks s)
unfolding answer_of
table_within s = go (no_active_table s) refl where
  go : (t : Bool) → no_active_table s ≡ t → 0 ≡ answer_of (21 if t ∷ []) → (base s ≤ active s) × (active s + table_blocks l1 ≤ base s + blocks s)
  go true e o = let z : ⊥ = omega arith in absurd z
  go false e o = within (base s) (blocks s) (active s) (table_blocks l1) (or_false_left (table_outside l1 s (active s)) (misaligned (active s) (table_blocks l1)) e)

-- The answer and the registers

answer_is : (s : Store) (new : Accepted) (k : ℕ) → (settle k s new).answer ≡ k
unfolding settle
answer_is s new zero = refl
answer_is s new (suc k) = refl

module _ (a : Access) (s : Store) (registers : List ℕ) (addr : ℕ) where
  abbrev refusals : List Refusal
  refusals = guest_refusals a s registers addr

  -- n answers, and these are the registers that are left
  abbrev pub Said : ℕ → List ℕ → Type 0
  Said n left = (n ≡ answer_of refusals) × (left ≡ guest_registers a s registers addr)

  said : {n : ℕ} {left : List ℕ} → n ≡ answer_of refusals → left ≡ registers_after a registers addr (walk_level (active_walk s addr)) n → Said n left
  unfolding guest_registers guest_outcome
  said e l = (e, l ∙ rw (e, answer_is s (guest_accepted a s addr) (answer_of refusals)) refl)

  pub said_1_registers : length registers ≢ registers_bytes → Said 1 registers
  unfolding answer_of registers_after
  said_1_registers h = said (go (misfit_stored s)) refl where
    go : (f : Bool) → 1 ≡ answer_of (1 if f ∷ 1 if misfit_registers registers ∷ 21 if no_active_table s ∷ walk_refusals a (active_walk s addr))
    go true = refl
    go false = rw (differ (length registers) registers_bytes h) refl

  pub said_1 : {n : ℕ} → n ≡ answer_of (1 if misfit_stored s ∷ []) → n ≢ 0 → Said n registers
  unfolding answer_of registers_after
  said_1 e z = let (k, t) = only (misfit_stored s) e z in rw k (said (rw t refl) refl)

  module _ (fits : misfit_stored s ≡ false) (whole : length registers ≡ registers_bytes) where
    pub said_21 : {n : ℕ} → n ≡ answer_of (21 if no_active_table s ∷ []) → n ≢ 0 → Said n registers
    unfolding answer_of registers_after
    said_21 e z = let (k, t) = only (no_active_table s) e z in rw k (said (rw (fits, same (length registers) registers_bytes whole, t) refl) refl)

    -- what the walk answers
    pub said_walk : {n : ℕ} → 0 ≡ answer_of (21 if no_active_table s ∷ []) → n ≡ answer_of (walk_refusals a (active_walk s addr))
        → Said n (registers_after a registers addr (walk_level (active_walk s addr)) n)
    unfolding answer_of
    said_walk o e = said (e ∙ go (no_active_table s) o) refl where
      go : (t : Bool) → 0 ≡ answer_of (21 if t ∷ [])
          → answer_of (walk_refusals a (active_walk s addr)) ≡ answer_of (1 if misfit_stored s ∷ 1 if misfit_registers registers ∷ 21 if t ∷ walk_refusals a (active_walk s addr))
      go true o = let z : ⊥ = omega arith in absurd z
      go false o = rw (fits, same (length registers) registers_bytes whole) refl

  -- What an access leaves and gives

  pub outcome_refused : {n : ℕ} → n ≡ answer_of refusals → n ≢ 0 → guest_outcome a s registers addr ≡ record { answer = n; after = s; byte = 0; hashed = 0 }
  unfolding guest_outcome settle
  outcome_refused e z = rw (← e) (go _ z) where
    go : (k : ℕ) → k ≢ 0 → settle k s (guest_accepted a s addr) ≡ record { answer = k; after = s; byte = 0; hashed = 0 }
    go zero z = absurd (z refl)
    go (suc k) z = refl

  -- registers of another length
  pub outcome_misfit : misfit_registers registers ≡ true
      → (guest_outcome a s registers addr ≡ record { answer = 1; after = s; byte = 0; hashed = 0 }) × (registers ≡ guest_registers a s registers addr)
  outcome_misfit misfit =
      let (answer, left) = said_1_registers (λ e. false≢true (rw e at misfit)) in
      (outcome_refused answer (λ z. let f : ⊥ = omega arith in absurd f), left)

  pub outcome_accepted : 0 ≡ answer_of refusals → let new = guest_accepted a s addr in guest_outcome a s registers addr ≡ record { answer = 0; after = new.store; byte = new.byte; hashed = new.hashed }
  unfolding guest_outcome settle
  outcome_accepted e = rw (← e) refl

-- what load and write need
pub ruleset outcomes = (loaded, outcome_refused, outcome_accepted, refuses)
