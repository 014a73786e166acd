-- Words of the memory as entries of the tables told: a table's entries are read at its level, and D holds none.
use mathlib.Core.List.{List}
use mathlib.Core.Path.{◌≡◌, refl, ◌∙◌, ap}
use Prim.Native.Nat.{ℕ, ◌+◌, ◌-◌, ◌*◌, ◌/◌, ◌≤◌}
use native.Mathlib.Nat.{mul-add-div}
use native.Mathlib.Omega.{arith}
use Rattle.entries.specs.Entries.{fault, Level, l1, l2, entry_at}
use Rattle.rules.specs.Store.{block_words}
use Rattle.rules.specs.Tables.{type_d, type_code, typed_entry}
use Rattle.rules.specs.Steps.{Told}
use Rattle.rules.proofs.State.{entry_of}

typed_entry_table : (v : Level) (mem : List ℕ) (j : ℕ) → typed_entry (type_code v) mem j ≡ entry_at v mem j
unfolding typed_entry
typed_entry_table l1 mem j = refl
typed_entry_table l2 mem j = refl

typed_entry_data : (mem : List ℕ) (j : ℕ) → typed_entry type_d mem j ≡ fault
unfolding typed_entry
typed_entry_data mem j = refl

-- the block in which word i of a table at block p lies
pub word_block : (B p i : ℕ) → B ≤ p → B + (block_words * (p - B) + i) / block_words ≡ p + i / block_words
word_block B p i l = omega (arith, mul-add-div {m = block_words} (omega arith) (p - B) i)

-- word j, which lies in block q
module _ (B : ℕ) (h : Told) (mem : List ℕ) (j q : ℕ) (in_block : B + j / block_words ≡ q) where
  entry_of_type : (t : ℕ) → h.types q ≡ t → entry_of B h mem j ≡ typed_entry t mem j
  entry_of_type t e = ap (λ (x : ℕ). typed_entry x mem j) (ap h.types in_block ∙ e)

  pub entry_of_table : (v : Level) → h.types q ≡ type_code v → entry_of B h mem j ≡ entry_at v mem j
  entry_of_table v e = entry_of_type (type_code v) e ∙ typed_entry_table v mem j

  pub entry_of_data : h.types q ≡ type_d → entry_of B h mem j ≡ fault
  entry_of_data e = entry_of_type type_d e ∙ typed_entry_data mem j

-- Two memories

-- an entry is the same whatever its type if it is the same in tables of both levels
pub typed_entry_same : (mem mem' : List ℕ) (j : ℕ) → ((v : Level) → entry_at v mem j ≡ entry_at v mem' j) → (t : ℕ) → typed_entry t mem j ≡ typed_entry t mem' j
unfolding typed_entry
typed_entry_same mem mem' j h t = rw (h l1, h l2) refl
