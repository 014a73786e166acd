-- Pieces of the lists of refusals that are about the m entries e of a table (RULES: create, free).
use Rattle.std.specs.Prelude.{[], List, ◌∷◌, ℕ}
use Rattle.words.specs.Bounded.{any}
use Rattle.entries.specs.Entries.{Entry, Level, is_unaccepted}
use Rattle.rules.specs.Create.{misplaced, clashes, unsigned}
use Rattle.rules.specs.Refusals.{Refusal, ◌if◌}
use Rattle.rules.specs.Store.{Store, blocks, base, some_region_block}
use Rattle.rules.specs.Tables.{astray}

-- create 11, create 12: of a table that is created
abbrev pub executed_entries : List ℕ → Store → ℕ → (ℕ → Entry) → List Refusal
executed_entries golden s m e = 11 if some_region_block s (clashes s m e) ∷ 12 if some_region_block s (unsigned golden s m e) ∷ []

-- create 8, create 10, create 11, create 12: of a table that is created at block p
abbrev pub new_entries : Level → List ℕ → Store → ℕ → ℕ → (ℕ → Entry) → List Refusal
new_entries v golden s p m e =
    8 if any m (λ i. is_unaccepted (e i))
    ∷ 10 if any m (λ i. misplaced v s p (e i))
    ∷ executed_entries golden s m e

-- free 8, free 10: of a table that is freed
abbrev pub old_entries : Store → ℕ → (ℕ → Entry) → List Refusal
old_entries s m e = 8 if any m (λ i. is_unaccepted (e i)) ∷ 10 if any m (λ i. astray (base s) (blocks s) (e i)) ∷ []
