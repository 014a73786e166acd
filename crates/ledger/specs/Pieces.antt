-- Pieces of the lists of refusals that several calls share: where a table lies, its type, and the kinds in a word (RULES: refusal).
use Rattle.std.specs.Prelude.{Bool, ◌||◌, List, [], ◌∷◌, ℕ, ◌/◌, ◌%◌, ◌^◌}
use Rattle.words.specs.Bounded.{above}
use Rattle.entries.specs.Entries.{Level}
use Rattle.rules.specs.Refusals.{Refusal, ◌if◌}
use Rattle.rules.specs.Store.{Store, greatest_kind, misfit_stored}
use Rattle.rules.specs.Tables.{table_blocks}
use Rattle.rules.specs.General.{table_outside, misaligned, other_type}

-- refusal 1: of the memory, the ledger and what stands in its head
abbrev pub misfit_refusals : Store → List Refusal
misfit_refusals s = 1 if misfit_stored s ∷ []

-- refusal 2, refusal 3: of a table at block p; an L2 block is never refused with 3
abbrev pub place_refusals : Level → Store → ℕ → List Refusal
place_refusals v s p = 2 if table_outside v s p ∷ 3 if misaligned p (table_blocks v) ∷ []

-- refusal 2, refusal 3, refusal 5: of a table at block p, whose blocks must be of type t
abbrev pub table_refusals : Level → Store → ℕ → ℕ → List Refusal
table_refusals v s p t = 2 if table_outside v s p ∷ 3 if misaligned p (table_blocks v) ∷ 5 if other_type v s p t ∷ []

-- ledger 11, ledger 12: one of the two kinds that fill word w is not lawful
abbrev pub unlawful_pair : ℕ → Bool
unlawful_pair w = above (w % 2 ^ 16) greatest_kind || above (w / 2 ^ 16) greatest_kind
