-- Switch: another table comes into use (RULES: switch, refusal).
use Rattle.std.specs.Prelude.{List, [], ◌∷◌, ℕ}
use Rattle.words.specs.Words.{put_word}
use Rattle.entries.specs.Entries.{l1}
use Rattle.rules.specs.Refusals.{Refusal, ◌if◌}
use Rattle.rules.specs.Store.{Store, active_place, misfit_stored}
use Rattle.rules.specs.Outcomes.{Outcome, leaving, call_outcome}
use Rattle.rules.specs.Tables.{type_code, table_blocks}
use Rattle.rules.specs.General.{table_outside, misaligned, other_type}

-- switch list: refused unless the block is that of an L1 table in the region
abbrev pub switch_refusals : Store → ℕ → List Refusal
switch_refusals s p =
    1 if misfit_stored s
    ∷ 2 if table_outside l1 s p
    ∷ 3 if misaligned p (table_blocks l1)
    ∷ 5 if other_type l1 s p (type_code l1)
    ∷ []

-- switch leaves: active is this block; the memory as it was
abbrev pub switch_after : Store → ℕ → Store
switch_after s p = record { memory = s.memory; ledger = put_word s.ledger active_place p }

-- switch list, switch leaves: what switch answers and leaves
unfoldable pub switch_outcome : Store → ℕ → Outcome
switch_outcome s p = call_outcome (switch_refusals s p) s (leaving (switch_after s p))
