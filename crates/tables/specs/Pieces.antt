-- The lists of refusals without 13, judged before the ledger is touched; the promises of the calls cite whole lists (RULES: create, free).
use Rattle.std.specs.Prelude.{List, ◌∷◌, ◌++◌, ℕ}
use Rattle.entries.specs.Entries.{Level}
use Rattle.rules.specs.Refusals.{Refusal, ◌if◌}
use Rattle.rules.specs.Signature.{image_refusals}
use Rattle.rules.specs.Store.{Store, misfit_stored}
use Rattle.rules.specs.Tables.{type_d, type_code, table_entries, table_entry}
use Rattle.rules.specs.Create.{some_count}
use Rattle.rules.specs.Free.{in_use}
use Rattle.ledger.specs.Pieces.{table_refusals}
use Rattle.validation.specs.Pieces.{new_entries, old_entries}

-- create list: all but 13
abbrev pub create_judged : Level → List ℕ → Store → ℕ → List Refusal
create_judged v golden s p =
    1 if misfit_stored s ∷ image_refusals golden
    ++ table_refusals v s p type_d
    ++ 6 if some_count v s p ∷ new_entries v golden s p (table_entries v) (table_entry v s p)

-- free list: all but 13
abbrev pub free_judged : Level → Store → ℕ → List Refusal
free_judged v s p =
    1 if misfit_stored s ∷ table_refusals v s p (type_code v)
    ++ 6 if in_use v s p ∷ old_entries s (table_entries v) (table_entry v s p)
