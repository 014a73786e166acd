-- Unmap L1, unmap L2 and unmap large: a mapping is taken away (RULES: unmap, refusal).
use Rattle.std.specs.Prelude.{not, List, [], ◌∷◌, ℕ, ◌+◌}
use Rattle.words.specs.Bounded.{any}
use Rattle.entries.specs.Entries.{fault}
use Rattle.entries.specs.Written.{word_of, kindless}
use Rattle.rules.specs.Refusals.{Refusal, ◌if◌}
use Rattle.rules.specs.Store.{Store, blocks, base, misfit_stored}
use Rattle.rules.specs.Outcomes.{Outcome, leaving, call_outcome}
use Rattle.rules.specs.Tables.{type_code, table_blocks, Form, level, mapping_words, takes, table_entry, astray}
use Rattle.rules.specs.General.{table_outside, misaligned, beyond_table, other_type, executable_holder, some_overrun, edited, removed}

-- unmap list, unmap 3, unmap 8, unmap 10: the second 3 is of the index; 8 and 10 are about the entries of the mapping's words
abbrev pub unmap_refusals : Form → Store → ℕ → ℕ → List Refusal
unmap_refusals f s p i =
    1 if misfit_stored s
    ∷ 2 if table_outside (level f) s p
    ∷ 3 if misaligned p (table_blocks (level f))
    ∷ 3 if misaligned i (mapping_words f)
    ∷ 4 if beyond_table (level f) i
    ∷ 5 if other_type (level f) s p (type_code (level f))
    ∷ 7 if executable_holder s p i
    ∷ 8 if any (mapping_words f) (λ k. not (takes f (table_entry (level f) s p (i + k))))
    ∷ 10 if any (mapping_words f) (λ k. astray (base s) (blocks s) (table_entry (level f) s p (i + k)))
    ∷ 13 if some_overrun removed s (mapping_words f) (λ k. table_entry (level f) s p (i + k))
    ∷ []

-- unmap leaves: the words are 0, the entries that they were are taken from the counters, and the holder's mark is cleared
abbrev pub unmap_after : Form → Store → ℕ → ℕ → Store
unmap_after f s p i = edited removed s p i (mapping_words f) (λ k. table_entry (level f) s p (i + k)) (λ k. word_of kindless fault)

-- unmap list, unmap leaves: what unmap answers and leaves
unfoldable pub unmap_outcome : Form → Store → ℕ → ℕ → Outcome
unmap_outcome f s p i = call_outcome (unmap_refusals f s p i) s (leaving (unmap_after f s p i))
