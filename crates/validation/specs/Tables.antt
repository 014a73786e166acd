-- The table that a value of the code stands for (RULES: calls, create, free).
use Rattle.std.specs.Prelude.{ℕ}
use Rattle.entries.specs.Entries.{Entry}
use Rattle.entries.specs.Meaning.{level_of}
use Rattle.validation.specs.Needs.{TablePlaced}
use Rattle.validation.specs.Tests.{entry_from}
use Rattle.validation.specs.declared.table.Table as table

-- calls 1, entries 21: its entries
abbrev pub entries_of : table.Table → ℕ → Entry
entries_of t = entry_from (level_of t.level) t.region.memory.now t.first

-- create 8, create 10, free 8, free 10: its entries are accepted and have their places in the region
abbrev pub InPlace : table.Table → Type 0
InPlace t = TablePlaced (level_of t.level) t.region.memory.now t.region.ledger.now t.first t.entries
