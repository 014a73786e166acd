-- What the fields of a record and the types of blocks in the code stand for (RULES: ledger).
use Rattle.std.specs.Prelude.{ℕ}
use Rattle.entries.specs.Entries.{l1, l2}
use Rattle.rules.specs.Store.{type_word, counter_word, writable, executable, linked, mark_word}
use Rattle.rules.specs.Tables.{type_code, type_d}
use Rattle.ledger.specs.declared.layout.Field as field
use Rattle.ledger.specs.declared.layout.Field.TheVariants.{«Type», Writable, Executable, Linked, Mark}
use Rattle.ledger.specs.declared.layout.BlockType as block_type
use Rattle.ledger.specs.declared.layout.BlockType.TheVariants.{Data, L1, L2}

-- ledger 3, ledger 9: which word of a record a field is
abbrev pub field_word : field.Field → ℕ
field_word «Type» = type_word
field_word Writable = counter_word writable
field_word Executable = counter_word executable
field_word Linked = counter_word linked
field_word Mark = mark_word

-- ledger 4: the number of a type
abbrev pub code_of : block_type.BlockType → ℕ
code_of Data = type_d
code_of L1 = type_code l1
code_of L2 = type_code l2
