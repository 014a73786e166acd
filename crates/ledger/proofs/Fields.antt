-- A field lies in its record.
use native.Mathlib.Omega.{arith}
use Rattle.rules.proofs.Ledger.{InRecord}
use Rattle.ledger.specs.Layout.{field_word}
use Rattle.ledger.specs.declared.layout.Field as field
use Rattle.ledger.specs.declared.layout.Field.TheVariants.{«Type», Writable, Executable, Linked, Mark}

pub field_in_record : (f : field.Field) → InRecord (field_word f)
field_in_record «Type» = omega arith
field_in_record Writable = omega arith
field_in_record Executable = omega arith
field_in_record Linked = omega arith
field_in_record Mark = omega arith
