-- The entry is accepted, and its place is in the region.
use native.Mathlib.Omega.{arith}
use Rattle.validation.proofs.table.Table.meets_members.Goals as goal

pub accepted_entry_at-e-requires : goal.accepted_entry_at-e-requires
accepted_entry_at-e-requires c = record { holds_word = omega (arith, c.requires.0.holds); j_value = c.requires.0.accepted c.args.i (omega arith) }

pub meets_members-requires : goal.meets_members-requires
meets_members-requires c = rw c.accepted_entry_at-e.ensures (c.requires.0.placed c.args.i (omega arith))

pub returns : goal.returns
returns c = rw c.accepted_entry_at-e.ensures at c.meets_members.ensures
