-- The invariant: the entries passed are faults, at whichever level.
use mathlib.Core.Bool.{not}
use Prim.Native.Nat.{◌+◌}
use Rattle.words.proofs.Bounded.{Scanned}
use Rattle.entries.specs.Entries.{Level, is_fault}
use Rattle.rules.specs.Tables.{table_entry}
use Rattle.ledger.specs.Regions.{store_of}
use Rattle.mapping.proofs.slot.is_occupied.Given as goal

abbrev pub invariant-loop-k : goal.invariant-loop-k
invariant-loop-k l = (v : Level) → Scanned (λ i. not (is_fault (table_entry v (store_of l.region) l.fn.window.block (l.fn.window.index + i)))) l.k-end l.k
