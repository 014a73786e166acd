-- The invariant: the records of the blocks passed are cleared.
use mathlib.Core.Path.{◌≡◌}
use Prim.Native.Nat.{◌-◌, ◌≤◌}
use lib.ListN.{length}
use Rattle.rules.specs.Store.{recount, retype, clear_marks}
use Rattle.rules.specs.Tables.{type_d}
use Rattle.tables.proofs.begin.clear_records.Given as goal

abbrev pub invariant-loop-b : goal.invariant-loop-b
invariant-loop-b l = (l.b ≤ l.n) × ((length l.ledger ≡ length l.initial.ledger) × (l.ledger ≡ clear_marks (recount (retype l.initial.ledger 0 l.b type_d) l.b (λ c i. 0)) 0 l.b))

abbrev pub decreases-loop-b : goal.decreases-loop-b
decreases-loop-b l = l.n - l.b
