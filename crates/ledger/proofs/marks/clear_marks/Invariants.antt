-- The invariant: the marks of the blocks passed are cleared.
use mathlib.Core.Path.{◌≡◌}
use Prim.Native.Nat.{◌-◌, ◌≤◌}
use lib.ListN.{length}
use Rattle.rules.specs.Store.{clear_marks}
use Rattle.ledger.proofs.marks.clear_marks.Given as goal

abbrev pub invariant-loop-i : goal.invariant-loop-i
invariant-loop-i l = (l.i ≤ l.m) × ((length l.ledger ≡ length l.initial.ledger) × (l.ledger ≡ clear_marks l.initial.ledger l.b l.i))

abbrev pub decreases-loop-i : goal.decreases-loop-i
decreases-loop-i l = l.m - l.i
