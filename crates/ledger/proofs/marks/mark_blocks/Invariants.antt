-- The invariant: of the blocks before the one to come those from b on are marked.
use mathlib.Core.Path.{◌≡◌}
use Prim.Native.Nat.{◌+◌, ◌-◌, ◌≤◌}
use lib.Dec.{leb}
use lib.ListN.{length}
use Rattle.rules.specs.Store.{mark_blocks}
use Rattle.ledger.proofs.marks.mark_blocks.Given as goal

abbrev pub invariant-loop-i : goal.invariant-loop-i
invariant-loop-i l = (l.i ≤ l.m) × ((length l.ledger ≡ length l.initial.ledger) × (l.ledger ≡ mark_blocks l.initial.ledger (l.b + l.i) (leb l.b)))

abbrev pub decreases-loop-i : goal.decreases-loop-i
decreases-loop-i l = l.m - l.i
