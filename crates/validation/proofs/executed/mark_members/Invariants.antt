-- The invariant: those of the blocks passed that are in the set are marked.
use mathlib.Core.Path.{◌≡◌}
use Prim.Native.Nat.{◌-◌, ◌≤◌}
use lib.ListN.{length}
use Rattle.rules.specs.Store.{mark_blocks}
use Rattle.validation.specs.Sets.{member}
use Rattle.validation.proofs.executed.mark_members.Given as goal

abbrev pub invariant-loop-b : goal.invariant-loop-b
invariant-loop-b l = (l.b ≤ l.n) × ((length l.ledger ≡ length l.initial.ledger) × (l.ledger ≡ mark_blocks l.initial.ledger l.b (member l.members.bits)))

abbrev pub decreases-loop-b : goal.decreases-loop-b
decreases-loop-b l = l.n - l.b
