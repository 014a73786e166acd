-- One block joins by itself. Else the invariant: the set has what it had, and the blocks passed.
use mathlib.Core.Bool.{◌||◌}
use mathlib.Core.Path.{◌≡◌}
use Prim.Native.Nat.{ℕ, ◌-◌, ◌≤◌}
use Rattle.words.specs.Bounded.{among}
use Rattle.validation.specs.Sets.{member}
use Rattle.validation.proofs.set.BlockSet.insert_blocks.Given as goal

abbrev pub invariant-loop-i : goal.invariant-loop-i
invariant-loop-i l = (l.i ≤ l.m) × ((k : ℕ) → member l.self.bits k ≡ (member l.initial.self.bits k || among l.b l.i k))

abbrev pub decreases-loop-i : goal.decreases-loop-i
decreases-loop-i l = l.m - l.i
