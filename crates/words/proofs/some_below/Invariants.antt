-- The invariant: the test answered false so far.
use Rattle.std.proofs.Common.{◌≡◌, ℕ, Bool, false, ◌<◌, ◌≤◌, ◌-◌}
use Rattle.words.proofs.Bounded.{Scanned}
use Rattle.words.proofs.some_below.Given as goal

abbrev pub invariant-loop-i : goal.invariant-loop-i
invariant-loop-i g l = (p : ℕ → Bool) → ((i : ℕ) (b : Bool) → i < l.m → goal.F-post g l.test i b → b ≡ p i) → Scanned p l.m l.i

abbrev pub decreases-loop-i : goal.decreases-loop-i
decreases-loop-i g l = l.m - l.i
