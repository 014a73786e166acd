-- The invariant: whether a kind of the words passed is not lawful.
use mathlib.Core.Path.{◌≡◌}
use Prim.Native.Nat.{◌-◌, ◌*◌, ◌≤◌}
use Rattle.words.specs.Bounded.{any}
use Rattle.words.specs.Words.{word}
use Rattle.ledger.specs.Pieces.{unlawful_pair}
use Rattle.ledger.proofs.kinds.some_unlawful.Given as goal

abbrev pub invariant-loop-i : goal.invariant-loop-i
invariant-loop-i l = (l.i ≤ 4) × (l.found ≡ any l.i (λ j. unlawful_pair (word l.kinds (4 * j))))

abbrev pub decreases-loop-i : goal.decreases-loop-i
decreases-loop-i l = 4 - l.i
