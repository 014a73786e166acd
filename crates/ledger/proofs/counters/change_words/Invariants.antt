-- The invariant: the words of the records passed are changed.
use mathlib.Core.Path.{◌≡◌}
use Prim.Native.Nat.{◌≤◌, ◌-◌}
use Rattle.ledger.specs.Counters.{changed}
use Rattle.ledger.specs.Meaning.{change_of}
use Rattle.ledger.specs.Layout.{field_word}
use Rattle.ledger.proofs.counters.change_words.Given as goal

abbrev pub invariant-loop-i : goal.invariant-loop-i
invariant-loop-i l = (l.i ≤ l.m) × (l.ledger ≡ changed (change_of l.change) l.initial.ledger (field_word l.field) l.b l.i)

abbrev pub decreases-loop-i : goal.decreases-loop-i
decreases-loop-i l = l.m - l.i
