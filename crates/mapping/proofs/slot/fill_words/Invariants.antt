-- One word is stored by itself; the invariant of the loop: the words passed are filled.
use mathlib.Core.Path.{◌≡◌}
use Prim.Native.Nat.{◌≤◌}
use Rattle.rules.specs.Store.{fill}
use Rattle.mapping.proofs.slot.fill_words.Given as goal

abbrev pub invariant-loop-k : goal.invariant-loop-k
invariant-loop-k l = (l.k ≤ l.m) × (l.memory ≡ fill l.initial.memory l.j l.k (λ i. l.w))
