-- The invariant: the ledger is recounted with the entries passed.
use mathlib.Core.Path.{◌≡◌}
use Prim.Native.Nat.{◌≤◌, ◌-◌}
use Rattle.entries.specs.Meaning.{level_of}
use Rattle.rules.specs.General.{recounted}
use Rattle.rules.specs.Store.{lent}
use Rattle.ledger.specs.Meaning.{change_of}
use Rattle.validation.specs.Tests.{entry_from}
use Rattle.tables.proofs.count.count_all.Given as goal

abbrev pub invariant-loop-i : goal.invariant-loop-i
invariant-loop-i l = (l.i ≤ l.m) × (l.ledger ≡ recounted (change_of l.change) (lent l.memory l.initial.ledger) l.i (entry_from (level_of l.level) l.memory l.j))

abbrev pub decreases-loop-i : goal.decreases-loop-i
decreases-loop-i l = l.m - l.i
