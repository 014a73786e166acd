-- The invariant: the counters by which the entries passed count are within the limit.
use Prim.Native.Nat.{◌-◌}
use Rattle.words.proofs.Bounded.{Scanned}
use Rattle.entries.specs.Meaning.{level_of}
use Rattle.rules.specs.Store.{counter_limit}
use Rattle.ledger.specs.Counters.{entry_beyond}
use Rattle.validation.specs.Tests.{entry_from}
use Rattle.tables.proofs.count.some_above_limit.Given as goal

abbrev pub invariant-loop-i : goal.invariant-loop-i
invariant-loop-i l = Scanned (λ k. entry_beyond 0 counter_limit l.ledger (entry_from (level_of l.level) l.memory l.j k)) l.m l.i

abbrev pub decreases-loop-i : goal.decreases-loop-i
decreases-loop-i l = l.m - l.i
