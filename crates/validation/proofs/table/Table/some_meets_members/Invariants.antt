-- The invariant: no entry passed writes a block of the set.
use Prim.Native.Nat.{◌-◌}
use Rattle.words.proofs.Bounded.{Scanned}
use Rattle.validation.specs.Sets.{meets_members}
use Rattle.validation.specs.Tables.{entries_of}
use Rattle.validation.proofs.table.Table.some_meets_members.Given as goal

abbrev pub invariant-loop-i : goal.invariant-loop-i
invariant-loop-i l = Scanned (λ x. meets_members l.self.region.ledger.now l.members.bits (entries_of l.self x)) l.self.entries l.i

abbrev pub decreases-loop-i : goal.decreases-loop-i
decreases-loop-i l = l.self.entries - l.i
