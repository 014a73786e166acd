-- Marked blocks are known. Else the invariant: the blocks passed are marked or signed.
use Prim.Native.Nat.{◌+◌, ◌-◌}
use Rattle.words.proofs.Bounded.{Scanned}
use Rattle.rules.specs.Signature.{unknown}
use Rattle.ledger.specs.Regions.{store_of}
use Rattle.ledger.proofs.region.Region.some_unknown.Given as goal

abbrev pub invariant-loop-i : goal.invariant-loop-i
invariant-loop-i l = Scanned (λ k. unknown l.golden (store_of l.self) (l.p + k)) l.m l.i

abbrev pub decreases-loop-i : goal.decreases-loop-i
decreases-loop-i l = l.m - l.i
