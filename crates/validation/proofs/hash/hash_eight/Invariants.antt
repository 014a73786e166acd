-- The invariant: of the blocks passed none is unknown, and n are hashed.
use Prim.Native.Nat.{◌-◌, ◌*◌, ◌≤◌}
use Rattle.ledger.specs.Regions.{store_of}
use Rattle.validation.proofs.Hashing.{Known}
use Rattle.validation.proofs.hash.hash_eight.Given as goal

abbrev pub invariant-loop-k : goal.invariant-loop-k
invariant-loop-k l = (l.k ≤ 8) × Known l.golden (store_of l.region) l.members.bits (8 * l.i) l.k l.n

abbrev pub decreases-loop-k : goal.decreases-loop-k
decreases-loop-k l = 8 - l.k
