-- The invariant: of the blocks of the bytes passed none is unknown, and n are hashed. Behind the region the set has no block.
use Prim.Native.Nat.{◌*◌, ◌≤◌}
use Rattle.ledger.specs.Regions.{store_of}
use Rattle.validation.proofs.Hashing.{Known}
use Rattle.validation.proofs.hash.hash_members.Given as goal

abbrev pub invariant-loop-i : goal.invariant-loop-i
invariant-loop-i l = (l.i ≤ 512) × Known l.golden (store_of l.region) l.members.bits 0 (8 * l.i) l.n
