-- The invariant: the hash value is that of the first k blocks.
use Rattle.std.proofs.Common.{◌≡◌}
use Rattle.signature.specs.Message.{joined}
use Rattle.signature.specs.Sha256.{padded, hashes}
use Rattle.signature.proofs.digest.hash_of.Given as goal

abbrev pub invariant-loop-k : goal.invariant-loop-k
invariant-loop-k l = l.h ≡ hashes (padded (joined l.message)) l.k
