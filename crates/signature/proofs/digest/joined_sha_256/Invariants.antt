-- The invariant: the array is filled with the first i bytes of the digest.
use Rattle.words.specs.Lists.{tabulate}
use Rattle.words.proofs.Lists.{Filling}
use Rattle.signature.specs.Sha256.{digest_byte}
use Rattle.signature.proofs.digest.joined_sha_256.Given as goal

abbrev pub invariant-loop-i : goal.invariant-loop-i
invariant-loop-i l = Filling (tabulate (digest_byte l.h)) 32 l.byte-items l.i
