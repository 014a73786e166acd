-- The invariant: the array is filled with the first i bytes of the padded message from a on.
use Rattle.std.proofs.Common.{◌+◌, get_or}
use Rattle.words.specs.Lists.{tabulate}
use Rattle.words.proofs.Lists.{Filling}
use Rattle.signature.specs.Message.{joined}
use Rattle.signature.specs.Sha256.{padded}
use Rattle.signature.proofs.padding.Message.padded_block.Given as goal

abbrev pub invariant-loop-i : goal.invariant-loop-i
invariant-loop-i l = Filling (tabulate (λ j. get_or (padded (joined l.self)) (l.a + j) 0)) 64 l.byte-items l.i
