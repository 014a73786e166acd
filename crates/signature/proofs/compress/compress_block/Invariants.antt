-- The invariant: the array is filled with the first j sums of the definition.
use Rattle.std.proofs.Common.{get_or}
use Rattle.words.specs.Lists.{tabulate}
use Rattle.words.proofs.Lists.{Filling}
use Rattle.signature.specs.Sha256.{◌⊞◌}
use Rattle.signature.proofs.compress.compress_block.Given as goal

abbrev pub invariant-loop-j : goal.invariant-loop-j
invariant-loop-j l = Filling (tabulate (λ i. get_or l.s i 0 ⊞ get_or l.h i 0)) 8 l.word-items l.j
