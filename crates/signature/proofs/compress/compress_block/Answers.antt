use Rattle.std.proofs.Common.{refl, arith}
use Rattle.words.specs.Lists.{tabulate}
use Rattle.words.proofs.Lists.{filling_starts, filling_turn, filling_ends}
use Rattle.signature.specs.Sha256.{compress}
use Rattle.signature.proofs.compress.compress_block.Goals as goal

pub loop-j-init : goal.loop-j-init
loop-j-init c = filling_starts _ 8

pub loop-j-preserved : goal.loop-j-preserved
loop-j-preserved c =
    let at = c.loop-j in
    filling_turn _ 8 at.word-items at.j at.invariant (omega arith) refl

pub returns : goal.returns
unfolding compress
returns c =
    let at = c.loop-j in
    rw c.all_rounds-s.ensures at (filling_ends (tabulate _) {n = 8} at.word-items at.j at.invariant (omega arith))
