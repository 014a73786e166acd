use Rattle.std.proofs.Common.{◌∙◌, arith}
use Rattle.words.specs.Lists.{tabulate}
use Rattle.words.proofs.Lists.{filling_starts, filling_turn, filling_ends, part-tabulate}
use Rattle.signature.proofs.Padded.{length_joined}
use Rattle.signature.proofs.padding.Message.padded_block.Goals as goal

pub loop-i-init : goal.loop-i-init
loop-i-init c = filling_starts _ 64

pub overflow_add-a : goal.overflow_add-a
overflow_add-a c = let self = c.args.self in omega (arith, length_joined self.head.now self.body.now, self.paddable)

pub loop-i-preserved : goal.loop-i-preserved
loop-i-preserved c =
    let at = c.loop-i in
    filling_turn _ 64 at.byte-items at.i at.invariant (omega arith) c.padded_byte.ensures

pub returns : goal.returns
returns c =
    let at = c.loop-i in
    filling_ends (tabulate _) {n = 64} at.byte-items at.i at.invariant (omega arith) ∙ part-tabulate _ _ 64 c.requires
