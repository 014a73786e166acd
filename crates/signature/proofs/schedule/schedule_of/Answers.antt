use Rattle.std.proofs.Common.{arith, rules}
use Rattle.words.proofs.Lists.{filling_ends}
use Rattle.signature.specs.Sha256.{schedule}
use Rattle.signature.proofs.Computation.{schedule_turn_next}
use Rattle.signature.proofs.schedule.schedule_of.Goals as goal

pub loop-t-init : goal.loop-t-init
loop-t-init c = (omega arith, search rules, c.block_words-w.ensures)

pub loop-t-preserved : goal.loop-t-preserved
loop-t-preserved c =
    let at = c.loop-t in
    schedule_turn_next _ at.w 64 at.t (omega arith) at.invariant (omega arith) c.next_word.ensures

pub returns : goal.returns
returns c = let at = c.loop-t in filling_ends (schedule _) at.w at.t at.invariant (omega arith)
