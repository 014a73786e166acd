use Rattle.std.proofs.Common.{◌≡◌, refl, arith}
use Rattle.signature.specs.Sha256.{block_word, schedule}
use Rattle.signature.proofs.Computation.{schedule_turn_block}
use Rattle.signature.proofs.schedule.block_words.Goals as goal

pub loop-t-init : goal.loop-t-init
unfolding schedule
loop-t-init c = (omega arith, refl, refl)

pub loop-t-preserved : goal.loop-t-preserved
unfolding block_word
loop-t-preserved c =
    let at = c.loop-t in
    schedule_turn_block _ at.w 64 at.t (omega arith) at.invariant (omega arith) (omega arith)

pub returns : goal.returns
returns c = let e : c.loop-t.t ≡ 16 = omega arith in rw e at c.loop-t.invariant.2
