use Rattle.std.proofs.Common.{◌≡◌, refl, arith}
use Rattle.signature.specs.Sha256.{rounds}
use Rattle.signature.proofs.Computation.{rounds_more}
use Rattle.signature.proofs.compress.eight_rounds.Goals as goal

pub loop-j-init : goal.loop-j-init
unfolding rounds
loop-j-init c = refl

pub loop-j-preserved : goal.loop-j-preserved
loop-j-preserved c =
    let at = c.loop-j in
    rounds_more _ _ _ at.j c.requires.0 at.invariant c.round_of-r.ensures

pub returns : goal.returns
returns c = let e : c.loop-j.j ≡ 8 = omega arith in rw e at c.loop-j.invariant
