use Rattle.std.proofs.Common.{◌≡◌, refl, arith}
use Rattle.signature.specs.Sha256.{rounds}
use Rattle.signature.proofs.Computation.{rounds_turn}
use Rattle.signature.proofs.compress.all_rounds.Goals as goal

pub loop-i-init : goal.loop-i-init
unfolding rounds
loop-i-init c = refl

pub eight_rounds-r-requires : goal.eight_rounds-r-requires
eight_rounds-r-requires c = (c.requires, omega arith)

pub loop-i-preserved : goal.loop-i-preserved
loop-i-preserved c =
    let at = c.loop-i in
    rounds_turn _ _ at.i at.invariant c.eight_rounds-r.ensures

pub returns : goal.returns
returns c = let e : c.loop-i.i ≡ 8 = omega arith in rw e at c.loop-i.invariant
