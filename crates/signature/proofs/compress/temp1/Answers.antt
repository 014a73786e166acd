-- The sums are taken in the order of the definition.
use Rattle.signature.specs.Sha256.{T₁}
use Rattle.signature.proofs.compress.temp1.Goals as goal

pub returns : goal.returns
unfolding T₁
returns c = cc
