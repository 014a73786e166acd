-- The sum is that of the definition.
use Rattle.signature.specs.Sha256.{T₂}
use Rattle.signature.proofs.compress.temp2.Goals as goal

pub returns : goal.returns
unfolding T₂
returns c = cc
