-- The digest that is looked for is the block's.
use Rattle.signature.specs.Signed.{signed}
use Rattle.signature.proofs.golden.is_signed.Goals as goal

pub returns : goal.returns
unfolding signed
returns c = cc
