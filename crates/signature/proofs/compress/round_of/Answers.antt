-- The two sums are what the calls ensure, and the other six words move by one place.
use Rattle.signature.specs.Sha256.{round}
use Rattle.signature.proofs.compress.round_of.Goals as goal

pub returns : goal.returns
unfolding round
returns c = cc
