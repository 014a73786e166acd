-- No bit is set.
use Rattle.validation.proofs.Bits.{empty_set}
use Rattle.validation.proofs.set.BlockSet.new.Goals as goal

pub returns : goal.returns
returns c = empty_set 512
