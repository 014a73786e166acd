-- The bit of the block.
use mathlib.Core.Path.{refl}
use Rattle.validation.specs.Sets.{member}
use Rattle.validation.proofs.set.BlockSet.contains.Goals as goal

pub returns : goal.returns
unfolding member
returns c = refl
