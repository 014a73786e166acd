-- The byte of the block gets its bit.
use native.Mathlib.Omega.{arith}
use Rattle.validation.proofs.Bits.{insert_joins}
use Rattle.validation.proofs.set.BlockSet.insert.Goals as goal

pub returns : goal.returns
returns c = insert_joins _ _ _ c.with_bit-x.ensures (omega (arith, c.requires))
