-- By the computed law of a bit that is set.
use native.Mathlib.Omega.{arith}
use Rattle.validation.proofs.Bits.{bit_set}
use Rattle.validation.proofs.set.with_bit.Goals as goal

pub returns : goal.returns
returns c = bit_set c.args.x c.args.i (omega arith) c.requires
