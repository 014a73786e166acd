use Rattle.std.proofs.Common.{arith}
use Rattle.signature.specs.Message.{joined}
use Rattle.signature.proofs.Padded.{length-padded}
use Rattle.signature.proofs.padding.Message.padded_len.Goals as goal

pub returns : goal.returns
returns c = omega (arith, length-padded (joined c.args.self))
