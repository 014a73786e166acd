-- The part that is lent is the block.
use Rattle.std.proofs.Common.{◌≡◌, ◌+◌, ◌-◌, arith}
use Rattle.words.specs.Lists.{part}
use Rattle.signature.specs.Signed.{block_bytes}
use Rattle.signature.proofs.golden.is_signed_at.Goals as goal

pub returns : goal.returns
unfolding part
returns c =
    let a = c.args.a in
    let e : a + block_bytes - a ≡ block_bytes = omega arith in
    rw e at c.is_signed.ensures
