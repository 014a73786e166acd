use Rattle.std.proofs.Common.{◌≡◌, ◌/◌, length, arith}
use Rattle.signature.specs.Message.{joined}
use Rattle.signature.specs.Sha256.{padded, hashes, hash}
use Rattle.signature.proofs.Computation.{hashes_turn}
use Rattle.signature.proofs.digest.hash_of.Goals as goal

pub loop-k-init : goal.loop-k-init
unfolding hashes
loop-k-init c = c.initial_hash-h.ensures

pub loop-k-preserved : goal.loop-k-preserved
loop-k-preserved c =
    let at = c.loop-k in
    hashes_turn _ at.k at.invariant c.block_schedule.ensures c.compress_block-next.ensures

pub returns : goal.returns
unfolding hash
returns c =
    let e : c.loop-k.k ≡ length (padded (joined c.args.message)) / 64 = omega arith in
    rw e at c.loop-k.invariant
