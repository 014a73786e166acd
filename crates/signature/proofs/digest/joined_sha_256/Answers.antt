use Rattle.std.proofs.Common.{◌/◌, ◌%◌, List, ℕ, get_or, ap, ◌∙◌, arith}
use Rattle.words.specs.Lists.{tabulate}
use Rattle.words.proofs.Lists.{filling_starts, filling_turn, filling_ends}
use Rattle.signature.specs.Sha256.{digest_byte, sha256}
use Rattle.signature.proofs.Padded.{word_byte}
use Rattle.signature.proofs.digest.joined_sha_256.Goals as goal

pub loop-i-init : goal.loop-i-init
loop-i-init c = filling_starts _ 32

pub loop-i-preserved : goal.loop-i-preserved
unfolding digest_byte
loop-i-preserved c =
    let at = c.loop-i in
    filling_turn _ 32 at.byte-items at.i at.invariant (omega arith)
    (ap (λ (b : List ℕ). get_or b (at.i % 4) 0) c.to_be_bytes.ensures ∙ word_byte (get_or c.hash_of-h.result (at.i / 4) 0) (at.i % 4) (omega arith))

pub returns : goal.returns
unfolding sha256
returns c =
    let at = c.loop-i in
    rw c.new.ensures at (rw c.hash_of-h.ensures at (filling_ends (tabulate _) {n = 32} at.byte-items at.i at.invariant (omega arith)))
