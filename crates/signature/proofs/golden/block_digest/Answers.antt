-- The head is the number's bytes.
use Rattle.std.proofs.Common.{ℕ, List, ◌++◌, ap, ◌∙◌}
use Rattle.signature.specs.Sha256.{sha256}
use Rattle.signature.specs.Signed.{block_digest, block_message}
use Rattle.signature.proofs.Padded.{four_bytes}
use Rattle.signature.proofs.golden.block_digest.Goals as goal

pub returns : goal.returns
unfolding block_digest block_message
returns c = c.joined_sha_256.ensures ∙ ap (λ (n : List ℕ). sha256 (n ++ c.args.contents.now)) (cc (four_bytes c.args.p))
