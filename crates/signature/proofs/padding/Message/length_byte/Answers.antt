-- The upper bits of a length that are dropped reach none of the eight bytes.
use Rattle.std.proofs.Common.{ℕ, ◌*◌, get_or, ap, ◌∙◌}
use Rattle.signature.specs.Sha256.{big_endian, big_endian_byte}
use Rattle.signature.proofs.Padded.{length_byte}
use Rattle.signature.proofs.padding.Message.length_byte.Goals as goal

pub returns : goal.returns
unfolding big_endian_byte
returns c =
    let j = c.args.j in
    length_byte c.len.result j c.requires ∙ ap (λ (n : ℕ). get_or (big_endian 8 (8 * n)) j 0) c.len.ensures
