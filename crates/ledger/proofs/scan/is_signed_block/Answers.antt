-- The bytes of block p are those at place p - first of the memory.
use Rattle.rules.specs.Signature.{signed_block}
use Rattle.ledger.proofs.scan.is_signed_block.Goals as goal

pub returns : goal.returns
unfolding signed_block
returns c = c.is_signed_at.ensures
