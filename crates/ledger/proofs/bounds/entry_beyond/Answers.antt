-- The blocks tested are those that the entry covers.
use Rattle.ledger.proofs.bounds.entry_beyond.Goals as goal

pub blocks_beyond-requires : goal.blocks_beyond-requires
blocks_beyond-requires c = rw (c.cover_first.ensures, c.cover_blocks.ensures) c.requires

pub returns : goal.returns
returns c = rw (c.cover_first.ensures, c.cover_blocks.ensures) at c.blocks_beyond.ensures
