-- Some counter of the region overruns exactly if one that the entry grants is beyond the bounds of a change, on one of these blocks.
use Rattle.ledger.proofs.Counting.{recorded_inside, overruns-any}
use Rattle.ledger.proofs.region.Region.blocks_overrun.Goals as goal

pub blocks_beyond-requires : goal.blocks_beyond-requires
blocks_beyond-requires c = recorded_inside _ _ _ _ c.args.self.now.fits c.requires

pub returns : goal.returns
returns c =
    overruns-any _ _ _ _ _ c.args.self.now.fits c.requires (rw (c.before-2.ensures.least, c.before-2.ensures.most) at c.blocks_beyond.ensures)
