-- The head is whole.
use native.Mathlib.Omega.{arith}
use Rattle.rules.proofs.State.{fits_stored}
use Rattle.ledger.proofs.region.Region.record_of.Goals as goal

pub record_of-requires : goal.record_of-requires
record_of-requires c = let fit = fits_stored _ c.args.self.now.fits in (omega arith, c.requires)
