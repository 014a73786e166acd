-- The head is whole.
use native.Mathlib.Omega.{arith}
use Rattle.rules.proofs.State.{fits_stored}
use Rattle.ledger.proofs.region.Region.active.Goals as goal

pub active-requires : goal.active-requires
active-requires c = let fit = fits_stored _ c.args.self.now.fits in omega arith
