-- A region has at most 4,096 blocks.
use native.Mathlib.Omega.{arith}
use Rattle.rules.proofs.State.{fits_stored}
use Rattle.ledger.proofs.region.Region.blocks.Goals as goal

pub returns-clause-bound : goal.returns-clause-bound
returns-clause-bound c = let fit = fits_stored _ c.args.self.now.fits in omega arith
