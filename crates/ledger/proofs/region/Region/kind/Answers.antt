-- The head is whole.
use native.Mathlib.Omega.{arith}
use Rattle.rules.proofs.State.{fits_stored}
use Rattle.ledger.proofs.region.Region.kind.Goals as goal

pub stored_kind-requires : goal.stored_kind-requires
stored_kind-requires c = let fit = fits_stored _ c.args.self.now.fits in (omega arith, omega arith)
