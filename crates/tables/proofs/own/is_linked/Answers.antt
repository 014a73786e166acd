-- The block lies in the region, and its record has the counter.
use native.Mathlib.Omega.{arith}
use Rattle.rules.specs.Free.{in_use}
use Rattle.rules.proofs.State.{fits_stored, within}
use Rattle.tables.proofs.own.is_linked.Goals as goal

pub record_of-requires : goal.record_of-requires
record_of-requires c = (within _ _ _ _ c.requires).0

pub get-requires : goal.get-requires
get-requires c = let fit = fits_stored _ c.args.region.now.fits in omega (arith, within _ _ _ _ c.requires, c.record_of.ensures.is)

pub returns : goal.returns
unfolding in_use
returns c = rw (c.get.ensures, c.record_of.ensures.is)
