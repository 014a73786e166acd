-- The mark is looked at first, and the block is hashed if that does not settle it.
use mathlib.Core.Bool.{not}
use mathlib.Core.Path.{refl, ap}
use native.Mathlib.Omega.{arith}
use Rattle.words.proofs.Bounded.{told}
use Rattle.rules.specs.Signature.{unknown}
use Rattle.rules.proofs.State.{fits_stored, within}
use Rattle.ledger.proofs.region.Region.is_unknown.Goals as goal

pub record_of-requires : goal.record_of-requires
record_of-requires c = (within _ _ _ _ c.requires).0

pub is_marked-requires : goal.is_marked-requires
is_marked-requires c = let fit = fits_stored _ c.args.self.now.fits in let (lo, hi) = within _ _ _ _ c.requires in let b = c.record_of.ensures in omega arith

pub returns-then-is_marked : goal.returns-then-is_marked
unfolding unknown
returns-then-is_marked c = rw (told (rw c.record_of.ensures.is at c.is_marked.ensures) c.if-is_marked.true) refl

pub is_signed_block-requires : goal.is_signed_block-requires
is_signed_block-requires c =
    let fit = fits_stored _ c.args.self.now.fits in
    let (lo, hi) = within _ _ _ _ c.requires in
    rw c.base.ensures (lo, omega arith)

pub returns : goal.returns
unfolding unknown
returns c = rw (told (rw c.record_of.ensures.is at c.is_marked.ensures) c.if-is_marked.false) (ap not (rw c.base.ensures at c.is_signed_block.ensures))
