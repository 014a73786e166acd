-- Each return is decided by the tests up to its own.
use mathlib.Core.Bool.{false}
use mathlib.Core.Path.{◌≡◌}
use native.Mathlib.Omega.{arith}
use Rattle.words.proofs.Bounded.{differ, same, told}
use Rattle.entries.specs.Entries.{l2}
use Rattle.rules.specs.General.{table_outside}
use Rattle.rules.proofs.State.{fits_stored, within}
use Rattle.ledger.specs.Regions.{store_of}
use Rattle.ledger.proofs.Judge.{decides, none, here, past}
use Rattle.mapping.proofs.Linking.{link_spreads}
use Rattle.mapping.proofs.link.check_link_target.Goals as goal
use Rattle.mapping.proofs.link.check_link_target.Goals.{Else-is_outside}

-- the target is in the region
inside : (c : Else-is_outside) → table_outside l2 (store_of c.args.region.now) c.args.target ≡ false
inside c = told c.is_outside.ensures c.if-is_outside.false

pub returns-then-is_outside : goal.returns-then-is_outside
returns-then-is_outside c = decides (here (told c.is_outside.ensures c.if-is_outside.true))

pub record_of-b-requires : goal.record_of-b-requires
record_of-b-requires c = (within _ _ _ _ (inside c)).0

pub get-requires : goal.get-requires
get-requires c = let fit = fits_stored _ c.args.region.now.fits in
    let (lo, hi) = within _ _ _ _ (inside (goal.at.get-requires c).Else-is_outside) in
    let b = c.record_of-b.ensures in
    omega arith

pub returns-then-get-code : goal.returns-then-get-code
returns-then-get-code c = decides
    (past (inside (goal.at.returns-then-get-code c).Else-is_outside)
    (here (differ _ _ (rw (c.get.ensures, c.record_of-b.ensures.is, c.code.ensures) at c.if-get-code.true))))

pub overflow_mul-e : goal.overflow_mul-e
overflow_mul-e c = let fit = fits_stored _ c.args.region.now.fits in
    let (lo, hi) = within _ _ _ _ (inside (goal.at.overflow_mul-e c).Else-is_outside) in
    omega arith

pub overflow_add-e : goal.overflow_add-e
overflow_add-e c = let fit = fits_stored _ c.args.region.now.fits in
    let (lo, hi) = within _ _ _ _ (inside (goal.at.overflow_add-e c).Else-is_outside) in
    omega (arith, c.requires)

pub returns-then-blocks_overrun : goal.returns-then-blocks_overrun
returns-then-blocks_overrun c = let overrun = c.blocks_overrun.ensures _ _ (link_spreads c.args.target c.args.table c.requires) in
    decides
    (past (inside (goal.at.returns-then-blocks_overrun c).Else-is_outside)
    (past (same _ _ (rw (c.get.ensures, c.record_of-b.ensures.is, c.code.ensures) at c.if-get-code.false))
    (here (told overrun c.if-blocks_overrun.true))))

pub returns : goal.returns
returns c = let overrun = c.blocks_overrun.ensures _ _ (link_spreads c.args.target c.args.table c.requires) in
    decides
    (past (inside (goal.at.returns c).Else-is_outside)
    (past (same _ _ (rw (c.get.ensures, c.record_of-b.ensures.is, c.code.ensures) at c.if-get-code.false))
    (past (told overrun c.if-blocks_overrun.false) none)))
