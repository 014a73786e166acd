-- Where the entry lets nothing execute, nothing is hashed; else adjacent blocks are counted that are not marked.
use native.Mathlib.Omega.{arith}
use Rattle.words.proofs.Bounded.{told}
use Rattle.rules.specs.Store.{executable}
use Rattle.rules.proofs.State.{fits_stored, within}
use Rattle.ledger.proofs.Marking.{hashes_none, hashes_window}
use Rattle.ledger.proofs.region.Region.hashed_blocks.Goals as goal

pub returns-then-not-grants : goal.returns-then-not-grants
returns-then-not-grants c =
    λ n x spreads. hashes_none _ _ _ _ c.args.self.now.fits c.requires spreads (told c.grants.ensures c.if-not-grants.true)

pub record_of-b-requires : goal.record_of-b-requires
record_of-b-requires c =
    (within _ _ _ _ (c.requires executable (told c.grants.ensures c.if-not-grants.false))).0

pub count_unmarked-requires : goal.count_unmarked-requires
count_unmarked-requires c =
    let fit = fits_stored _ c.args.self.now.fits in
    let (lo, hi) = within _ _ _ _ (c.requires executable (told c.grants.ensures c.if-not-grants.false)) in
    let b = c.record_of-b.ensures in
    (omega arith, omega arith)

pub returns : goal.returns
returns c =
    let granted = told c.grants.ensures c.if-not-grants.false in
    λ n x spreads. hashes_window _ _ _ _ c.args.self.now.fits c.requires spreads granted (rw c.record_of-b.ensures.is at c.count_unmarked.ensures)
