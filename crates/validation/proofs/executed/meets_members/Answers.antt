-- Only what is writable is looked up in the set.
use mathlib.Core.Path.{◌∙◌}
use native.Mathlib.Omega.{arith}
use Rattle.words.proofs.Bounded.{told}
use Rattle.rules.specs.Store.{writable}
use Rattle.rules.proofs.Gains.{grants_place}
use Rattle.rules.proofs.State.{fits_stored}
use Rattle.rules.proofs.Walk.{cover_within}
use Rattle.ledger.proofs.Blocks.{some_block_records}
use Rattle.validation.specs.Sets.{member, meets_members}
use Rattle.validation.proofs.executed.meets_members.Goals as goal

pub record_of-b-requires : goal.record_of-b-requires
record_of-b-requires c =
    let g = told c.grants.ensures c.if-grants.true in
    let (lo, hi) = cover_within _ _ _ (grants_place writable _ g) c.requires in
    rw c.cover_first.ensures lo

pub contains_some-requires : goal.contains_some-requires
contains_some-requires c = let fit = fits_stored _ c.args.region.now.fits in
    let g = told c.grants.ensures c.if-grants.true in
    let (lo, hi) = cover_within _ _ _ (grants_place writable _ g) c.requires in
    omega (arith, c.record_of-b.ensures.is, c.cover_first.ensures, c.cover_blocks.ensures)

pub returns-then-grants : goal.returns-then-grants
unfolding meets_members
returns-then-grants c = let g = told c.grants.ensures c.if-grants.true in
    let (lo, hi) = cover_within _ _ _ (grants_place writable _ g) c.requires in
    rw g ((rw (c.record_of-b.ensures.is, c.cover_first.ensures, c.cover_blocks.ensures) at c.contains_some.ensures) ∙ some_block_records _ _ _ (member c.args.members.now.bits) lo)

pub returns : goal.returns
unfolding meets_members
returns c = rw (told c.grants.ensures c.if-grants.false)
