-- What the entry does not execute does not join the set; else the blocks that it covers do.
use native.Mathlib.Omega.{arith}
use Rattle.words.proofs.Bounded.{told}
use Rattle.rules.specs.Store.{executable}
use Rattle.rules.proofs.Gains.{grants_place}
use Rattle.rules.proofs.State.{fits_stored}
use Rattle.rules.proofs.Walk.{cover_within}
use Rattle.validation.proofs.Clashes.{executed_joins, none_joins}
use Rattle.validation.proofs.executed.insert_executed.Goals as goal

pub record_of-b-requires : goal.record_of-b-requires
record_of-b-requires c =
    let g = told c.grants.ensures c.if-grants.true in
    let (lo, hi) = cover_within _ _ _ (grants_place executable _ g) c.requires in
    rw c.cover_first.ensures lo

pub insert_blocks-requires : goal.insert_blocks-requires
insert_blocks-requires c = let fit = fits_stored _ c.args.region.now.fits in
    let g = told c.grants.ensures c.if-grants.true in
    let (lo, hi) = cover_within _ _ _ (grants_place executable _ g) c.requires in
    omega (arith, c.record_of-b.ensures.is, c.cover_first.ensures, c.cover_blocks.ensures)

pub returns-then-grants : goal.returns-then-grants
returns-then-grants c = let g = told c.grants.ensures c.if-grants.true in
    let (lo, hi) = cover_within _ _ _ (grants_place executable _ g) c.requires in
    λ k. executed_joins _ _ _ k _ g lo (rw (c.record_of-b.ensures.is, c.cover_first.ensures, c.cover_blocks.ensures) at (c.insert_blocks.ensures k))

pub returns-else-grants : goal.returns-else-grants
returns-else-grants c = λ k. none_joins _ _ _ k (told c.grants.ensures c.if-grants.false)
