-- One scan for each of the three counters, up to the first that finds one.
use mathlib.Core.Path.{refl, sym, ◌∙◌}
use native.Mathlib.Omega.{arith}
use Rattle.words.proofs.Bounded.{told}
use Rattle.rules.proofs.State.{fits_stored, within}
use Rattle.tables.proofs.TableRecords.{some_count_is}
use Rattle.tables.proofs.own.is_counted.Goals as goal

pub record_of-b-requires : goal.record_of-b-requires
record_of-b-requires c = (within _ _ _ _ c.requires).0

pub some_above_zero-requires : goal.some_above_zero-requires
some_above_zero-requires c = let fit = fits_stored _ c.args.region.now.fits in omega (arith, within _ _ _ _ c.requires, c.record_of-b.ensures.is)

pub returns-then-some_above_zero : goal.returns-then-some_above_zero
returns-then-some_above_zero c =
    let w = told (rw (c.record_of-b.ensures.is, c.table_blocks-m.ensures.0) at c.some_above_zero.ensures) c.if-some_above_zero.true in
    sym (some_count_is _ _ _ (within _ _ _ _ c.requires).0 ∙ (rw w refl))

pub some_above_zero-requires-2 : goal.some_above_zero-requires-2
some_above_zero-requires-2 c = let fit = fits_stored _ c.args.region.now.fits in omega (arith, within _ _ _ _ c.requires, c.record_of-b.ensures.is)

pub returns-then-some_above_zero-2 : goal.returns-then-some_above_zero-2
returns-then-some_above_zero-2 c =
    let w = told (rw (c.record_of-b.ensures.is, c.table_blocks-m.ensures.0) at c.some_above_zero.ensures) c.if-some_above_zero.false in
    let x = told (rw (c.record_of-b.ensures.is, c.table_blocks-m.ensures.0) at c.some_above_zero-2.ensures) c.if-some_above_zero-2.true in
    sym (some_count_is _ _ _ (within _ _ _ _ c.requires).0 ∙ (rw (w, x) refl))

pub some_above_zero-requires-3 : goal.some_above_zero-requires-3
some_above_zero-requires-3 c = let fit = fits_stored _ c.args.region.now.fits in omega (arith, within _ _ _ _ c.requires, c.record_of-b.ensures.is)

pub returns : goal.returns
returns c =
    let w = told (rw (c.record_of-b.ensures.is, c.table_blocks-m.ensures.0) at c.some_above_zero.ensures) c.if-some_above_zero.false in
    let x = told (rw (c.record_of-b.ensures.is, c.table_blocks-m.ensures.0) at c.some_above_zero-2.ensures) c.if-some_above_zero-2.false in
    let l = rw (c.record_of-b.ensures.is, c.table_blocks-m.ensures.0) at c.some_above_zero-3.ensures in
    l ∙ sym (some_count_is _ _ _ (within _ _ _ _ c.requires).0 ∙ (rw (w, x) refl))
