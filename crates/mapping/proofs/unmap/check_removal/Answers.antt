-- The first entry speaks for all that are removed.
use Rattle.words.proofs.Bounded.{told}
use Rattle.entries.specs.Meaning.{meaning}
use Rattle.ledger.specs.Regions.{store_of}
use Rattle.mapping.specs.Meaning.{form_of}
use Rattle.mapping.proofs.Unmapping.{place_inside, judged_8, judged_10, judged_13, judged_0}
use Rattle.mapping.proofs.unmap.check_removal.Goals as goal

pub returns-then-not-takes : goal.returns-then-not-takes
returns-then-not-takes c =
    λ x speaks. judged_8 (form_of c.args.form) (store_of c.args.region.now) speaks (told c.takes.ensures c.if-not-takes.true)

pub returns-then-is_astray : goal.returns-then-is_astray
returns-then-is_astray c =
    λ x speaks. judged_10 (form_of c.args.form) (store_of c.args.region.now) speaks (told c.takes.ensures c.if-not-takes.false) (told c.is_astray.ensures c.if-is_astray.true)

pub blocks_overrun-requires : goal.blocks_overrun-requires
blocks_overrun-requires c =
    rw (c.place_first.ensures, c.place_blocks.ensures) (place_inside (store_of c.args.region.now) (meaning c.args.e) (told c.is_astray.ensures c.if-is_astray.false))

pub returns-then-blocks_overrun : goal.returns-then-blocks_overrun
returns-then-blocks_overrun c =
    λ x speaks. let t8 = told c.takes.ensures c.if-not-takes.false in
    judged_13 (form_of c.args.form) (store_of c.args.region.now) speaks t8 (told c.is_astray.ensures c.if-is_astray.false)
    (told ((rw (c.place_first.ensures, c.place_blocks.ensures) at c.blocks_overrun.ensures) _ _ (speaks.spreads t8)) c.if-blocks_overrun.true)

pub returns : goal.returns
returns c =
    λ x speaks. let t8 = told c.takes.ensures c.if-not-takes.false in
    judged_0 (form_of c.args.form) (store_of c.args.region.now) speaks t8 (told c.is_astray.ensures c.if-is_astray.false)
    (told ((rw (c.place_first.ensures, c.place_blocks.ensures) at c.blocks_overrun.ensures) _ _ (speaks.spreads t8)) c.if-blocks_overrun.false)
