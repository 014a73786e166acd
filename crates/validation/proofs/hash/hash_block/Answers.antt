-- A block of the set is one of the region. Its mark is looked at first, and it is hashed if that does not settle it.
use native.Mathlib.Omega.{arith}
use Rattle.words.proofs.Bounded.{told}
use Rattle.ledger.specs.Regions.{store_of}
use Rattle.rules.proofs.State.{fits_stored}
use Rattle.validation.proofs.Hashing.{member_inside, block_out, block_marked, block_signed, block_unsigned}
use Rattle.validation.proofs.hash.hash_block.Goals as goal

pub returns-then-not-contains : goal.returns-then-not-contains
returns-then-not-contains c = block_out _ _ _ _ (told c.contains.ensures c.if-not-contains.true)

pub is_marked-requires : goal.is_marked-requires
is_marked-requires c =
    let at = c in
    let fit = fits_stored _ at.args.region.now.fits in
    let l = member_inside (store_of at.args.region.now) at.args.members.now.bits at.requires.0 at.args.b (told c.contains.ensures c.if-not-contains.false) in
    omega arith

pub returns-then-is_marked : goal.returns-then-is_marked
returns-then-is_marked c = block_marked _ _ _ _ (told c.contains.ensures c.if-not-contains.false) (told c.is_marked.ensures c.if-is_marked.true)

pub overflow_add-first : goal.overflow_add-first
overflow_add-first c =
    let at = c in
    let fit = fits_stored _ at.args.region.now.fits in
    let l = member_inside (store_of at.args.region.now) at.args.members.now.bits at.requires.0 at.args.b (told c.contains.ensures c.if-not-contains.false) in
    omega (arith, c.base-first.ensures)

pub returns-then-is_signed_block : goal.returns-then-is_signed_block
returns-then-is_signed_block c =
    block_signed _ _ _ _ (told c.contains.ensures c.if-not-contains.false) (told c.is_marked.ensures c.if-is_marked.false)
    (told (rw c.base-first.ensures at c.is_signed_block.ensures) c.if-is_signed_block.true)

pub returns : goal.returns
returns c =
    block_unsigned _ _ _ _ (told c.contains.ensures c.if-not-contains.false) (told c.is_marked.ensures c.if-is_marked.false)
    (told (rw c.base-first.ensures at c.is_signed_block.ensures) c.if-is_signed_block.false)
