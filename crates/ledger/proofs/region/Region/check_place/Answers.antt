-- Each return is decided by the tests up to its own.
use Rattle.words.proofs.Bounded.{differ, same, told}
use Rattle.ledger.proofs.Judge.{decides, none, here, past}
use Rattle.ledger.proofs.region.Region.check_place.Goals as goal

pub returns-then-is_outside : goal.returns-then-is_outside
returns-then-is_outside c = decides (here (told (rw c.table_blocks-m.ensures.0 at c.is_outside.ensures) c.if-is_outside.true))

pub returns-then-block-m-ne0 : goal.returns-then-block-m-ne0
returns-then-block-m-ne0 c =
    let m = c.table_blocks-m.ensures.0 in
    decides (past (told (rw m at c.is_outside.ensures) c.if-is_outside.false) (here (differ _ _ (rw m at c.if-block-m-ne0.true))))

pub returns : goal.returns
returns c =
    let m = c.table_blocks-m.ensures.0 in
    decides (past (told (rw m at c.is_outside.ensures) c.if-is_outside.false) (past (same _ _ (rw m at c.if-block-m-ne0.false)) none))
