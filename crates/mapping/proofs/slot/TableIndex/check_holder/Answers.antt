-- Each return is decided by the tests up to its own.
use native.Mathlib.Omega.{arith}
use borrow.Author.Tests.{lt-ltb, le-ltb}
use Rattle.words.proofs.Bounded.{told}
use Rattle.ledger.proofs.Judge.{decides, none, here, past}
use Rattle.mapping.proofs.Slots.{bounds}
use Rattle.mapping.proofs.slot.TableIndex.check_holder.Goals as goal

pub returns-then-is_other_type : goal.returns-then-is_other_type
returns-then-is_other_type c = decides (here (told (rw (c.code-t.ensures, c.table_type.ensures) at c.is_other_type.ensures) c.if-is_other_type.true))

pub record_of-b-requires : goal.record_of-b-requires
record_of-b-requires c = let b = bounds c.args.self.now.in_table in omega arith

pub get-requires : goal.get-requires
get-requires c = let b = bounds c.args.self.now.in_table in let f = b.fit in let r = c.record_of-b.ensures in omega arith

pub returns-then-get-gt0 : goal.returns-then-get-gt0
returns-then-get-gt0 c = decides
    (past (told (rw (c.code-t.ensures, c.table_type.ensures) at c.is_other_type.ensures) c.if-is_other_type.false)
    (here (lt-ltb _ _ (rw (c.get.ensures, c.record_of-b.ensures.is, c.holder.ensures) at c.if-get-gt0.true))))

pub returns : goal.returns
returns c = decides
    (past (told (rw (c.code-t.ensures, c.table_type.ensures) at c.is_other_type.ensures) c.if-is_other_type.false)
    (past (le-ltb _ _ (rw (c.get.ensures, c.record_of-b.ensures.is, c.holder.ensures) at c.if-get-gt0.false)) none))
