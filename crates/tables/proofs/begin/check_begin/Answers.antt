-- Each return is decided by the tests up to its own.
use Rattle.words.proofs.Bounded.{differ, same, told}
use Rattle.ledger.proofs.Judge.{decides, none, here, past}
use Rattle.tables.proofs.begin.check_begin.Goals as goal

pub returns-then-is_misfit : goal.returns-then-is_misfit
returns-then-is_misfit c = decides (here (told c.is_misfit.ensures c.if-is_misfit.true))

pub returns-then-kinds-ne-KINDS_BYTES : goal.returns-then-kinds-ne-KINDS_BYTES
returns-then-kinds-ne-KINDS_BYTES c = decides (past (told c.is_misfit.ensures c.if-is_misfit.false) (here (differ _ _ c.if-kinds-ne-KINDS_BYTES.true)))

pub returns-then-some_unlawful : goal.returns-then-some_unlawful
returns-then-some_unlawful c =
    decides (past (told c.is_misfit.ensures c.if-is_misfit.false)
    (past (same _ _ c.if-kinds-ne-KINDS_BYTES.false) (here (told c.some_unlawful.ensures c.if-some_unlawful.true))))

pub returns : goal.returns
returns c =
    decides (past (told c.is_misfit.ensures c.if-is_misfit.false)
    (past (same _ _ c.if-kinds-ne-KINDS_BYTES.false) (past (told c.some_unlawful.ensures c.if-some_unlawful.false) none)))
