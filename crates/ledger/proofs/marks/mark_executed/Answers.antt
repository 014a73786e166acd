-- Where the entry lets nothing execute, no mark is set; else those of adjacent blocks are.
use native.Mathlib.Omega.{arith}
use Rattle.words.proofs.Bounded.{told}
use Rattle.rules.specs.Store.{executable}
use Rattle.rules.proofs.State.{fits_stored, within}
use Rattle.ledger.proofs.Marking.{marks_none, marks_window}
use Rattle.ledger.proofs.marks.mark_executed.Goals as goal

pub record_of-b-requires : goal.record_of-b-requires
record_of-b-requires c =
    let fit = fits_stored _ c.requires.0 in
    let (lo, hi) = within _ _ _ _ (c.requires.1 executable (told c.grants.ensures c.if-grants.true)) in
    (omega arith, lo)

pub mark_blocks-requires : goal.mark_blocks-requires
mark_blocks-requires c =
    let fit = fits_stored _ c.requires.0 in
    let (lo, hi) = within _ _ _ _ (c.requires.1 executable (told c.grants.ensures c.if-grants.true)) in
    let b = c.record_of-b.ensures in
    omega arith

pub returns-then-grants : goal.returns-then-grants
returns-then-grants c =
    let granted = told c.grants.ensures c.if-grants.true in
    let (t1, t10) = c.requires in
    λ n x spreads. marks_window _ _ _ _ t1 t10 spreads granted _ (rw c.record_of-b.ensures.is at c.mark_blocks.ensures)

pub returns-else-grants : goal.returns-else-grants
returns-else-grants c =
    let (t1, t10) = c.requires in
    λ n x spreads. marks_none _ _ _ _ t1 t10 spreads (told c.grants.ensures c.if-grants.false) _
