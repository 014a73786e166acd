-- Only what is writable is tested.
use mathlib.Core.Path.{refl, sym, ◌∙◌}
use Rattle.words.proofs.Bounded.{told}
use Rattle.rules.specs.Create.{unfit_write}
use Rattle.validation.proofs.Covers.{unfit_write_is}
use Rattle.validation.proofs.target.is_unfit_write.Goals as goal

pub returns-then-not-grants : goal.returns-then-not-grants
unfolding unfit_write
returns-then-not-grants c = rw (told c.grants.ensures c.if-not-grants.true)

pub returns-then-cover_differs : goal.returns-then-cover_differs
returns-then-cover_differs c = sym (unfit_write_is _ _ _ _ (told c.grants.ensures c.if-not-grants.false) ∙ (rw (told (rw c.code.ensures at c.cover_differs.ensures) c.if-cover_differs.true) refl))

pub returns : goal.returns
returns c = (rw (c.cover_first.ensures, c.cover_blocks.ensures, c.table_blocks.ensures.0) at c.overlap.ensures)
    ∙ sym (unfit_write_is _ _ _ _ (told c.grants.ensures c.if-not-grants.false) ∙ (rw (told (rw c.code.ensures at c.cover_differs.ensures) c.if-cover_differs.false) refl))
