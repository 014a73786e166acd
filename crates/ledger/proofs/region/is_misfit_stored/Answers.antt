-- Lengths and B are judged first, then the kinds.
use mathlib.Core.Path.{refl, sym, ◌∙◌}
use Rattle.rules.specs.Store.{misfit_stored}
use Rattle.ledger.proofs.Fits.{short-misfit}
use Rattle.ledger.proofs.region.is_misfit_stored.Goals as goal

pub returns-then-ledger-lt-LEDGER_HEAD_BYTES : goal.returns-then-ledger-lt-LEDGER_HEAD_BYTES
returns-then-ledger-lt-LEDGER_HEAD_BYTES c = short-misfit _ c.if-ledger-lt-LEDGER_HEAD_BYTES.true

pub returns-then-is_misfit : goal.returns-then-is_misfit
unfolding misfit_stored
returns-then-is_misfit c = rw (sym (rw c.base.ensures at c.is_misfit.ensures) ∙ c.if-is_misfit.true) refl

pub returns : goal.returns
unfolding misfit_stored
returns c = rw (sym (rw c.base.ensures at c.is_misfit.ensures) ∙ c.if-is_misfit.false) c.some_unlawful_stored.ensures
