-- Each return is decided by the tests up to its own.
use Rattle.std.proofs.Common.{refl, ap, not}
use mathlib.Core.Bool.{false≢true}
use Rattle.words.proofs.Bounded.{differ, same}
use Rattle.signature.specs.Signed.{misfit_image}
use Rattle.signature.proofs.golden.is_misfit_image.Goals as goal

pub returns-then-not-is_multiple_of : goal.returns-then-not-is_multiple_of
unfolding misfit_image
returns-then-not-is_multiple_of c = rw (differ _ _ (λ e. absurd (false≢true (c.if-not-is_multiple_of.ensures.1 e)))) (ap not c.if-not-is_multiple_of.true)

pub returns-else-not-is_multiple_of : goal.returns-else-not-is_multiple_of
unfolding misfit_image
returns-else-not-is_multiple_of c = rw (same _ _ (c.if-not-is_multiple_of.ensures.0 refl))
