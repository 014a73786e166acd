use mathlib.Core.Path.{refl, ◌∙◌}
use native.Mathlib.Nat.{add-zero}
use native.Mathlib.Numerals.{add-one}
use native.Mathlib.Omega.{arith}
use Rattle.rules.specs.Store.{fill}
use Rattle.mapping.proofs.slot.fill_words.Goals as goal

pub returns-then-m-eq1 : goal.returns-then-m-eq1
unfolding fill
returns-then-m-eq1 c = rw (c.if-m-eq1.true, add-zero) c.put_word.ensures

pub loop-k-init : goal.loop-k-init
unfolding fill
loop-k-init c = (omega arith, refl)

pub loop-k-preserved : goal.loop-k-preserved
unfolding fill
loop-k-preserved c = let at = c.loop-k in (omega arith, rw at.invariant.1 at c.put_word-in-loop-k.ensures ∙ rw add-one refl)
