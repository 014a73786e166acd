-- Each return is decided by the tests up to its own.
use mathlib.Core.Bool.{Bool, true, false, ◌||◌}
use mathlib.Core.Path.{◌≡◌, refl, sym, ◌∙◌}
use Rattle.words.proofs.Bounded.{told}
use Rattle.rules.specs.Map.{clashing_target}
use Rattle.mapping.proofs.target.Target.is_clashing.Goals as goal

or_none : (a : Bool) → (a || false) ≡ a
or_none true = refl
or_none false = refl

pub returns-then-allows-2 : goal.returns-then-allows-2
unfolding clashing_target
returns-then-allows-2 c = rw (told c.allows.ensures c.if-allows.true, told c.allows-then-allows.ensures c.if-allows-2.true)

pub returns-then-allows : goal.returns-then-allows
unfolding clashing_target
returns-then-allows c =
    rw (told c.allows.ensures c.if-allows.true, told c.allows-then-allows.ensures c.if-allows-2.false) (c.some_counted.ensures ∙ sym (or_none _))

pub returns-then-allows-3 : goal.returns-then-allows-3
unfolding clashing_target
returns-then-allows-3 c =
    rw (told c.allows.ensures c.if-allows.false, told c.allows-2.ensures c.if-allows-3.true) c.some_counted-then-allows-3.ensures

pub returns : goal.returns
unfolding clashing_target
returns c = rw (told c.allows.ensures c.if-allows.false, told c.allows-2.ensures c.if-allows-3.false)
