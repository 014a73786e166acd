use mathlib.Core.Path.{refl}
use Prim.Native.Nat.{◌+◌}
use native.Mathlib.Omega.{arith}
use Rattle.std.proofs.Common.{rules, tests, ◌≡◌}
use Rattle.words.specs.Bounded.{any}
use Rattle.ledger.proofs.scan.some_differs.Goals as goal

pub returns-then-m-eq1 : goal.returns-then-m-eq1
unfolding any
returns-then-m-eq1 c = let b = c.args.b in let at : b + 0 ≡ b = omega arith in rw (c.if-m-eq1.true, at, c.get.ensures) refl

pub returns : goal.returns
returns c = c.some_below.ensures _ (λ i b l k. search (rules, tests))
