use Prim.Native.Nat.{◌+◌}
use mathlib.Core.Bool.{true, false}
use mathlib.Core.Path.{sym}
use native.Mathlib.Omega.{arith}
use Rattle.words.proofs.Bounded.{scan_start, scan_next, scan_found, scan_end}
use Rattle.words.proofs.some_below.Goals as goal

pub loop-i-init : goal.loop-i-init
loop-i-init g c = λ p told. scan_start p _

pub returns-then-test : goal.returns-then-test
returns-then-test g c = λ p told. scan_found p _ c.loop-i.i (omega arith) (sym (told c.loop-i.i true (omega arith) (c.if-test.ensures)))

pub loop-i-preserved : goal.loop-i-preserved
loop-i-preserved g c = λ p told. scan_next p _ _ (c.loop-i.invariant p told) (omega arith) (sym (told c.loop-i.i false (omega arith) (c.if-test.ensures)))

pub returns : goal.returns
returns g c = λ p told. scan_end p _ _ (c.loop-i.invariant p told) (omega arith)
