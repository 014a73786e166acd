-- An entry without blocks has no place; the place of another is tested whole.
use Prim.Native.Nat.{◌<◌}
use native.Mathlib.Omega.{arith}
use borrow.Author.Tests.{lt-ltb}
use Rattle.rules.specs.Tables.{astray}
use Rattle.ledger.proofs.region.is_astray.Goals as goal

pub returns-then-m-eq0 : goal.returns-then-m-eq0
unfolding astray
returns-then-m-eq0 c = rw (← c.place_blocks-m.ensures, c.if-m-eq0.true)

pub returns : goal.returns
unfolding astray
returns c =
    let m = c.place_blocks-m.result in
    let some : 0 < m = omega arith in
    rw (← c.place_blocks-m.ensures, ← c.place_first.ensures, lt-ltb 0 m some) c.is_outside.ensures
