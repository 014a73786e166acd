-- `entries::table::packed_at` meets its contract: the low half of a byte is its remainder by 16, the high one that of its quotient.
use mathlib.Core.Path.{◌≡◌}
use Prim.Native.Nat.{◌%◌}
use native.Mathlib.Omega.{arith}
use Rattle.entries.specs.Needs.{packed_at}
use Rattle.entries.proofs.table.packed_at.Goals as goal

pub returns-then-index-eq0 : goal.returns-then-index-eq0
unfolding packed_at
returns-then-index-eq0 c = rw c.if-index-eq0.true (omega arith)

pub returns-else-index-eq0 : goal.returns-else-index-eq0
unfolding packed_at
returns-else-index-eq0 c =
    let odd : c.args.index % 2 ≡ 1 = omega arith in
    rw odd (omega arith)
