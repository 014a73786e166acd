-- `lines::put_decimal` meets its contract: what is stored is one digit, or the digits of v / 10 and the last digit behind them.
use mathlib.Core.List.{[], ◌∷◌}
use mathlib.Core.Path.{◌≡◌}
use Prim.Native.Nat.{◌/◌, ◌%◌}
use native.Mathlib.Omega.{arith}
use Rattle.lines.specs.Decimal.{digit, decimal}
use Rattle.lines.proofs.Decimal.{decimal_one, decimal_more, decimal_some, length-decimal_more}
use Rattle.lines.proofs.Stored.{stored_then, stored_length}
use Rattle.lines.proofs.+put_decimal.Goals as goal

pub put_byte-requires : goal.put_byte-requires
put_byte-requires t c = omega (arith, decimal_some c.args.v)

pub returns-then-v-lt10 : goal.returns-then-v-lt10
returns-then-v-lt10 t c =
    let v = c.args.v in
    let h = c.if-v-lt10.true in
    let same : v % 10 ≡ v = omega arith in
    rw (decimal_one v h, same) c.put_byte.ensures

pub put_decimal-end-requires : goal.put_decimal-end-requires
put_decimal-end-requires t c = let l = length-decimal_more c.args.v (omega arith) in (omega arith, omega arith)

pub put_byte-requires-2 : goal.put_byte-requires-2
put_byte-requires-2 t c =
    let s = c.put_decimal-end.ensures in
    omega (arith, length-decimal_more c.args.v (omega arith), s.end, stored_length _ _ _ s)

pub returns : goal.returns
returns t c =
    let a = c.args in
    rw (decimal_more a.v (omega arith)) (stored_then a.text.now a.at (decimal (a.v / 10)) (digit (a.v % 10) ∷ []) c.put_decimal-end.ensures c.put_byte-2.ensures)
