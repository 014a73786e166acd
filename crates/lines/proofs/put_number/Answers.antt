-- `lines::put_number` meets its contract: the character is stored behind the digits.
use mathlib.Core.List.{[], ◌∷◌}
use native.Mathlib.Omega.{arith}
use Rattle.lines.specs.Decimal.{decimal}
use Rattle.lines.proofs.Stored.{stored_then, stored_length}
use Rattle.lines.proofs.put_number.Goals as goal

pub put_byte-requires : goal.put_byte-requires
put_byte-requires c = let s = c.put_decimal-end.ensures in omega (arith, s.end, stored_length _ _ _ s)

pub returns : goal.returns
returns c =
    let a = c.args in
    stored_then a.text.now a.at (decimal a.v) (a.after ∷ []) c.put_decimal-end.ensures c.put_byte.ensures
