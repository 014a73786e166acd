-- `entries::encode::placed` meets its contract: nothing of so small a field is shifted out of the word.
use Prim.Native.Nat.{◌+◌, ◌^◌}
use native.Mathlib.Nat.{mul_comm}
use native.Mathlib.Omega.{arith}
use lib.Pow.{pow_mono, shl_exact, shl_lt}
use Rattle.entries.proofs.encode.placed.Goals as goal

pub returns : goal.returns
returns c =
    let a = c.args in
    let small = shl_lt {a = a.field} 3 a.place (omega arith) in
    let most = pow_mono {i = 3 + a.place} {j = 20} (omega arith) in
    rw (shl_exact {a = a.field} 3 a.place 32 (omega arith) (omega arith)) (mul_comm a.field (2 ^ a.place), omega arith)
