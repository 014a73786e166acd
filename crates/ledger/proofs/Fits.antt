-- What refusal 1 says of lengths.
use mathlib.Core.Bool.{Bool, true, false}
use mathlib.Core.Path.{◌≡◌, refl}
use Prim.Native.Nat.{◌<◌}
use native.Mathlib.Omega.{arith}
use lib.ListN.{length}
use Rattle.rules.specs.Store.{Store, ledger_head_bytes, misfit_stored}
use Rattle.rules.proofs.State.{fits_stored}

-- a ledger that has no whole head has the wrong length
pub short-misfit : (s : Store) → length s.ledger < ledger_head_bytes → true ≡ misfit_stored s
short-misfit s h = decided (misfit_stored s) (λ e. e) where
  decided : (t : Bool) → (t ≡ false → misfit_stored s ≡ false) → true ≡ t
  decided true f = refl
  decided false f = let fit = fits_stored s (f refl) in let z : ⊥ = omega arith in absurd z
