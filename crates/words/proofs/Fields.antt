-- Laws of bit fields: a field does not depend on the bits beside it.
use mathlib.Core.Path.{◌≡◌, sym, ◌∙◌, ap}
use Prim.Native.Nat.{ℕ, ◌+◌, ◌*◌, ◌-◌, ◌/◌, ◌%◌, ◌^◌, ◌<◌, ◌≤◌}
use native.Mathlib.Nat.{div-one, mod-lt, mod-eq_of_lt, mul_comm}
use native.Mathlib.Omega.{arith}
use lib.Pow.{pow_pos, shr-shr, field, mod-mod-pow, mod-pow-add, high, low}
use Rattle.words.specs.Words.{bits, put_bits}

pub bits_bound : (v lo n : ℕ) → bits v lo n < 2 ^ n
bits_bound v lo n = mod-lt (v / 2 ^ lo) (pow_pos n)

-- the bits below bit k are those of the lowest k bits
pub bits_low : (v lo n k : ℕ) → lo + n ≤ k → bits (bits v 0 k) lo n ≡ bits v lo n
bits_low v lo n k h =
    let m = k - (lo + n) in
    let below : bits (v % 2 ^ (m + n + lo)) lo n ≡ bits v lo n = rw (field v (m + n) lo) (mod-mod-pow (v / 2 ^ lo) m n) in
    let e : m + n + lo ≡ k = omega arith in
    rw (div-one v) (rw e at below)

-- a number that stands above k low bits
module _ (k hi : ℕ) {rest : ℕ} (fits : rest < 2 ^ k) where
  pub bits_above : (n : ℕ) → hi < 2 ^ n → bits (2 ^ k * hi + rest) k n ≡ hi
  bits_above n h = rw (mul_comm (2 ^ k) hi, high hi k fits) (mod-eq_of_lt h)

  pub bits_below : bits (2 ^ k * hi + rest) 0 k ≡ rest
  bits_below = rw (div-one (2 ^ k * hi + rest), mul_comm (2 ^ k) hi) (low hi k fits)

-- a field that is replaced

module _ (v lo n u : ℕ) where
  -- it fills its place, and the bits below it theirs
  replaced_bound : 2 ^ lo * (u % 2 ^ n) + v % 2 ^ lo < 2 ^ (n + lo)
  replaced_bound =
      let rest = mod-lt v (pow_pos lo) in
      let joined = mod-pow-add (u * 2 ^ lo + v % 2 ^ lo) n lo in
      rw (mul_comm (2 ^ lo) (u % 2 ^ n), ← rw (high u lo rest, low u lo rest) at joined) (mod-lt (u * 2 ^ lo + v % 2 ^ lo) (pow_pos (n + lo)))

  -- no field above it changes
  pub bits_put_above : (j m : ℕ) → n + lo ≤ j → bits (put_bits v lo n u) j m ≡ bits v j m
  unfolding put_bits
  bits_put_above j m h =
      let k = n + lo in
      let w = 2 ^ k * (v / 2 ^ k) + (2 ^ lo * (u % 2 ^ n) + v % 2 ^ lo) in
      let top : w / 2 ^ k ≡ v / 2 ^ k = rw (mul_comm (2 ^ k) (v / 2 ^ k)) (high (v / 2 ^ k) k replaced_bound) in
      let beyond : k + (j - k) ≡ j = omega arith in
      let at : w / 2 ^ (k + (j - k)) ≡ v / 2 ^ (k + (j - k)) = sym (shr-shr w k (j - k)) ∙ ap (λ x. x / 2 ^ (j - k)) top ∙ shr-shr v k (j - k) in
      ap (λ x. x % 2 ^ m) (rw beyond at at)

  -- and none below it
  pub bits_put_below : (j m : ℕ) → j + m ≤ lo → bits (put_bits v lo n u) j m ≡ bits v j m
  unfolding put_bits
  bits_put_below j m h =
      let k = n + lo in
      let rest = 2 ^ lo * (u % 2 ^ n) + v % 2 ^ lo in
      let w = 2 ^ k * (v / 2 ^ k) + rest in
      let whole : w % 2 ^ k ≡ rest = rw (mul_comm (2 ^ k) (v / 2 ^ k)) (low (v / 2 ^ k) k replaced_bound) in
      let under : rest % 2 ^ lo ≡ v % 2 ^ lo = rw (mul_comm (2 ^ lo) (u % 2 ^ n)) (low (u % 2 ^ n) lo (mod-lt v (pow_pos lo))) in
      let bottom : w % 2 ^ lo ≡ v % 2 ^ lo = sym (mod-mod-pow w n lo) ∙ ap (λ x. x % 2 ^ lo) whole ∙ under in
      let bottoms : bits w 0 lo ≡ bits v 0 lo = rw (div-one w, div-one v) bottom in
      sym (bits_low w j m lo h) ∙ ap (λ x. bits x j m) bottoms ∙ bits_low v j m lo h
