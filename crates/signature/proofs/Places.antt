-- A signature belongs to a place: what is hashed determines the block's number and its contents.
use Rattle.std.proofs.Common.{◌≡◌, ℕ, ◌+◌, ◌/◌, ◌%◌, ◌^◌, ◌<◌, List, ◌++◌, get_or, take, drop, sym, ap, ◌∙◌, arith, shr-shr}
use lib.Pow.{split, shr_mod}
use lib.Seq.{take-append_seam, drop-append_seam}
use Rattle.signature.specs.Sha256.{big_endian, big_endian_byte}
use Rattle.signature.specs.Signed.{number_bytes, block_message, BlockMessageInjective}
use Rattle.signature.proofs.Padded.{length-big_endian, get_or-big_endian}

-- numbers that are equal from bit k + 8 on, and in the byte below it, are equal from bit k on
equal_from : (p q k : ℕ) → p / 2 ^ (k + 8) ≡ q / 2 ^ (k + 8) → p / 2 ^ k % 2 ^ 8 ≡ q / 2 ^ k % 2 ^ 8 → p / 2 ^ k ≡ q / 2 ^ k
equal_from p q k e f = sym (split (p / 2 ^ k) 8) ∙ rw (shr-shr p k 8, e, f, ← (shr-shr q k 8)) (split (q / 2 ^ k) 8)

big_endian_injective : (p q : ℕ) → p < 2 ^ 32 → q < 2 ^ 32 → big_endian number_bytes p ≡ big_endian number_bytes q → p ≡ q
unfolding big_endian_byte
big_endian_injective p q hp hq e =
    let at : (i : ℕ) → i < number_bytes → big_endian_byte number_bytes p i ≡ big_endian_byte number_bytes q i
    = λ i l. sym (get_or-big_endian number_bytes p i l) ∙ ap (λ (b : List ℕ). get_or b i 0) e ∙ get_or-big_endian number_bytes q i l in
    let from24 : p / 2 ^ 24 ≡ q / 2 ^ 24 = sym (shr_mod 8 24 hp) ∙ at 0 (omega arith) ∙ shr_mod 8 24 hq in
    let from16 : p / 2 ^ 16 ≡ q / 2 ^ 16 = equal_from p q 16 from24 (at 1 (omega arith)) in
    let from8 : p / 2 ^ 8 ≡ q / 2 ^ 8 = equal_from p q 8 from16 (at 2 (omega arith)) in
    omega (arith, equal_from p q 0 from8 (at 3 (omega arith)))

pub block_message_injective : BlockMessageInjective
unfolding block_message
block_message_injective p q x y hp hq e =
    let first : (n : ℕ) (z : List ℕ) → take number_bytes (big_endian number_bytes n ++ z) ≡ big_endian number_bytes n
    = λ n z. rw (length-big_endian number_bytes n) at (take-append_seam (big_endian number_bytes n) z) in
    let rest : (n : ℕ) (z : List ℕ) → drop number_bytes (big_endian number_bytes n ++ z) ≡ z
    = λ n z. rw (length-big_endian number_bytes n) at (drop-append_seam (big_endian number_bytes n) z) in
    (big_endian_injective p q hp hq (sym (first p x) ∙ ap (take number_bytes) e ∙ first q y), sym (rest p x) ∙ ap (drop number_bytes) e ∙ rest q y)
