-- SHA-256 of a message of whole bytes, by the names and in the order of FIPS 180-4 (RULES: signature). A word is a number below 2 ^ 32, a byte one below
-- 2 ^ 8: what is said of them has no meaning for greater numbers. Places are counted from 0. A block of the standard, 64 bytes, is called a part here.
use Rattle.std.specs.Prelude.{ℕ, zero, suc, ◌+◌, ◌-◌, ◌*◌, ◌/◌, ◌%◌, ◌^◌, Bool, cond, not, ◌&&◌, List, [], ◌∷◌, ◌++◌, map, length, take, replicate, bit_and, bit_or, bit_xor, nat_eq, nat_le, nat_lt, slice_index, slice_index_or}
use Rattle.words.specs.Bounded.{any}
use Rattle.words.specs.Lists.{part, tabulate}

infixl 65 ◌⊞◌
-- signature 1: FIPS 180-4, 3.2, the sum of two words modulo 2 ^ 32
abbrev pub ◌⊞◌ : ℕ → ℕ → ℕ
x ⊞ y = (x + y) % 2 ^ 32

-- signature 1: FIPS 180-4, 3.2, the word with each bit turned over
abbrev pub complement : ℕ → ℕ
complement x = 2 ^ 32 - 1 - x

-- signature 1: FIPS 180-4, 3.2, the word shifted n bits to the right
abbrev pub SHR : ℕ → ℕ → ℕ
SHR n x = x / 2 ^ n

-- signature 1: FIPS 180-4, 3.2, the word rotated n bits to the right, n at most 32
unfoldable pub ROTR : ℕ → ℕ → ℕ
ROTR n x = bit_or (x / 2 ^ n) (x * 2 ^ (32 - n) % 2 ^ 32)

-- signature 1: FIPS 180-4, 4.1.2, the function Ch
abbrev pub Ch : ℕ → ℕ → ℕ → ℕ
Ch x y z = bit_xor (bit_and x y) (bit_and (complement x) z)

-- signature 1: FIPS 180-4, 4.1.2, the function Maj
abbrev pub Maj : ℕ → ℕ → ℕ → ℕ
Maj x y z = bit_xor (bit_xor (bit_and x y) (bit_and x z)) (bit_and y z)

-- signature 1: FIPS 180-4, 4.1.2, the function Σ0
abbrev pub Σ₀ : ℕ → ℕ
Σ₀ x = bit_xor (bit_xor (ROTR 2 x) (ROTR 13 x)) (ROTR 22 x)

-- signature 1: FIPS 180-4, 4.1.2, the function Σ1
abbrev pub Σ₁ : ℕ → ℕ
Σ₁ x = bit_xor (bit_xor (ROTR 6 x) (ROTR 11 x)) (ROTR 25 x)

-- signature 1: FIPS 180-4, 4.1.2, the function σ0
abbrev pub σ₀ : ℕ → ℕ
σ₀ x = bit_xor (bit_xor (ROTR 7 x) (ROTR 18 x)) (SHR 3 x)

-- signature 1: FIPS 180-4, 4.1.2, the function σ1
abbrev pub σ₁ : ℕ → ℕ
σ₁ x = bit_xor (bit_xor (ROTR 17 x) (ROTR 19 x)) (SHR 10 x)

-- signature 1: FIPS 180-4, 4.2.2, p is a prime: at least 2, and no number from 2 to p - 1 divides it
unfoldable pub is_prime : ℕ → Bool
is_prime p = nat_le 2 p && not (any (p - 2) (λ d. nat_eq (p % (d + 2)) 0))

-- signature 1: FIPS 180-4, 4.2.2, the primes below a number, in ascending order
unfoldable pub primes_below : ℕ → List ℕ
primes_below zero = []
primes_below (suc n) = primes_below n ++ cond (is_prime n) (n ∷ []) []

-- signature 1: FIPS 180-4, 4.2.2, the first 64 primes, of which 311 is the last
unfoldable pub primes : List ℕ
primes = primes_below 312

-- signature 1: FIPS 180-4, 4.2.2, the greatest r from s to s + 2 ^ n - 1 with r ^ e at most x, found bit by bit; no meaning if s ^ e is above x
unfoldable pub root_from : ℕ → ℕ → ℕ → ℕ → ℕ
root_from e x zero s = s
root_from e x (suc n) s = root_from e x n (cond (nat_le ((s + 2 ^ n) ^ e) x) (s + 2 ^ n) s)

-- signature 1: FIPS 180-4, 4.2.2 and 5.3.3, of the e-th root of p the 32 binary digits behind the point, for p below 2 ^ (8 e)
unfoldable pub root_fraction : ℕ → ℕ → ℕ
root_fraction e p = root_from e (p * 2 ^ (32 * e)) 40 0 % 2 ^ 32

-- signature 1: FIPS 180-4, 4.2.2, the constants of the 64 rounds, from the cube roots of the primes
unfoldable pub K : List ℕ
K = map (root_fraction 3) primes

-- signature 1: FIPS 180-4, 3.1, byte i of v as n bytes, the highest first; bits of v above these are dropped
unfoldable pub big_endian_byte : ℕ → ℕ → ℕ → ℕ
big_endian_byte n v i = v / 2 ^ (8 * (n - 1 - i)) % 2 ^ 8

-- signature 1: FIPS 180-4, 3.1, v as n bytes
unfoldable pub big_endian : ℕ → ℕ → List ℕ
big_endian n v = tabulate (big_endian_byte n v) n

-- signature 1: FIPS 180-4, 5.1.1, how many bytes 0 a message of l bytes needs between 0x80 and its length
abbrev pub zeros : ℕ → ℕ
zeros l = (119 - l % 64) % 64

-- signature 1, signature 5: FIPS 180-4, 5.1.1, the message, 0x80, zeros, and its length in bits in 8 bytes, modulo 2 ^ 64
unfoldable pub padded : List ℕ → List ℕ
padded m = m ++ (0x80 ∷ (replicate (zeros (length m)) 0 ++ big_endian 8 (8 * length m)))

-- signature 1: FIPS 180-4, 5.2.1, word t of a part, t below 16
unfoldable pub block_word : List ℕ → ℕ → ℕ
block_word b t = 2 ^ 24 * slice_index b (4 * t) + 2 ^ 16 * slice_index b (4 * t + 1) + 2 ^ 8 * slice_index b (4 * t + 2) + slice_index b (4 * t + 3)

-- signature 1: FIPS 180-4, 5.3.3, the hash value at the start, from the square roots of the first 8 primes
unfoldable pub H⁰ : List ℕ
H⁰ = map (root_fraction 2) (take 8 primes)

-- signature 1: FIPS 180-4, 6.2.2, step 1, word t of a schedule from the words w before it, t at least 16
unfoldable pub next_word : List ℕ → ℕ → ℕ
next_word w t = σ₁ (slice_index w (t - 2)) ⊞ slice_index_or w (t - 7) 0 ⊞ σ₀ (slice_index w (t - 15)) ⊞ slice_index_or w (t - 16) 0

-- signature 1: FIPS 180-4, 6.2.2, step 1, the first words of the schedule of part b, as many as asked for
unfoldable pub schedule : List ℕ → ℕ → List ℕ
schedule b zero = []
schedule b (suc t) = schedule b t ++ (cond (nat_lt t 16) (block_word b t) (next_word (schedule b t) t) ∷ [])

-- signature 1: FIPS 180-4, 6.2.2, step 3, T1 of a round; the working variables a to h are the elements 0 to 7 of s
unfoldable pub T₁ : List ℕ → ℕ → ℕ → ℕ
T₁ s k w = slice_index_or s 7 0 ⊞ Σ₁ (slice_index s 4) ⊞ Ch (slice_index s 4) (slice_index s 5) (slice_index s 6) ⊞ k ⊞ w

-- signature 1: FIPS 180-4, 6.2.2, step 3, T2 of a round
unfoldable pub T₂ : List ℕ → ℕ
T₂ s = Σ₀ (slice_index s 0) ⊞ Maj (slice_index s 0) (slice_index s 1) (slice_index s 2)

-- signature 1: FIPS 180-4, 6.2.2, step 3, the working variables after a round with the constant k and the schedule word w
unfoldable pub round : List ℕ → ℕ → ℕ → List ℕ
round s k w =
    (T₁ s k w ⊞ T₂ s) ∷ slice_index s 0 ∷ slice_index s 1 ∷ slice_index s 2 ∷ (slice_index_or s 3 0 ⊞ T₁ s k w) ∷ slice_index s 4 ∷ slice_index s 5 ∷ slice_index s 6 ∷ []

-- signature 1: FIPS 180-4, 6.2.2, step 3, the working variables after as many rounds as asked for, from round t on, none beyond round 63
unfoldable pub rounds : List ℕ → List ℕ → ℕ → ℕ → List ℕ
rounds s w t zero = s
rounds s w t (suc n) = round (rounds s w t n) (slice_index K (t + n)) (slice_index w (t + n))

-- signature 1: FIPS 180-4, 6.2.2, steps 2 to 4, the next hash value, from the one before and the schedule of a part
unfoldable pub compress : List ℕ → List ℕ → List ℕ
compress h w = tabulate (λ j. slice_index_or (rounds h w 0 64) j 0 ⊞ slice_index_or h j 0) 8

-- signature 1: FIPS 180-4, 6.2.2, the hash value after as many parts of a padded message as asked for
unfoldable pub hashes : List ℕ → ℕ → List ℕ
hashes m zero = H⁰
hashes m (suc i) = compress (hashes m i) (schedule (part m (64 * i) 64) 64)

-- signature 1: FIPS 180-4, 6.2, the hash value of a message, eight words
unfoldable pub hash : List ℕ → List ℕ
hash m = hashes (padded m) (length (padded m) / 64)

-- signature 1: FIPS 180-4, 6.2.2, byte i of the digest, i below 32: the words of the hash value in order, each as 4 bytes
unfoldable pub digest_byte : List ℕ → ℕ → ℕ
digest_byte h i = big_endian_byte 4 (slice_index h (i / 4)) (i % 4)

-- signature 1, signature 5: FIPS 180-4, 6.2, the digest of a message, 32 bytes
unfoldable pub sha256 : List ℕ → List ℕ
sha256 m = tabulate (digest_byte (hash m)) 32
