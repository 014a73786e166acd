-- Laws of numbers as bytes and of the padded message of FIPS 180-4, 3.1 and 5.1.1: how long they are, and which byte stands where.
use Rattle.std.proofs.Common.{◌≡◌, ℕ, suc, ◌+◌, ◌-◌, ◌*◌, ◌/◌, ◌%◌, ◌^◌, ◌<◌, ◌≤◌, List, ◌∷◌, ◌++◌, length, get_or, take, drop, replicate, sym, ap, ◌∙◌, arith, length-append, length-drop, get_or-append-add, refl, w32}
use Rattle.std.specs.Int.{to_be_bytes}
use lib.ListN.{length-replicate, get_or-replicate, get_or-append}
use lib.Pow.{field, mod-mod-pow}
use lib.Seq.{get_or-append_seam, drop-append-le, drop-append-add, take-append-le}
use Rattle.words.specs.Lists.{part, tabulate}
use Rattle.words.proofs.Lists.{length-tabulate, get_or-tabulate}
use Rattle.signature.specs.Sha256.{big_endian, big_endian_byte, zeros, padded}

pub length-big_endian : (n v : ℕ) → length (big_endian n v) ≡ n
unfolding big_endian
length-big_endian n v = length-tabulate (big_endian_byte n v) n

pub get_or-big_endian : (n v i : ℕ) → i < n → get_or (big_endian n v) i 0 ≡ big_endian_byte n v i
unfolding big_endian
get_or-big_endian n v i l = get_or-tabulate (big_endian_byte n v) n i l

pub length-padded : (m : List ℕ) → length (padded m) ≡ length m + 9 + zeros (length m)
unfolding padded
length-padded m =
    simp (length-append, length-replicate, length-big_endian) (omega arith)

pub padded_message : (m : List ℕ) (i : ℕ) → i < length m → get_or (padded m) i 0 ≡ get_or m i 0
unfolding padded
padded_message m i h = get_or-append m _ 0 i h

pub padded_one : (m : List ℕ) → get_or (padded m) (length m) 0 ≡ 0x80
unfolding padded
padded_one m = get_or-append_seam m 0x80 _ 0

-- what stands behind the bit 1
padded_behind : (m : List ℕ) (i : ℕ) → length m < i
    → get_or (padded m) i 0 ≡ get_or (replicate (zeros (length m)) 0 ++ big_endian 8 (8 * length m)) (i - length m - 1) 0
unfolding padded
padded_behind m i h =
    let e : i ≡ length m + suc (i - length m - 1) = omega arith in
    ap (λ (k : ℕ). get_or (padded m) k 0) e ∙ get_or-append-add m (0x80 ∷ (replicate (zeros (length m)) 0 ++ big_endian 8 (8 * length m))) (suc (i - length m - 1)) 0

pub padded_zero : (m : List ℕ) (i : ℕ) → length m < i → i < length m + 1 + zeros (length m) → get_or (padded m) i 0 ≡ 0
padded_zero m i h l =
    let z = zeros (length m) in
    padded_behind m i h ∙
    get_or-append (replicate z 0) _ 0 (i - length m - 1) (simp length-replicate (omega arith)) ∙
    get_or-replicate z (i - length m - 1) 0 0 (omega arith)

pub padded-length : (m : List ℕ) (i : ℕ) → length m + 1 + zeros (length m) ≤ i
    → get_or (padded m) i 0 ≡ get_or (big_endian 8 (8 * length m)) (i - (length m + 1 + zeros (length m))) 0
padded-length m i h =
    let z = zeros (length m) in
    let j = i - (length m + 1 + z) in
    let e : i - length m - 1 ≡ length {A = ℕ} (replicate z 0) + j = simp length-replicate (omega arith) in
    padded_behind m i (omega arith) ∙
    ap (λ (k : ℕ). get_or (replicate z 0 ++ big_endian 8 (8 * length m)) k 0) e ∙
    get_or-append-add (replicate z 0) (big_endian 8 (8 * length m)) j 0

-- eight of the low 64 bits of a number
low_byte : (v k : ℕ) → k ≤ 56 → v % 2 ^ 64 / 2 ^ k % 2 ^ 8 ≡ v / 2 ^ k % 2 ^ 8
low_byte v k h =
    let a : 64 ≡ (56 - k + 8) + k = omega arith in
    ap (λ (n : ℕ). v % 2 ^ n / 2 ^ k % 2 ^ 8) a ∙ ap (λ (n : ℕ). n % 2 ^ 8) (field v (56 - k + 8) k) ∙ mod-mod-pow (v / 2 ^ k) (56 - k) 8

-- a word of 32 bits, and one of 64, as the library writes it
pub four_bytes : (v : ℕ) → to_be_bytes w32 v ≡ big_endian 4 v
unfolding big_endian big_endian_byte tabulate
four_bytes v = let e : v / 1 ≡ v = omega arith in rw e refl

pub word_byte : (v i : ℕ) → i < 4 → get_or (to_be_bytes w32 v) i 0 ≡ big_endian_byte 4 v i
word_byte v i h = ap (λ (b : List ℕ). get_or b i 0) (four_bytes v) ∙ get_or-big_endian 4 v i h

pub length_byte : (n j : ℕ) → j < 8 → big_endian_byte 8 (8 * (n % 2 ^ 61)) j ≡ get_or (big_endian 8 (8 * n)) j 0
unfolding big_endian_byte
length_byte n j h =
    let e : 8 * (n % 2 ^ 61) ≡ 8 * n % 2 ^ 64 = omega arith in
    ap (λ (v : ℕ). v / 2 ^ (8 * (7 - j)) % 2 ^ 8) e ∙ low_byte (8 * n) (8 * (7 - j)) (omega arith) ∙ sym (get_or-big_endian 8 (8 * n) j h)

-- a part that lies in the message
part-padded : (m : List ℕ) (a n : ℕ) → a + n ≤ length m → part (padded m) a n ≡ part m a n
unfolding part padded
part-padded m a n h =
    rw (drop-append-le a m _ (omega arith)) (take-append-le n (drop a m) _ (simp length-drop (omega arith)))

-- A message in two pieces
module _ (head body : List ℕ) where
  pub length_joined : length (padded (head ++ body)) ≡ length head + length body + 9 + zeros (length head + length body)
  length_joined = rw (← (length-append head body)) (length-padded (head ++ body))

  -- a place behind the head, counted from its end
  behind_head : (i : ℕ) → length head ≤ i → i ≡ length head + (i - length head)
  behind_head i h = omega arith

  -- a part that lies in the body is read there
  pub part_joined : (a n : ℕ) → length head ≤ a → a - length head + n ≤ length body → part (padded (head ++ body)) a n ≡ part body (a - length head) n
  unfolding part
  part_joined a n h l =
      part-padded (head ++ body) a n (rw (length-append head body) (omega arith)) ∙
      ap (take n) (ap (λ (k : ℕ). drop k (head ++ body)) (behind_head a h) ∙ drop-append-add head body (a - length head))
