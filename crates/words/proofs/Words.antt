-- Laws of words in lists of bytes: a store changes the four bytes of its word, to the bytes of the number stored, and no other.
use mathlib.Core.Path.{◌≡◌, refl, sym, ◌∙◌}
use mathlib.Core.List.{List}
use mathlib.Core.Logic.{◌≢◌, ◌⊎◌, inl, inr, ⊎_elim}
use Prim.Native.Nat.{ℕ, zero, suc, ◌+◌, ◌*◌, ◌-◌, ◌/◌, ◌%◌, ◌^◌, ◌<◌, ◌≤◌}
use native.Mathlib.Nat.{add-zero, div-one, div-div-eq-div-mul, mod-eq_of_lt}
use native.Mathlib.Omega.{arith}
use lib.ListN.{length, get_or, set, length-set, get_or-eq_default}
use lib.Seq.{get_or-set_same, get_or-set_other, set-get_or, ext_get_or}
use Rattle.std.specs.Int.{w32, to_le_bytes}
use Rattle.words.specs.Lists.{put_list}
use Rattle.words.specs.Words.{bits, word, put_word}
use Rattle.words.proofs.Bounded.{below_or_above}

-- each element is a byte
abbrev pub Bytes : List ℕ → Type 0
Bytes xs = (i : ℕ) → get_or xs i 0 < 2 ^ 8

module _ (xs : List ℕ) (a v : ℕ) where
  pub length-put_word : length (put_word xs a v) ≡ length xs
  unfolding put_word
  length-put_word = simp length-set

  -- outside the four bytes
  pub get_or-put_word_other : (i : ℕ) → (a ≤ i → a + 4 ≤ i) → get_or (put_word xs a v) i 0 ≡ get_or xs i 0
  unfolding put_word
  get_or-put_word_other i o =
      let off : (k : ℕ) → k < 4 → i ≢ a + k = λ k h e. omega (arith, o (omega arith)) in
      let off_first : i ≢ a = λ e. omega (arith, o (omega arith)) in
      simp (get_or-set_other, off 1 (omega arith), off 2 (omega arith), off 3 (omega arith))

  -- the k-th of the four bytes
  pub get_or-put_word_same : (k : ℕ) → k < 4 → a + k < length xs → get_or (put_word xs a v) (a + k) 0 ≡ bits v (8 * k) 8
  unfolding put_word
  get_or-put_word_same zero h l =
      let off : (k : ℕ) → 0 < k → a ≢ a + k = λ k p e. omega arith in
      let inside : a < length xs = omega arith in
      simp (add-zero, get_or-set_other, get_or-set_same, off 1 (omega arith), off 2 (omega arith), off 3 (omega arith))
  get_or-put_word_same (suc zero) h l =
      let off : (k : ℕ) → 1 < k → a + 1 ≢ a + k = λ k p e. omega arith in
      let inside : a + 1 < length (set xs a (bits v 0 8)) = simp length-set (omega arith) in
      simp (get_or-set_other, get_or-set_same, off 2 (omega arith), off 3 (omega arith))
  get_or-put_word_same (suc (suc zero)) h l =
      let off : a + 2 ≢ a + 3 = λ e. omega arith in
      let inside : a + 2 < length (set (set xs a (bits v 0 8)) (a + 1) (bits v 8 8)) = simp length-set (omega arith) in
      simp (get_or-set_other, get_or-set_same)
  get_or-put_word_same (suc (suc (suc zero))) h l =
      let inside : a + 3 < length (set (set (set xs a (bits v 0 8)) (a + 1) (bits v 8 8)) (a + 2) (bits v 16 8)) = simp length-set (omega arith) in
      simp get_or-set_same
  get_or-put_word_same (suc (suc (suc (suc k)))) h l = let z : ⊥ = omega arith in absurd z

-- a store is that of the list of the four bytes
pub put_word-list : (xs : List ℕ) (a v : ℕ) → put_list xs a (to_le_bytes w32 v) ≡ put_word xs a v
unfolding put_list put_word
put_word-list xs a v =
    let second : suc a ≡ a + 1 = omega arith in
    let third : suc (suc a) ≡ a + 2 = omega arith in
    let fourth : suc (suc (suc a)) ≡ a + 3 = omega arith in
    rw (fourth, third, second, div-one v)

-- Reading

-- a word depends on its four bytes only
pub word_cong : (xs ys : List ℕ) (a : ℕ) → ((i : ℕ) → a ≤ i → i < a + 4 → get_or xs i 0 ≡ get_or ys i 0) → word xs a ≡ word ys a
unfolding word
word_cong xs ys a h =
    rw (h a (omega arith) (omega arith), h (a + 1) (omega arith) (omega arith), h (a + 2) (omega arith) (omega arith), h (a + 3) (omega arith) (omega arith))

pub word_bound : (xs : List ℕ) (a : ℕ) → Bytes xs → word xs a < 2 ^ 32
unfolding word
word_bound xs a b = omega (arith, b a, b (a + 1), b (a + 2), b (a + 3))

-- Reading after a store

-- a number below 2^32 is its four bytes
bytes_of : (v : ℕ) → v < 2 ^ 32 → bits v 0 8 + 2 ^ 8 * bits v 8 8 + 2 ^ 16 * bits v 16 8 + 2 ^ 24 * bits v 24 8 ≡ v
bytes_of v h =
    let e : v / 2 ^ 8 / 2 ^ 8 ≡ v / 2 ^ 16 = div-div-eq-div-mul v (2 ^ 8) (2 ^ 8) in
    let f : v / 2 ^ 16 / 2 ^ 8 ≡ v / 2 ^ 24 = div-div-eq-div-mul v (2 ^ 16) (2 ^ 8) in
    let t : v / 2 ^ 24 < 2 ^ 8 = omega arith in
    rw (div-one, mod-eq_of_lt t, ← f, ← e) (omega arith)

module _ (xs : List ℕ) (a v : ℕ) where
  pub word-put_word_other : (j : ℕ) → (j < a + 4 → j + 4 ≤ a) → word (put_word xs a v) j ≡ word xs j
  word-put_word_other j o = word_cong (put_word xs a v) xs j (λ i lo hi. get_or-put_word_other xs a v i (λ h. away i lo hi h)) where
    away : (i : ℕ) → j ≤ i → i < j + 4 → a ≤ i → a + 4 ≤ i
    away i lo hi h = ⊎_elim (λ (l : j < a + 4). omega (arith, o l)) (λ (l : a + 4 ≤ j). omega arith) (below_or_above j (a + 4))

  pub word-put_word_same : a + 4 ≤ length xs → v < 2 ^ 32 → word (put_word xs a v) a ≡ v
  unfolding word
  word-put_word_same l h =
      let byte = get_or-put_word_same xs a v in
      let b0 : get_or (put_word xs a v) a 0 ≡ bits v 0 8 = rw add-zero at (byte 0 (omega arith) (omega arith)) in
      rw (b0, byte 1 (omega arith) (omega arith), byte 2 (omega arith) (omega arith), byte 3 (omega arith) (omega arith))
      (bytes_of v h)

-- Stores

-- a place is one of four or outside them
four_or_outside : (a i : ℕ) → ((k : ℕ) × (k < 4) × (i ≡ a + k)) ⊎ (a ≤ i → a + 4 ≤ i)
four_or_outside a i =
    ⊎_elim (λ (h : i < a). inr (λ l. omega arith))
    (λ (h : a ≤ i). ⊎_elim (λ (l : i < a + 4). inl (i - a, omega arith, omega arith)) (λ (l : a + 4 ≤ i). inr (λ _. l)) (below_or_above i (a + 4)))
    (below_or_above i a)

pub bytes_put_word : (xs : List ℕ) (a v : ℕ) → Bytes xs → Bytes (put_word xs a v)
bytes_put_word xs a v b i =
    ⊎_elim (λ (l : i < length xs). ⊎_elim (within l) (λ o. rw (get_or-put_word_other xs a v i o) (b i)) (four_or_outside a i))
    beyond
    (below_or_above i (length xs)) where
      within : i < length xs → (k : ℕ) × (k < 4) × (i ≡ a + k) → get_or (put_word xs a v) i 0 < 2 ^ 8
      within l (k, h, e) = rw e (rw (get_or-put_word_same xs a v k h (omega arith)) (omega arith))

      beyond : length xs ≤ i → get_or (put_word xs a v) i 0 < 2 ^ 8
      beyond l =
          let h : length (put_word xs a v) ≤ i = rw (length-put_word xs a v) l in
          rw (get_or-eq_default (put_word xs a v) 0 h) (omega arith)

-- the first byte of a number, and those above it
first_byte : (x y : ℕ) → x < 2 ^ 8 → (x + 2 ^ 8 * y) % 2 ^ 8 ≡ x
first_byte x y h = omega arith

-- the four bytes of a word
bytes_word : (x y z t : ℕ) → x < 2 ^ 8 → y < 2 ^ 8 → z < 2 ^ 8 → t < 2 ^ 8 → (w : ℕ) → w ≡ x + 2 ^ 8 * y + 2 ^ 16 * z + 2 ^ 24 * t
    → (bits w 0 8 ≡ x) × (bits w 8 8 ≡ y) × (bits w 16 8 ≡ z) × (bits w 24 8 ≡ t)
bytes_word x y z t hx hy hz ht w e =
    let q1 : w / 2 ^ 8 ≡ y + 2 ^ 8 * (z + 2 ^ 8 * t) = omega arith in
    let q2 : w / 2 ^ 16 ≡ z + 2 ^ 8 * t = omega arith in
    (omega arith, rw q1 (first_byte y (z + 2 ^ 8 * t) hy), rw q2 (first_byte z t hz), omega arith)

-- storing the word that is there changes nothing
pub put_word_self : (xs : List ℕ) (a : ℕ) → Bytes xs → put_word xs a (word xs a) ≡ xs
unfolding put_word word
put_word_self xs a b =
    let byte : ℕ → ℕ = λ k. get_or xs k 0 in
    let (e0, e1, e2, e3) = bytes_word (byte a) (byte (a + 1)) (byte (a + 2)) (byte (a + 3)) (b a) (b (a + 1)) (b (a + 2)) (b (a + 3)) (word xs a) refl in
    rw (e0, e1, e2, e3) (simp set-get_or)

-- a byte after a store depends on the byte before it only outside the four
get_or-put_word_cong : (xs ys : List ℕ) (a v i : ℕ) → length xs ≡ length ys → i < length xs → ((a ≤ i → a + 4 ≤ i) → get_or xs i 0 ≡ get_or ys i 0)
    → get_or (put_word xs a v) i 0 ≡ get_or (put_word ys a v) i 0
get_or-put_word_cong xs ys a v i n l same =
    ⊎_elim four (λ o. get_or-put_word_other xs a v i o ∙ same o ∙ sym (get_or-put_word_other ys a v i o)) (four_or_outside a i) where
      four : (k : ℕ) × (k < 4) × (i ≡ a + k) → get_or (put_word xs a v) i 0 ≡ get_or (put_word ys a v) i 0
      four (k, h, e) = rw e (get_or-put_word_same xs a v k h (omega arith) ∙ sym (get_or-put_word_same ys a v k h (omega arith)))

module _ (xs : List ℕ) (a u v : ℕ) where
  -- stores apart from each other commute
  pub put_word_comm : (j : ℕ) → (j < a + 4 → j + 4 ≤ a) → put_word (put_word xs a u) j v ≡ put_word (put_word xs j v) a u
  put_word_comm j o = ext_get_or 0 (put_word (put_word xs a u) j v) (put_word (put_word xs j v) a u) (simp length-put_word) same where
    same : (i : ℕ) → i < length (put_word (put_word xs a u) j v) → get_or (put_word (put_word xs a u) j v) i 0 ≡ get_or (put_word (put_word xs j v) a u) i 0
    same i l = ⊎_elim four outside (four_or_outside a i) where
      four : (k : ℕ) × (k < 4) × (i ≡ a + k) → get_or (put_word (put_word xs a u) j v) i 0 ≡ get_or (put_word (put_word xs j v) a u) i 0
      four (k, h, e) =
          let away : j ≤ i → j + 4 ≤ i = λ m. omega (arith, o (omega arith)) in
          get_or-put_word_other (put_word xs a u) j v i away
          ∙ get_or-put_word_cong xs (put_word xs j v) a u i (sym (length-put_word xs j v)) (simp length-put_word at l) (λ _. sym (get_or-put_word_other xs j v i away))

      outside : (a ≤ i → a + 4 ≤ i) → get_or (put_word (put_word xs a u) j v) i 0 ≡ get_or (put_word (put_word xs j v) a u) i 0
      outside out =
          get_or-put_word_cong (put_word xs a u) xs j v i (length-put_word xs a u) (rw (length-put_word (put_word xs a u) j v) at l) (λ _. get_or-put_word_other xs a u i out)
          ∙ sym (get_or-put_word_other (put_word xs j v) a u i out)
