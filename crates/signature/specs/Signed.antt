-- Golden images, and what one signs: contents in their place (RULES: signature, refusal).
use Rattle.std.specs.Prelude.{◌≡◌, ℕ, ◌+◌, ◌*◌, ◌/◌, ◌%◌, ◌^◌, ◌<◌, Bool, not, ◌||◌, List, ◌++◌, length, slice_index}
use Rattle.words.specs.Bounded.{above, any, neqb}
use Rattle.signature.specs.Sha256.{big_endian, sha256}

-- memory 1, signature 1: the bytes of a block
abbrev pub block_bytes : ℕ
block_bytes = 4096

-- signature 2: the bytes of a digest
abbrev pub digest_bytes : ℕ
digest_bytes = 32

-- signature 2: the most digests that an image may have
abbrev pub most_digests : ℕ
most_digests = 1024

-- signature 1: the bytes in which a block's number stands before its contents
abbrev pub number_bytes : ℕ
number_bytes = 4

-- refusal 1, signature 2: the image is no whole number of digests, or has too many
unfoldable pub misfit_image : List ℕ → Bool
misfit_image golden = neqb (length golden % digest_bytes) 0 || above (length golden / digest_bytes) most_digests

-- signature 3: digest k of the image equals d in its first n bytes; no meaning if the image has no whole digest k
unfoldable pub agrees : List ℕ → List ℕ → ℕ → ℕ → Bool
agrees d golden k n = not (any n (λ j. neqb (slice_index d j) (slice_index golden (digest_bytes * k + j))))

-- signature 2, signature 3: one of the whole digests of the image, wherever it stands, equals d in all bytes
unfoldable pub listed : List ℕ → List ℕ → Bool
listed d golden = any (length golden / digest_bytes) (λ k. agrees d golden k digest_bytes)

-- signature 1: what is hashed for block p: its number, the highest byte first, and its contents
unfoldable pub block_message : ℕ → List ℕ → List ℕ
block_message p contents = big_endian number_bytes p ++ contents

-- signature 6: two blocks have the same message only if they have the same number and the same contents; numbers are words
abbrev pub BlockMessageInjective : Type 0
BlockMessageInjective =
    (p q : ℕ) (x y : List ℕ) → p < 2 ^ 32 → q < 2 ^ 32 → block_message p x ≡ block_message q y → (p ≡ q) × (x ≡ y)

-- signature 1, signature 5: the digest of block p with these contents
unfoldable pub block_digest : ℕ → List ℕ → List ℕ
block_digest p contents = sha256 (block_message p contents)

-- signature 3, signature 5: the image has the digest of block p with these contents
unfoldable pub signed : ℕ → List ℕ → List ℕ → Bool
signed p contents golden = listed (block_digest p contents) golden
