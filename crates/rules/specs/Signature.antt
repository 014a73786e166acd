-- The golden image in the calls, the blocks of the memory that it signs, and those that are neither marked nor signed (RULES: signature, refusal, create, map).
use Rattle.std.specs.Prelude.{Bool, not, ◌&&◌, List, [], ◌∷◌, ℕ, ◌-◌, ◌*◌}
use Rattle.words.specs.Lists.{part}
use Rattle.signature.specs.Signed.{misfit_image, signed}
use Rattle.rules.specs.Refusals.{Refusal, ◌if◌}
use Rattle.rules.specs.Store.{block_bytes, Store, base, marked}

-- refusal 1, signature 2: what create and map ask of the image
abbrev pub image_refusals : List ℕ → List Refusal
image_refusals golden = 1 if misfit_image golden ∷ []

-- memory 3: the bytes of block b, b counted from the region's first
abbrev pub contents : List ℕ → ℕ → List ℕ
contents memory b = part memory (block_bytes * b) block_bytes

-- signature 3, signature 6: block p of a memory that begins at block B is signed, by its number and contents; outside the region this says nothing (below B,
-- p - B is 0), and 10 comes first
unfoldable pub signed_block : List ℕ → ℕ → List ℕ → ℕ → Bool
signed_block golden B memory p = signed p (contents memory (p - B)) golden

-- create 12, map 12: block p is neither marked nor signed
unfoldable pub unknown : List ℕ → Store → ℕ → Bool
unknown golden s p = not (marked s p) && not (signed_block golden (base s) s.memory p)
