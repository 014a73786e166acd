-- An entry covers blocks of its place, and one at least if it has a place.
use mathlib.Core.Bool.{Bool, true, ◌||◌, or-true, false≢true}
use mathlib.Core.Logic.{⊎_elim}
use mathlib.Core.Path.{◌≡◌, refl}
use Prim.Native.Nat.{◌+◌, ◌≤◌, ◌<◌}
use native.Mathlib.Omega.{arith}
use Rattle.words.proofs.Bounded.{or_cases}
use Rattle.entries.specs.Entries.{Entry, fault, unaccepted, link, section, page, large, is_fault, is_link, is_section, is_page, place_first, place_blocks, cover_first, cover_blocks}

pub cover_low : (e : Entry) → place_first e ≤ cover_first e
unfolding place_first cover_first
cover_low fault = omega arith
cover_low unaccepted = omega arith
cover_low (link p) = omega arith
cover_low (section b r) = omega arith
cover_low (page b r) = omega arith
cover_low (large b r) = omega arith

pub cover_high : (e : Entry) → cover_first e + cover_blocks e ≤ place_first e + place_blocks e
unfolding place_first place_blocks cover_first cover_blocks
cover_high fault = omega arith
cover_high unaccepted = omega arith
cover_high (link p) = omega arith
cover_high (section b r) = omega arith
cover_high (page b r) = omega arith
cover_high (large b r) = omega arith

pub cover_some : (e : Entry) → 0 < place_blocks e → 0 < cover_blocks e
unfolding place_blocks cover_blocks
cover_some fault h = h
cover_some unaccepted h = h
cover_some (link p) h = h
cover_some (section b r) h = h
cover_some (page b r) h = h
cover_some (large b r) h = omega arith

-- an entry that stands by itself: its word alone says what it is, and it covers the whole of its place
abbrev pub stands_alone : Entry → Bool
stands_alone e = is_fault e || is_section e || is_link e || is_page e

pub cover_whole : (e : Entry) → stands_alone e ≡ true → (cover_first e ≡ place_first e) × (cover_blocks e ≡ place_blocks e)
unfolding place_first place_blocks cover_first cover_blocks is_fault is_link is_section is_page
cover_whole fault h = (refl, refl)
cover_whole unaccepted h = absurd (false≢true h)
cover_whole (link p) h = (refl, refl)
cover_whole (section b r) h = (refl, refl)
cover_whole (page b r) h = (refl, refl)
cover_whole (large b r) h = absurd (false≢true h)

-- a fault or a page stands by itself
pub page_alone : (e : Entry) → (is_fault e || is_page e) ≡ true → stands_alone e ≡ true
page_alone e t =
    ⊎_elim (λ (h : is_fault e ≡ true). rw h refl) (λ (h : is_page e ≡ true). rw h (or-true (is_fault e || is_section e || is_link e))) (or_cases (is_fault e) (is_page e) t)
