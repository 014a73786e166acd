-- Laws of walks: a walk goes on only from an entry whose place is in the region, so it ends in the region.
use mathlib.Core.Bool.{Bool, true, false, cond, ◌||◌}
use mathlib.Core.List.{List}
use mathlib.Core.Logic.{◌≢◌}
use mathlib.Core.Path.{◌≡◌, refl}
use Prim.Native.Nat.{ℕ, ◌+◌, ◌*◌, ◌-◌, ◌/◌, ◌<◌, ◌≤◌}
use native.Mathlib.Nat.{mod-lt}
use native.Mathlib.Omega.{arith}
use Rattle.words.specs.Words.{bits}
use Rattle.entries.specs.Entries.{Entry, fault, unaccepted, link, section, page, large, Level, l1, l2, entry_at, is_fault, is_unaccepted, place_first, cover_first, place_blocks, cover_blocks, block_tables}
use Rattle.entries.proofs.Covers.{cover_some}
use Rattle.rules.specs.Store.{block_bytes, block_words}
use Rattle.rules.specs.Tables.{astray}
use Rattle.rules.specs.Guest.{Walk, stops, ends, passes, ends_at, second_entry, follow, walk}
use Rattle.rules.proofs.Walk.{place_above, cover_within}

-- the entry covers blocks, all of them among the n from B on
pub record Inside (B n : ℕ) (e : Entry) : Type 0 where
  pub sized : 0 < cover_blocks e
  pub low : B ≤ cover_first e
  pub high : cover_first e + cover_blocks e ≤ B + n

-- what holds of both stops, and of what follows an entry inside, holds of the walk at an entry
passes_cases : (P : Walk → Type 0) (v : Level) (B n : ℕ) (e : Entry) (onward : Walk) → P (stops v 24) → P (stops v 22) → (Inside B n e → P onward)
    → P (passes v B n e onward)
unfolding passes
passes_cases P v B n e onward broken none on = go (is_unaccepted e) (astray B n e) (is_fault e) refl refl refl where
  go : (u a f : Bool) → is_unaccepted e ≡ u → astray B n e ≡ a → is_fault e ≡ f → P (cond (u || a) (stops v 24) (cond f (stops v 22) onward))
  go true a f p q r = broken
  go false true f p q r = broken
  go false false true p q r = none
  go false false false p q r =
      let z = place_above e p r in let (low, high) = cover_within B n e z q in on (record { sized = cover_some e z; low = low; high = high })

-- An entry at which a walk goes on

pub goes_on_inside : (v : Level) (B n : ℕ) (e : Entry) → ((onward : Walk) → passes v B n e onward ≡ onward) → Inside B n e
goes_on_inside v B n e on = passes_cases (λ w. w ≡ stops v 0 → Inside B n e) v B n e (stops v 0) (other 24 (λ e. omega arith)) (other 22 (λ e. omega arith)) (λ i q. i) (on (stops v 0)) where
  other : (k : ℕ) → k ≢ 0 → stops v k ≡ stops v 0 → Inside B n e
  other k h q = absurd (h (cc))

-- the L2 table of a link from which a walk goes on
pub table_inside : (B n place : ℕ) → ((onward : Walk) → passes l1 B n (link place) onward ≡ onward) → (block_tables * B ≤ place) × (place < block_tables * (B + n))
unfolding cover_first place_first cover_blocks place_blocks
table_inside B n place on = let i = goes_on_inside l1 B n (link place) on in (omega arith, omega arith)

-- A walk's end

-- a walk stops with a refusal's number, or ends in one of the n blocks from B on
unfoldable pub InRegion : ℕ → ℕ → Walk → Type 0
InRegion B n (stops v k) = 0 < k
InRegion B n (ends v p r) = (B ≤ p) × (p < B + n)

module _ (B n addr : ℕ) where
  at_entry : (v : Level) (e : Entry) (onward : Walk) → (Inside B n e → InRegion B n onward) → InRegion B n (passes v B n e onward)
  unfolding InRegion
  at_entry v e onward on = passes_cases (InRegion B n) v B n e onward (omega arith) (omega arith) on

  at_end : (v : Level) (e : Entry) → Inside B n e → InRegion B n (ends_at v addr e)
  unfolding InRegion
  at_end v e i = let m = mod-lt (addr / block_bytes) i.sized in (omega arith, omega arith)

  onward_in_region : (memory : List ℕ) (e : Entry) → Inside B n e → InRegion B n (follow B n memory addr e)
  unfolding follow
  onward_in_region memory fault i = at_end l1 fault i
  onward_in_region memory unaccepted i = at_end l1 unaccepted i
  onward_in_region memory (link place) i = let e = second_entry B memory addr place in at_entry l2 e (ends_at l2 addr e) (at_end l2 e)
  onward_in_region memory (section b r) i = at_end l1 (section b r) i
  onward_in_region memory (page b r) i = at_end l1 (page b r) i
  onward_in_region memory (large b r) i = at_end l1 (large b r) i

  pub walk_in_region : (memory : List ℕ) (table : ℕ) → InRegion B n (walk B n memory table addr)
  unfolding walk
  walk_in_region memory table =
      let e = entry_at l1 memory (block_words * (table - B) + bits addr 20 12) in at_entry l1 e (follow B n memory addr e) (onward_in_region memory e)
