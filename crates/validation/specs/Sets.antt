-- A set of blocks of a region, by their places in it: block b is bit b % 8 of byte b / 8 (RULES: create, memory).
use Rattle.std.specs.Prelude.{Bool, false, cond, not, ◌&&◌, ◌||◌, List, ◌≡◌, ℕ, ◌+◌, ◌/◌, ◌%◌, ◌^◌, ◌<◌, ◌≤◌, eqb, get_or, Option, None, Some}
use Rattle.words.specs.Bounded.{any, count}
use Rattle.entries.specs.Entries.{Entry, cover_first, cover_blocks}
use Rattle.rules.specs.Signature.{unknown}
use Rattle.rules.specs.Store.{Store, blocks, base, record_word, writable, executable, mark_word, mark_value, some_block}
use Rattle.rules.specs.Tables.{grants, gives, executed}
use Rattle.rules.specs.General.{hashed_blocks}
use Rattle.ledger.specs.Needs.{record_of}

-- bit i of a byte is 1
abbrev pub is_set : ℕ → ℕ → Bool
is_set x i = eqb (x / 2 ^ i % 2) 1

-- the set has block b of the region; it has no block behind its last bit
unfoldable pub member : List ℕ → ℕ → Bool
member members b = is_set (get_or members (b / 8) 0) (b % 8)

-- create 11: the entry gives write to a block of the set; no meaning for blocks below B
unfoldable pub meets_members : List ℕ → List ℕ → Entry → Bool
meets_members ledger members e = grants writable e && some_block (cover_first e) (cover_blocks e) (λ b. member members (record_of ledger b))

-- create 11, create 12: what one look at an entry adds: the blocks that it executes join the set, and that it writes is noted
pub record Gathered (s : Store) (e : Entry) (members members' : List ℕ) (writes writes' : Bool) : Type 0 where
  pub joins : (k : ℕ) → member members' k ≡ (member members k || gives executable e (base s + k))
  pub notes : writes' ≡ (writes || grants writable e)

-- create 11, create 12: the set is that of the blocks that the m entries e execute
abbrev pub AllJoined : Store → ℕ → (ℕ → Entry) → List ℕ → Type 0
AllJoined s m e members = (k : ℕ) → member members k ≡ any m (λ i. gives executable (e i) (base s + k))

-- create 11, create 12: what one look at each of the m entries e adds to an empty set; and whether one of them writes
pub record AllGathered (s : Store) (m : ℕ) (e : ℕ → Entry) (members : List ℕ) (writes : Bool) : Type 0 where
  pub joined : AllJoined s m e members
  pub written : writes ≡ any m (λ i. grants writable (e i))

-- the set has no block
abbrev pub EmptySet : List ℕ → Type 0
EmptySet members = (b : ℕ) → member members b ≡ false

-- create 12: block b of the region is in the set, and neither marked nor signed
unfoldable pub member_unknown : List ℕ → Store → List ℕ → ℕ → Bool
member_unknown golden s members b = member members b && unknown golden s (base s + b)

-- calls 8: block b of the region is in the set, and not marked
unfoldable pub member_hashed : List ℕ → List ℕ → ℕ → Bool
member_hashed ledger members b = member members b && not (eqb (record_word ledger mark_word b) mark_value)

-- memory 3: the set has no block behind the region's last
abbrev pub InRegionOnly : Store → List ℕ → Type 0
InRegionOnly s members = (b : ℕ) → blocks s ≤ b → member members b ≡ false

-- create 12, calls 8: how many of the m blocks from b on are in the set and not marked; none if one of these is not signed
unfoldable pub hash_number : List ℕ → Store → List ℕ → ℕ → ℕ → Option ℕ
hash_number golden s members b m = cond (any m (λ k. member_unknown golden s members (b + k))) None (Some (count m (λ k. member_hashed s.ledger members (b + k))))

-- create leaves, calls 8: the set is that of the blocks that the m entries e execute, and k the number of those that are not marked
pub record Admitted (s : Store) (m : ℕ) (e : ℕ → Entry) (members : List ℕ) (k : ℕ) : Type 0 where
  pub gathered : (b : ℕ) → b < blocks s → member members b ≡ executed m e (base s + b)
  pub counted : k ≡ hashed_blocks s m e
