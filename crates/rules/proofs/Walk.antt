-- A walk from a table never meets an entry that is not accepted or leads outside, since the tables' entries are sound, and ends at an entry
-- of the tables that covers the block it ends in.
use mathlib.Core.Bool.{Bool, true, false, cond, false≢true}
use mathlib.Core.List.{List}
use mathlib.Core.Path.{◌≡◌, refl, sym, ◌∙◌, ap}
use Prim.Native.Nat.{ℕ, ◌+◌, ◌-◌, ◌*◌, ◌/◌, ◌%◌, ◌^◌, ◌<◌, ◌≤◌}
use native.Mathlib.Nat.{mod-lt}
use native.Mathlib.Omega.{arith}
use borrow.Author.Tests.{lt-ltb}
use Rattle.words.specs.Words.{bits}
use Rattle.words.proofs.Bounded.{among_in}
use Rattle.words.proofs.Fields.{bits_bound}
use Rattle.entries.specs.Entries.{Entry, fault, unaccepted, link, section, page, large, Level, l1, l2, entry_at, is_fault, is_unaccepted, is_link, rights, place_first, cover_first, place_blocks, cover_blocks, covers, block_tables}
use Rattle.entries.proofs.Covers.{cover_low, cover_high, cover_some}
use Rattle.rules.specs.Store.{block_bytes, block_words, Store, blocks, base, linked}
use Rattle.rules.specs.Tables.{type_code, gives, grants, astray, l2_words}
use Rattle.rules.specs.Guest.{Walk, stops, ends, passes, ends_at, second_entry, follow, walk}
use Rattle.rules.specs.Steps.{Told, Root}
use Rattle.rules.proofs.Consistent.{Sound}
use Rattle.rules.proofs.State.{within, entry_of, Running}
use Rattle.rules.proofs.Tables.{word_block, entry_of_table}

-- an entry of the tables covers block p and has rights r
pub record Reached (B n : ℕ) (E : ℕ → Entry) (p r : ℕ) : Type 0 where
  pub word : ℕ
  pub in_memory : word < block_words * n
  pub has : rights (E word) ≡ r
  pub reaches : covers (E word) p ≡ true
  pub low : B ≤ p
  pub high : p < B + n

-- a walk stops at a fault only, and ends at an entry of the tables
abbrev pub Sensible : ℕ → ℕ → (ℕ → Entry) → Walk → Type 0
Sensible B n E (stops v k) = k ≡ 22
Sensible B n E (ends v p r) = Reached B n E p r

pub place_above : (e : Entry) → is_unaccepted e ≡ false → is_fault e ≡ false → 0 < place_blocks e
unfolding is_unaccepted is_fault place_blocks
place_above fault u f = absurd (false≢true (sym f))
place_above unaccepted u f = absurd (false≢true (sym u))
place_above (link p) u f = omega arith
place_above (section b r) u f = omega arith
place_above (page b r) u f = omega arith
place_above (large b r) u f = omega arith

-- an entry that is no fault covers blocks of the region
pub cover_within : (B n : ℕ) (e : Entry) → 0 < place_blocks e → astray B n e ≡ false → (B ≤ cover_first e) × (cover_first e + cover_blocks e ≤ B + n)
unfolding astray
cover_within B n e z a =
    let (low, high) = within B n (place_first e) (place_blocks e) (rw (lt-ltb 0 (place_blocks e) z) at a) in
    (omega (arith, cover_low e), omega (arith, cover_high e))

module _ (B n : ℕ) (K : ℕ → ℕ) (E : ℕ → Entry) where
  -- at an entry of the tables
  at_entry : (v : Level) (onward : Walk) (e : Entry) → Sound B n K e → (is_fault e ≡ false → Sensible B n E onward) → Sensible B n E (passes v B n e onward)
  unfolding passes
  at_entry v onward e s o = rw (s.accepted, s.inside) (go (is_fault e) refl) where
    go : (t : Bool) → is_fault e ≡ t → Sensible B n E (cond t (stops v 22) onward)
    go true f = refl
    go false f = o f

  -- a walk's end
  at_end : (v : Level) (addr j : ℕ) (e : Entry) → E j ≡ e → j < block_words * n → Sound B n K e → is_fault e ≡ false → Sensible B n E (ends_at v addr e)
  unfolding covers
  at_end v addr j e q l s f =
      let z = place_above e s.accepted f in
      let (low, high) = cover_within B n e z s.inside in
      let m : addr / block_bytes % cover_blocks e < cover_blocks e = mod-lt (addr / block_bytes) (cover_some e z) in
      let p = cover_first e + addr / block_bytes % cover_blocks e in
      record {
        word = j;
        in_memory = l;
        has = ap rights q;
        reaches = rw (q, among_in (cover_first e) (cover_blocks e) p (omega arith) (omega arith)) refl;
        low = omega arith;
        high = omega arith;
      }

module _ {h : Told} {s : Store} (r : Running h s) (addr : ℕ) where
  abbrev tables : ℕ → Entry
  tables = entry_of (base s) h s.memory

  abbrev types : ℕ → ℕ
  types b = h.types (base s + b)

  abbrev Good : Walk → Type 0
  Good = Sensible (base s) (blocks s) tables

  -- word j lies in a block of a table of level v
  abbrev InTable : Level → ℕ → Type 0
  InTable v j = (j < block_words * blocks s) × (h.types (base s + j / block_words) ≡ type_code v)

  table_entry_lem : (v : Level) (j : ℕ) → InTable v j → (tables j ≡ entry_at v s.memory j) × Sound (base s) (blocks s) types (entry_at v s.memory j)
  table_entry_lem v j (inside, typed) =
      let is : tables j ≡ entry_at v s.memory j = entry_of_table (base s) h s.memory j (base s + j / block_words) refl v typed in
      (is, rw is at (r.consistent.sound j inside))

  -- the words that a walk reads
  abbrev first_word : ℕ → ℕ
  first_word p = block_words * (p - base s) + bits addr 20 12

  abbrev second_word : ℕ → ℕ
  second_word place = l2_words * (place - block_tables * base s) + bits addr 12 8

  first_word_lem : (p : ℕ) → Root (base s) (blocks s) h.types p → InTable l1 (first_word p)
  first_word_lem p root =
      let i = bits addr 20 12 in
      let small : i < 2 ^ 12 = bits_bound addr 20 12 in
      let low = root.low in
      let high = root.high in
      (omega arith, ap h.types (word_block (base s) p i low) ∙ root.typed (i / block_words) (omega arith))

  -- a link leads to an L2 block
  second_word_lem : (place : ℕ) → Sound (base s) (blocks s) types (link place) → InTable l2 (second_word place)
  unfolding cover_blocks place_blocks cover_first place_first gives grants is_link covers
  second_word_lem place sound =
      let (low, high) = cover_within (base s) (blocks s) (link place) (omega arith) sound.inside in
      let b = place / block_tables - base s in
      let in_block : base s + second_word place / block_words ≡ base s + b = omega arith in
      let leads : gives linked (link place) (base s + b) ≡ true =
      rw (among_in (place / block_tables) 1 (base s + b) (omega arith) (omega arith)) refl in
      (omega arith, ap h.types in_block ∙ sound.suits linked b (omega arith) leads)

  through_link : (place : ℕ) → Sound (base s) (blocks s) types (link place)
      → Good (passes l2 (base s) (blocks s) (second_entry (base s) s.memory addr place) (ends_at l2 addr (second_entry (base s) s.memory addr place)))
  through_link place sound =
      let e = second_entry (base s) s.memory addr place in
      let word = second_word_lem place sound in
      let (is, good) = table_entry_lem l2 (second_word place) word in
      at_entry (base s) (blocks s) types tables l2 (ends_at l2 addr e) e good (at_end (base s) (blocks s) types tables l2 addr (second_word place) e is word.0 good)

  onward : (j : ℕ) (e : Entry) → tables j ≡ e → j < block_words * blocks s → Sound (base s) (blocks s) types e → is_fault e ≡ false
      → Good (follow (base s) (blocks s) s.memory addr e)
  unfolding follow
  onward j fault q l g f = at_end (base s) (blocks s) types tables l1 addr j fault q l g f
  onward j unaccepted q l g f = at_end (base s) (blocks s) types tables l1 addr j unaccepted q l g f
  onward j (link place) q l g f = through_link place g
  onward j (section b w) q l g f = at_end (base s) (blocks s) types tables l1 addr j (section b w) q l g f
  onward j (page b w) q l g f = at_end (base s) (blocks s) types tables l1 addr j (page b w) q l g f
  onward j (large b w) q l g f = at_end (base s) (blocks s) types tables l1 addr j (large b w) q l g f

  -- a walk from an L1 table
  pub walk_sensible : (p : ℕ) → Root (base s) (blocks s) h.types p → Good (walk (base s) (blocks s) s.memory p addr)
  unfolding walk
  walk_sensible p root =
      let word = first_word_lem p root in
      let (is, good) = table_entry_lem l1 (first_word p) word in
      let e = entry_at l1 s.memory (first_word p) in
      at_entry (base s) (blocks s) types tables l1 (follow (base s) (blocks s) s.memory addr e) e good (onward (first_word p) e is word.0 good)

  -- a memory with the same entries in the tables has the same walks
  module _ (mem : List ℕ) (same : (v : Level) (j : ℕ) → InTable v j → entry_at v mem j ≡ entry_at v s.memory j) where
    follow_same : (e : Entry) → Sound (base s) (blocks s) types e → follow (base s) (blocks s) mem addr e ≡ follow (base s) (blocks s) s.memory addr e
    unfolding follow
    follow_same fault good = refl
    follow_same unaccepted good = refl
    follow_same (link place) good = rw (same l2 (second_word place) (second_word_lem place good)) refl
    follow_same (section b w) good = refl
    follow_same (page b w) good = refl
    follow_same (large b w) good = refl

    pub walk_same : (p : ℕ) → Root (base s) (blocks s) h.types p → walk (base s) (blocks s) mem p addr ≡ walk (base s) (blocks s) s.memory p addr
    unfolding walk
    walk_same p root =
        let word = first_word_lem p root in
        let e = entry_at l1 s.memory (first_word p) in
        rw (same l1 (first_word p) word) (ap (passes l1 (base s) (blocks s) e) (follow_same e (table_entry_lem l1 (first_word p) word).1))
