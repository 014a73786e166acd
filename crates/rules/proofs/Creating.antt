-- Create runs on: the new table's entries are accepted, lead to blocks of the right types, clash neither with the old counters nor with each
-- other, and what they let execute is signed; the blocks themselves had no counts.
use mathlib.Core.Bool.{Bool, true, false, ◌&&◌, ◌||◌, false≢true}
use mathlib.Core.Logic.{inl}
use mathlib.Core.Path.{◌≡◌, refl, sym, ◌∙◌}
use mathlib.Core.List.{List}
use Prim.Native.Nat.{ℕ, ◌+◌, ◌-◌, ◌<◌, ◌≤◌}
use native.Mathlib.Omega.{arith}
use borrow.Author.Tests.{lt-ltb}
use Rattle.words.specs.Bounded.{above, neqb, any, among}
use Rattle.words.proofs.Bounded.{any_none, or_false_left, or_false_right, and_false_right, among_in}
use Rattle.entries.specs.Entries.{Entry, Level, l2, is_unaccepted, is_link, cover_first, cover_blocks}
use Rattle.rules.specs.Refusals.{answer_of}
use Rattle.rules.specs.Store.{Store, blocks, base, Counter, writable, executable, linked, some_counter, type_of, counter, some_block, some_region_block}
use Rattle.rules.specs.Tables.{type_d, type_code, table_blocks, table_entries, table_entry, grants, gives, gain, astray}
use Rattle.rules.specs.General.{added, some_overrun, table_outside, other_type}
use Rattle.rules.specs.Create.{some_count, unfit_link, unfit_write, misplaced, clashes, unsigned, create_refusals, create_accepted, create_outcome}
use Rattle.rules.specs.Steps.{creates, Told, after_accepted}
use Rattle.rules.specs.Box.{grants_write}
use Rattle.rules.proofs.Refusals.{Passed, front, passed, passed_front, now, rest}
use Rattle.rules.proofs.Gains.{gives_within}
use Rattle.rules.proofs.Consistent.{Suits, Sound}
use Rattle.rules.proofs.State.{type_at, signed_at, recorded, Running, equal, within, no_block, no_block_at, no_counter, types_told, type_told, Goes, known_signed, Next, next_13, settle_accepted}
use Rattle.rules.proofs.Changes.{counter_none, adds, admits}
use Rattle.rules.proofs.Typing.{retold, typing_leaves, typing_replaces, typing_marks, stays, root_stays, other_table}

-- what passed the tests of a create
record Creatable (v : Level) (golden : List ℕ) (s : Store) (p : ℕ) : Type 0 where
  table_inside : table_outside v s p ≡ false
  free : other_type v s p type_d ≡ false
  uncounted : some_count v s p ≡ false
  accepted : any (table_entries v) (λ i. is_unaccepted (table_entry v s p i)) ≡ false
  placed : any (table_entries v) (λ i. misplaced v s p (table_entry v s p i)) ≡ false
  clear : some_region_block s (clashes s (table_entries v) (table_entry v s p)) ≡ false
  signs : some_region_block s (unsigned golden s (table_entries v) (table_entry v s p)) ≡ false

creatable : (v : Level) (golden : List ℕ) (s : Store) (p : ℕ) → Passed (front (create_refusals v golden s p)) → Creatable v golden s p
creatable v golden s p t1 =
    let t2 = rest (rest t1) in
    let t5 = rest (rest t2) in
    let t6 = rest t5 in
    let t8 = rest t6 in
    let t10 = rest t8 in
    let t11 = rest t10 in
    record { table_inside = now t2; free = now t5; uncounted = now t6; accepted = now t8; placed = now t10; clear = now t11; signs = now (rest t11) }

-- what 10 asks of an entry
module _ (v : Level) (s : Store) (p : ℕ) (x : Entry) where
  abbrev not_l2 : ℕ → Bool
  not_l2 b = neqb (type_of s b) (type_code l2)

  abbrev own : ℕ → Bool
  own b = among p (table_blocks v) b

  abbrev not_free : ℕ → Bool
  not_free b = neqb (type_of s b) type_d || own b

  record Placed : Type 0 where
    inside : astray (base s) (blocks s) x ≡ false
    link_L2 : is_link x ≡ true → some_block (cover_first x) (cover_blocks x) not_l2 ≡ false
    write_free : grants writable x ≡ true → some_block (cover_first x) (cover_blocks x) not_free ≡ false

  place : misplaced v s p x ≡ false → Placed
  unfolding misplaced unfit_link unfit_write
  place e =
      let stray = astray (base s) (blocks s) x in
      let badLink = is_link x && some_block (cover_first x) (cover_blocks x) not_l2 in
      let badWrite = grants writable x && some_block (cover_first x) (cover_blocks x) not_free in
      let e' = or_false_left (stray || badLink) badWrite e in
      record {
        inside = or_false_left stray badLink e';
        link_L2 = and_false_right (is_link x) (some_block (cover_first x) (cover_blocks x) not_l2) (or_false_right stray badLink e');
        write_free = and_false_right (grants writable x) (some_block (cover_first x) (cover_blocks x) not_free) (or_false_right (stray || badLink) badWrite e);
      }

module _ (v : Level) (p : ℕ) {h : Told} {s : Store} (r : Running h s) (can : Creatable v h.golden s p) where
  low : base s ≤ p
  low = (within (base s) (blocks s) p (table_blocks v) can.table_inside).0

  high : p + table_blocks v ≤ base s + blocks s
  high = (within (base s) (blocks s) p (table_blocks v) can.table_inside).1

  was : (k : ℕ) → k < table_blocks v → h.types (p + k) ≡ type_d
  was = types_told r v p type_d can.table_inside can.free

  -- 6 does not apply: the blocks had no counts
  no_count : (c : Counter) (b : ℕ) → p ≤ base s + b → base s + b < p + table_blocks v → recorded s c b ≡ 0
  unfolding some_count
  no_count c b lo hi =
      let none = no_block_at p (table_blocks v) (λ x. some_counter (λ d. above (counter d s x) 0)) can.uncounted (base s + b) lo hi in
      counter_none c s b (no_counter (λ d. above (counter d s (base s + b)) 0) none c)

  -- what an entry gives suits the types afterwards
  new_suits : (x : Entry) → Placed v s p x → (c : Counter) (b : ℕ) → b < blocks s → gives c x (base s + b) ≡ true → Suits c (type_at (base s) (retold added v p h) b)
  unfolding grants
  new_suits x placed writable b l g =
      let q = base s + b in
      let (grant, lo, hi) = gives_within writable x q g in
      let t = no_block_at (cover_first x) (cover_blocks x) (not_free v s p x) (placed.write_free grant) q lo hi in
      let is = sym (type_told r q (omega arith) (omega arith)) ∙ equal (type_of s q) type_d (or_false_left (neqb (type_of s q) type_d) (own v s p x q) t) in
      stays added v p r low high writable b is
      (λ from to. let o : own v s p x q ≡ true = among_in p (table_blocks v) q from to in
      absurd (false≢true (sym (or_false_right (neqb (type_of s q) type_d) (own v s p x q) t) ∙ o)))
  new_suits x placed executable b l g = tt
  new_suits x placed linked b l g =
      let q = base s + b in
      let (grant, lo, hi) = gives_within linked x q g in
      let t = no_block_at (cover_first x) (cover_blocks x) (not_l2 v s p x) (placed.link_L2 grant) q lo hi in
      let is = sym (type_told r q (omega arith) (omega arith)) ∙ equal (type_of s q) (type_code l2) t in
      stays added v p r low high linked b is
      (λ from to. let i : p + (q - p) ≡ q = omega arith in let z : ⊥ = omega (arith, is, rw i at (was (q - p) (omega arith))) in absurd z)

  created : (some_overrun added s (table_entries v) (table_entry v s p) ≡ false) × Goes (grants_write s (creates v p)) (retold added v p h) s (create_accepted v s p).store
  unfolding grants_write
  created =
      adds r
      (admits (record {
        leaves = typing_leaves added v p r low high (λ q z. root_stays added v p r low high q z (λ x. other_table h.types p q (table_blocks v) type_d x was (r.root q z).typed (λ e. omega arith)));
        replaces = typing_replaces added v p r low high was;
        carry = λ c b l k suits. stays added v p r low high c b suits (λ lo hi. let z : ⊥ = omega (arith, no_count c b lo hi) in absurd z);
        keep = λ b l x. refl;
        marks = λ b l k. inl (typing_marks added v p r low high b k);
      }))
      (record { sound = sound; clear = no_block (base s) (blocks s) (clashes s (table_entries v) e) can.clear; signs = signs }) where
        e : ℕ → Entry
        e = table_entry v s p

        sound : (i : ℕ) → i < table_entries v → Sound (base s) (blocks s) (type_at (base s) (retold added v p h)) (e i)
        sound i l =
            let placed = place v s p (e i) (any_none (λ i. misplaced v s p (e i)) (table_entries v) can.placed i l) in
            record { accepted = any_none (λ i. is_unaccepted (e i)) (table_entries v) can.accepted i l; inside = placed.inside; suits = new_suits (e i) placed }

        signs : (b : ℕ) → b < blocks s → 0 < gain (table_entries v) e executable (base s + b) → signed_at (base s) h s.memory b ≡ true
        signs b l g = known_signed r b l (rw (lt-ltb 0 (gain (table_entries v) e executable (base s + b)) g) at (no_block (base s) (blocks s) (unsigned h.golden s (table_entries v) e) can.signs b l))

pub create_next : (v : Level) (p : ℕ) {h : Told} {s : Store} → Running h s → Next h s (creates v p) (create_outcome v h.golden s p)
unfolding create_outcome after_accepted
create_next v p {h} {s} r =
    next_13 (creates v p) (create_accepted v s p) (create_refusals v h.golden s p) r (omega arith) (omega arith) (omega arith)
    (λ tests. created v p r (creatable v h.golden s p tests))

-- an accepted create has the places of its entries in the region
pub create_placed : (v : Level) (golden : List ℕ) (s : Store) (p : ℕ) → (create_outcome v golden s p).answer ≡ 0
    → (i : ℕ) → i < table_entries v → astray (base s) (blocks s) (table_entry v s p i) ≡ false
unfolding create_outcome
create_placed v golden s p zero_is i l =
    let rs = create_refusals v golden s p in
    let e = table_entry v s p in
    let tests = passed_front rs (passed rs (omega arith) (settle_accepted s (create_accepted v s p) (answer_of rs) zero_is).0) in
    (place v s p (e i) (any_none (λ i. misplaced v s p (e i)) (table_entries v) (creatable v golden s p tests).placed i l)).inside
