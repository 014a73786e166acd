-- Free runs on: what is freed was neither active nor a link's target, and no entry wrote to it, since it was a table.
use mathlib.Core.Bool.{false}
use mathlib.Core.Logic.{inl}
use mathlib.Core.Option.{some}
use mathlib.Core.Path.{◌≡◌, refl, ◌∙◌, ap}
use Prim.Native.Nat.{ℕ, ◌+◌, ◌-◌, ◌%◌, ◌<◌, ◌≤◌}
use native.Mathlib.Omega.{arith}
use borrow.Author.Tests.{ltb-false, eqb-false}
use Rattle.entries.specs.Entries.{Level, l1, l2}
use Rattle.rules.specs.Store.{Store, blocks, base, active, Counter, writable, executable, linked, counter}
use Rattle.rules.specs.Tables.{type_d, type_code, table_blocks, table_entries, table_entry}
use Rattle.rules.specs.General.{removed, retyped, some_overrun, table_outside, other_type}
use Rattle.rules.specs.Free.{free_refusals, free_after, free_outcome, in_use}
use Rattle.rules.specs.Steps.{frees, Told, after_accepted}
use Rattle.rules.specs.Outcomes.{leaving}
use Rattle.rules.specs.Box.{grants_write}
use Rattle.rules.proofs.Refusals.{Passed, front, now, rest}
use Rattle.rules.proofs.Consistent.{Suits}
use Rattle.rules.proofs.State.{type_at, recorded, active_word, Running, equal, within, types_told, Goes, Next, next_13}
use Rattle.rules.proofs.Changes.{removes}
use Rattle.rules.proofs.Typing.{retold, typing_leaves, typing_replaces, typing_marks, stays, root_stays, other_table}

-- what passed the tests of a free
record Freeable (v : Level) (s : Store) (p : ℕ) : Type 0 where
  table_inside : table_outside v s p ≡ false
  aligned : p % table_blocks v ≡ 0
  typed : other_type v s p (type_code v) ≡ false
  unused : in_use v s p ≡ false

freeable : (v : Level) (s : Store) (p : ℕ) → Passed (front (free_refusals v s p)) → Freeable v s p
freeable v s p t1 =
    let t2 = rest t1 in
    let t3 = rest t2 in
    let t5 = rest t3 in
    record { table_inside = now t2; aligned = equal (p % table_blocks v) 0 (now t3); typed = now t5; unused = now (rest t5) }

module _ (p : ℕ) {h : Told} {s : Store} (r : Running h s) where
  -- no entry that stays wrote to or led to what is freed
  freed_suits : (c : Counter) (v : Level) (b : ℕ) → 0 < recorded s c b → in_use v s p ≡ false → p ≤ base s + b → base s + b < p + table_blocks v → Suits c (type_code v) → Suits c type_d
  unfolding in_use
  freed_suits writable v b k u lo hi suits = refl
  freed_suits executable v b k u lo hi suits = tt
  freed_suits linked l1 b k u lo hi suits = let z : ⊥ = omega arith in absurd z
  freed_suits linked l2 b k u lo hi suits =
      let i : p - base s ≡ b = omega arith in
      let z : ⊥ = omega (arith, rw i at (ltb-false 0 (counter linked s p) u)) in
      absurd z

  -- the table that was switched to isn't freed
  not_root : (v : Level) (q : ℕ) → h.table ≡ some q → Freeable v s p → ((k : ℕ) → k < table_blocks v → h.types (p + k) ≡ type_code v)
      → (x : ℕ) → p ≤ x → x < p + table_blocks v → q ≤ x → x < q + table_blocks l1 → ⊥
  unfolding in_use
  not_root l1 q z can was x lo hi lo' hi' =
      let a = can.aligned in
      let b = (r.root q z).aligned in
      let same : q ≡ p = omega arith in
      eqb-false (active s) p can.unused (r.active_is ∙ ap active_word z ∙ same)
  not_root l2 q z can was x lo hi lo' hi' = other_table h.types p q (table_blocks l2) (type_code l2) x was (r.root q z).typed (λ e. omega arith) lo hi lo' hi'

  freed : (v : Level) → Freeable v s p → (some_overrun removed s (table_entries v) (table_entry v s p) ≡ false) × Goes (grants_write s (frees v p)) (retold removed v p h) s (retyped removed v s p)
  unfolding grants_write
  freed v can =
      let (low, high) = within (base s) (blocks s) p (table_blocks v) can.table_inside in
      let was = types_told r v p (type_code v) can.table_inside can.typed in
      removes r (record {
        leaves = typing_leaves removed v p r low high (λ q z. root_stays removed v p r low high q z (not_root v q z can was));
        replaces = typing_replaces removed v p r low high was;
        carry = λ c b l k suits. stays removed v p r low high c b suits (λ lo hi. freed_suits c v b k can.unused lo hi (was_table v was c b lo hi suits));
        keep = λ b l x. refl;
        marks = λ b l k. inl (typing_marks removed v p r low high b k);
      }) where
        was_table : (v : Level) → ((k : ℕ) → k < table_blocks v → h.types (p + k) ≡ type_code v) → (c : Counter) (b : ℕ) → p ≤ base s + b → base s + b < p + table_blocks v
            → Suits c (type_at (base s) h b) → Suits c (type_code v)
        was_table v was c b lo hi suits =
            let i : p + (base s + b - p) ≡ base s + b = omega arith in
            rw (rw i at (was (base s + b - p) (omega arith))) at suits

pub free_next : (v : Level) (p : ℕ) {h : Told} {s : Store} → Running h s → Next h s (frees v p) (free_outcome v s p)
unfolding free_outcome after_accepted
free_next v p {h} {s} r =
    next_13 (frees v p) (leaving (free_after v s p)) (free_refusals v s p) r (omega arith) (omega arith) (omega arith) (λ tests. freed p r v (freeable v s p tests))
