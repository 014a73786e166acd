-- Link runs on: it leads to an L2 block, gives the guest nothing, and is written into a block that cannot be executed.
use mathlib.Core.Bool.{true, false, false≢true}
use mathlib.Core.Logic.{inl, inr, ⊎_elim}
use mathlib.Core.Path.{◌≡◌, refl, sym, ◌∙◌}
use Prim.Native.Nat.{ℕ, ◌+◌, ◌*◌, ◌/◌, ◌<◌, ◌≤◌}
use native.Mathlib.Omega.{arith}
use borrow.Author.Tests.{leb-false}
use Rattle.words.specs.Bounded.{above}
use Rattle.entries.specs.Entries.{fault, l1, l2, is_fault, is_unaccepted, is_link, is_section, is_page, rights, place_first, cover_first, place_blocks, cover_blocks, block_tables}
use Rattle.entries.specs.Rights.{allows}
use Rattle.entries.specs.Written.{kindless}
use Rattle.entries.proofs.RoundTrip.{Encodable, singly, a_link}
use Rattle.rules.specs.Store.{Store, blocks, base, Counter, writable, executable, linked, type_of}
use Rattle.rules.specs.Tables.{type_code, table_blocks, word_index, grants, gives, gain, astray}
use Rattle.rules.specs.General.{occupied, entered, table_outside, beyond_table, other_type, holder, executable_holder, added, some_overrun}
use Rattle.rules.specs.Link.{link_to, link_refusals, link_outcome}
use Rattle.rules.specs.Steps.{links, Told, after_accepted}
use Rattle.rules.specs.Outcomes.{leaving}
use Rattle.rules.specs.Box.{grants_write}
use Rattle.rules.proofs.Refusals.{Passed, front, now, rest}
use Rattle.rules.proofs.Gains.{gives_within, gain_none}
use Rattle.rules.proofs.Consistent.{Suits, Sound}
use Rattle.rules.proofs.State.{type_at, recorded, Fit, fits_stored, Running, equal, within, type_told, Goes, Next, next_13}
use Rattle.rules.proofs.Changes.{adds}
use Rattle.rules.proofs.Edits.{Apart, as_singles, slot, Harmless, enters}

-- what passed the tests of a link, whatever the store
pub record Linkable (s : Store) (p i t j : ℕ) : Type 0 where
  pub region : Fit (base s) (blocks s) s
  pub table_inside : table_outside l1 s p ≡ false
  pub index_inside : beyond_table l1 i ≡ false
  pub typed : other_type l1 s p (type_code l1) ≡ false
  pub unexecuted_holder : executable_holder s p i ≡ false
  pub free : occupied l1 s p i 1 ≡ false
  pub table : j < block_tables
  pub target_inside : table_outside l2 s t ≡ false
  pub target_type : type_of s t ≡ type_code l2

pub linkable : (s : Store) (p i t j : ℕ) → Passed (front (link_refusals s p i t j)) → Linkable s p i t j
linkable s p i t j t1 =
    let t2 = rest t1 in
    let t4 = rest (rest t2) in
    let t4' = rest t4 in
    let t5 = rest t4' in
    let t7 = rest t5 in
    let t8 = rest t7 in
    let t10 = rest t8 in
    record {
      region = fits_stored s (now t1);
      table_inside = now t2;
      index_inside = now t4;
      typed = now t5;
      unexecuted_holder = now t7;
      free = now t8;
      table = leb-false block_tables j (now t4');
      target_inside = now t10;
      target_type = equal (type_of s t) (type_code l2) (now (rest t10));
    }

pub link_written : {s : Store} {p i t j : ℕ} (a : ℕ) → Linkable s p i t j → Encodable l1 a 1 (λ k. link_to t j)
link_written {s} {p} {i} {t} {j} a can = let (low, high) = within (base s) (blocks s) t (table_blocks l2) can.target_inside in singly (λ k _. a_link {p = block_tables * t + j} (omega arith))

module _ (p i t j : ℕ) {h : Told} {s : Store} (r : Running h s) (can : Linkable s p i t j) where
  -- a link leads to its target, an L2 block
  link_sound : Sound (base s) (blocks s) (type_at (base s) h) (link_to t j)
  unfolding gives grants allows rights is_unaccepted astray cover_blocks place_blocks cover_first place_first
  link_sound =
      let (low, high) = within (base s) (blocks s) t (table_blocks l2) can.target_inside in
      let is : (block_tables * t + j) / block_tables ≡ t = omega arith in
      record { accepted = refl; inside = rw is can.target_inside; suits = suits low high } where
        suits : base s ≤ t → t + table_blocks l2 ≤ base s + blocks s → (c : Counter) (b : ℕ) → b < blocks s → gives c (link_to t j) (base s + b) ≡ true → Suits c (h.types (base s + b))
        suits low high writable b l g = absurd (false≢true g)
        suits low high executable b l g = tt
        suits low high linked b l g =
            let (_, lo, hi) = gives_within linked (link_to t j) (base s + b) g in
            let is : base s + b ≡ t = omega arith in
            rw is (sym (type_told r t low (omega arith)) ∙ can.target_type)

  -- it gives the guest nothing
  link_gives : (c : Counter) (b : ℕ) → grants c (link_to t j) ≡ false → gain 1 (λ k. link_to t j) c b ≡ 0
  unfolding gives
  link_gives c b none = gain_none 1 (λ k. link_to t j) c b (λ k l. rw none refl)

  link_harmless : Harmless h s p i 1 (λ k. link_to t j)
  unfolding grants allows rights
  link_harmless =
      record {
        write_alone = λ b l g. let z : ⊥ = omega (arith, link_gives writable (base s + b) refl) in absurd z;
        execute_alone = λ b l g. let z : ⊥ = omega (arith, link_gives executable (base s + b) refl) in absurd z;
        signs = λ b l g. let z : ⊥ = omega (arith, link_gives executable (base s + b) refl) in absurd z;
        spares_holder = link_gives executable (holder p i) refl;
      }

  -- what stands by itself, where a fault did
  link_beside : Apart (word_index s p i) 1 (λ k. fault) (λ k. link_to t j)
  unfolding is_fault is_section is_link is_page
  link_beside = as_singles (λ k _. (refl, refl))

  linked_to : (some_overrun added s 1 (λ k. link_to t j) ≡ false) × Goes (grants_write s (links p i t j)) h s (entered kindless s p i 1 (λ k. link_to t j))
  unfolding grants_write grants allows rights
  linked_to =
      let sl = slot r l1 p i 1 (omega arith) can.table_inside can.index_inside can.typed can.unexecuted_holder in
      let (change, fresh) = enters r l1 p i 1 sl (λ k. link_to t j) link_harmless kindless (link_written (word_index s p i) can) link_beside can.free (λ k l. link_sound) in
      let (no_13, goes) = adds r change fresh in
      let none : (q : ℕ) → above (gain 1 (λ k. link_to t j) writable q) 0 ≡ false = λ q. rw (link_gives writable q refl) refl in
      let g = goes.grows in
      (no_13, record { runs = goes.runs; grows = record { writes = λ b l w. ⊎_elim (λ (was : 0 < recorded s writable b). inl was) (λ (z : above (gain 1 (λ k. link_to t j) writable (base s + b)) 0 ≡ true). inr (sym (none (base s + b)) ∙ z)) (g.writes b l w); marks = g.marks; same_blocks = g.same_blocks } })

pub link_next : (p i t j : ℕ) {h : Told} {s : Store} → Running h s → Next h s (links p i t j) (link_outcome s p i t j)
unfolding link_outcome after_accepted
link_next p i t j {h} {s} r =
    next_13 (links p i t j) (leaving (entered kindless s p i 1 (λ k. link_to t j))) (link_refusals s p i t j) r (omega arith) (omega arith) (omega arith)
    (λ tests. linked_to p i t j r (linkable s p i t j tests))
