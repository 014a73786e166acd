-- A mapping of rights 0 or 1, a link, and unmap L1 or L2 of a fault are accepted wherever table, holder, entry and target are right: each test of their
-- lists is passed by one of these. At an index beyond the table they are answered with 4, and at one that is no multiple of a mapping's words with 3.
use mathlib.Core.Bool.{true, false, not, false≢true}
use mathlib.Core.List.{List}
use mathlib.Core.Logic.{◌≢◌}
use mathlib.Core.Path.{◌≡◌, refl, ◌∙◌, ap}
use Prim.Native.Nat.{ℕ, zero, suc, ◌+◌, ◌%◌, ◌<◌, ◌≤◌}
use native.Mathlib.Omega.{arith}
use lib.ListN.{drop}
use borrow.Author.Tests.{le-ltb, lt-leb, le-leb, ltb-true}
use Rattle.words.specs.Bounded.{above, neqb}
use Rattle.words.proofs.Bounded.{any_avoids, false_unless, and_true, differ, same}
use Rattle.signature.specs.Signed.{misfit_image}
use Rattle.entries.specs.Entries.{Entry, fault, Level, l1, l2, block_tables, is_fault, rights, place_first, cover_first, place_blocks, cover_blocks}
use Rattle.entries.specs.Rights.{write, execute, allows, unlawful_rights}
use Rattle.rules.specs.Store.{counter_limit, kind_count, Store, blocks, base, Counter, writable, executable, linked, some_counter, type_of, counter, some_block, misfit_stored}
use Rattle.rules.specs.Tables.{type_code, table_blocks, table_entries, Form, sections, level, target_blocks, mapping_words, mapping, takes, table_entry, grants, gives, gain, astray}
use Rattle.rules.specs.General.{table_outside, misaligned, other_type, holder, executable_holder, Change, added, removed, end_value, ends_below, overruns, some_overrun, occupied}
use Rattle.rules.specs.Map.{unfit_target, clashing_target, unsigned_target, map_refusals, map_outcome}
use Rattle.rules.specs.Link.{link_to, link_outcome}
use Rattle.rules.specs.Unmap.{unmap_refusals, unmap_outcome}
use Rattle.rules.proofs.Refusals.{done, step, accepted, Decides, here, past, none, decides}
use Rattle.rules.proofs.Gains.{gives_fault, gives_within, gain-most, gain_none, gain_found}
use Rattle.rules.proofs.State.{inside}
use Rattle.rules.proofs.Mapping.{mapping-grants}
use Rattle.rules.proofs.Passing.{settle_answer}

-- What map, link and unmap find

-- the blocks from p on could be a table of this level: 1, 2 and 3 hold nothing against them
pub record TablePlace (v : Level) (s : Store) (p : ℕ) : Type 0 where
  pub fits : misfit_stored s ≡ false
  pub low : base s ≤ p
  pub high : p + table_blocks v ≤ base s + blocks s
  pub aligned : p % table_blocks v ≡ 0

-- the blocks are such a table, and the holder of its entry i cannot be executed: 5 and 7 hold nothing against them either
pub record Ready (v : Level) (s : Store) (p i : ℕ) : Type 0 where
  pub placed : TablePlace v s p
  pub typed : (k : ℕ) → k < table_blocks v → type_of s (p + k) ≡ type_code v
  pub unexecuted : counter executable s (holder p i) ≡ 0

-- and a mapping of this form finds faults from index i on
pub record Vacant (f : Form) (s : Store) (p i : ℕ) : Type 0 where
  pub ready : Ready (level f) s p i
  pub empty : (k : ℕ) → k < mapping_words f → table_entry (level f) s p (i + k) ≡ fault

-- rights 0 or 1 are asked for, of a target in the region, with an image of a length that fits
pub record ReadTarget (f : Form) (golden : List ℕ) (s : Store) (t r : ℕ) : Type 0 where
  pub image : misfit_image golden ≡ false
  pub low : base s ≤ t
  pub high : t + target_blocks f ≤ base s + blocks s
  pub aligned : t % target_blocks f ≡ 0
  pub reads : r ≤ 1

-- an L2 block in the region, whose table j may be linked to once more
pub record LinkTarget (s : Store) (t j : ℕ) : Type 0 where
  pub low : base s ≤ t
  pub high : t < base s + blocks s
  pub type : type_of s t ≡ type_code l2
  pub room : counter linked s t < counter_limit
  pub table : j < block_tables

module _ {v : Level} {s : Store} {p : ℕ} (at : TablePlace v s p) where
  in_region : table_outside v s p ≡ false
  in_region = inside (base s) (blocks s) p (table_blocks v) at.low at.high

  at_multiple : misaligned p (table_blocks v) ≡ false
  at_multiple = same (p % table_blocks v) 0 at.aligned

module _ {v : Level} {s : Store} {p i : ℕ} (table : Ready v s p i) where
  right_types : other_type v s p (type_code v) ≡ false
  unfolding some_block
  right_types = any_avoids (λ k. neqb (type_of s (p + k)) (type_code v)) (table_blocks v) (λ k l. same _ _ (table.typed k l))

  no_executable : executable_holder s p i ≡ false
  no_executable = le-ltb 0 (counter executable s (holder p i)) (omega (arith, table.unexecuted))

unoccupied : {f : Form} {s : Store} {p i : ℕ} → Vacant f s p i → occupied (level f) s p i (mapping_words f) ≡ false
unfolding is_fault
unoccupied {f} {s} {p} {i} room = any_avoids (λ k. not (is_fault (table_entry (level f) s p (i + k)))) (mapping_words f) (λ k l. rw (room.empty k l) refl)

-- 13 does not apply if no counter passes its bounds
none_overruns : (d : Change) (s : Store) (m : ℕ) (e : ℕ → Entry) → ((c : Counter) (b : ℕ) → overruns d (counter c s b) (gain m e c b) ≡ false) → some_overrun d s m e ≡ false
unfolding some_overrun some_block some_counter
none_overruns d s m e one =
    any_avoids (λ k. some_counter (λ c. overruns d (counter c s (base s + k)) (gain m e c (base s + k)))) (blocks s) (λ k l. rw (one writable _, one executable _, one linked _) refl)

-- and none does where the entries give nothing
pub nothing_gained : (d : Change) (s : Store) (m : ℕ) (e : ℕ → Entry) → ((c : Counter) (k b : ℕ) → k < m → gives c (e k) b ≡ false) → some_overrun d s m e ≡ false
unfolding overruns
nothing_gained d s m e idle = none_overruns d s m e (λ c b. rw (gain_none m e c b (λ k l. idle c k b l)) refl)

-- rights 0 and 1 are lawful, and neither write nor execute
reads_only : (r : ℕ) → r ≤ 1 → (unlawful_rights r ≡ false) × (allows r write ≡ false) × (allows r execute ≡ false)
unfolding unlawful_rights allows
reads_only zero l = (refl, refl, refl)
reads_only (suc zero) l = (refl, refl, refl)
reads_only (suc (suc r)) l = let z : ⊥ = omega arith in absurd z

pub reads_give_nothing : (f : Form) (t r : ℕ) → r ≤ 1 → (c : Counter) (k b : ℕ) → gives c (mapping f t r k) b ≡ false
unfolding gives
reads_give_nothing f t r l writable k b = rw ((mapping-grants t r k f).0, (reads_only r l).1) refl
reads_give_nothing f t r l executable k b = rw ((mapping-grants t r k f).1, (reads_only r l).2) refl
reads_give_nothing f t r l linked k b = rw (mapping-grants t r k f).2 refl

-- What they answer at an index in the table, and at one beyond it

-- the index is a multiple of the words of a mapping
module _ (f : Form) {s : Store} {p : ℕ} (i : ℕ) (whole : i % mapping_words f ≡ 0) where
  -- where a map finds faults, what follows 8 in its list decides
  pub map_from_9 : (golden : List ℕ) (t r number : ℕ) {k : ℕ} → Vacant f s p i → i < table_entries (level f) → number < kind_count → misfit_image golden ≡ false → t % target_blocks f ≡ 0
      → Decides (drop 11 (map_refusals f golden s p i t r number)) k → (map_outcome f golden s p i t r number).answer ≡ k
  unfolding map_outcome
  map_from_9 golden t r number room l named image target_aligned d =
      let table = room.ready in
      let at = table.placed in
      settle_answer _ _ _
      ∙ decides (past at.fits (past image (past (in_region at) (past (at_multiple at) (past (same _ _ target_aligned) (past (same _ _ whole) (past (lt-leb (table_entries (level f)) i l)
      (past (lt-leb kind_count number named) (past (right_types table) (past (no_executable table) (past (unoccupied room) d)))))))))))

  -- rights 0 or 1 are granted wherever table, holder, entry and target are right
  pub map_accepted_lem : {golden : List ℕ} {t r : ℕ} (number : ℕ) → Vacant f s p i → i < table_entries (level f) → number < kind_count → ReadTarget f golden s t r
      → (map_outcome f golden s p i t r number).answer ≡ 0
  unfolding unfit_target clashing_target unsigned_target
  map_accepted_lem {golden} {t} {r} number room l named target =
      let (lawful, no_write, no-execute) = reads_only r target.reads in
      map_from_9 golden t r number room l named target.image target.aligned
      (past lawful
      (past (rw (inside (base s) (blocks s) t (target_blocks f) target.low target.high, no_write, no-execute) refl)
      (past (rw (no_write, no-execute) refl) (past (rw no-execute refl) (past (nothing_gained added s _ _ (λ c k b _. reads_give_nothing f t r target.reads c k b)) none)))))

  pub map-beyond : (golden : List ℕ) (t r number : ℕ) → TablePlace (level f) s p → misfit_image golden ≡ false → t % target_blocks f ≡ 0 → table_entries (level f) ≤ i
      → (map_outcome f golden s p i t r number).answer ≡ 4
  unfolding map_outcome
  map-beyond golden t r number at image target_aligned h =
      settle_answer _ _ _ ∙ decides (past at.fits (past image (past (in_region at) (past (at_multiple at) (past (same _ _ target_aligned) (past (same _ _ whole) (here (le-leb (table_entries (level f)) i h))))))))

  -- 4 also for a number that no kind has, whatever the table's type
  pub map_no_kind : (golden : List ℕ) (t r number : ℕ) → TablePlace (level f) s p → misfit_image golden ≡ false → t % target_blocks f ≡ 0 → i < table_entries (level f) → kind_count ≤ number
      → (map_outcome f golden s p i t r number).answer ≡ 4
  unfolding map_outcome
  map_no_kind golden t r number at image target_aligned l h =
      settle_answer _ _ _
      ∙ decides (past at.fits (past image (past (in_region at) (past (at_multiple at) (past (same _ _ target_aligned) (past (same _ _ whole) (past (lt-leb (table_entries (level f)) i l)
      (here (le-leb kind_count number h)))))))))

  -- where the table is ready, what follows 7 in the list of unmap decides
  pub unmap_from_8 : {k : ℕ} → Ready (level f) s p i → i < table_entries (level f) → Decides (drop 7 (unmap_refusals f s p i)) k → (unmap_outcome f s p i).answer ≡ k
  unfolding unmap_outcome
  unmap_from_8 table l d =
      let at = table.placed in
      settle_answer _ _ _ ∙ decides (past at.fits (past (in_region at) (past (at_multiple at) (past (same _ _ whole) (past (lt-leb (table_entries (level f)) i l)
      (past (right_types table) (past (no_executable table) d)))))))

  -- where the form's unmap takes faults, one of them is taken away
  pub unmap_fault_accepted : takes f fault ≡ true → Vacant f s p i → i < table_entries (level f) → (unmap_outcome f s p i).answer ≡ 0
  unfolding astray place_blocks
  unmap_fault_accepted taken room l =
      unmap_from_8 room.ready l
      (past (any_avoids (λ k. not (takes f (table_entry (level f) s p (i + k)))) (mapping_words f) (λ k m. rw (room.empty k m) (ap not taken)))
      (past (any_avoids (λ k. astray (base s) (blocks s) (table_entry (level f) s p (i + k))) (mapping_words f) (λ k m. rw (room.empty k m) refl))
      (past (nothing_gained removed s (mapping_words f) (λ k. table_entry (level f) s p (i + k)) (λ c k b m. rw (room.empty k m) (gives_fault c b))) none)))

  pub unmap_beyond : TablePlace (level f) s p → table_entries (level f) ≤ i → (unmap_outcome f s p i).answer ≡ 4
  unfolding unmap_outcome
  unmap_beyond at h =
      settle_answer _ _ _ ∙ decides (past at.fits (past (in_region at) (past (at_multiple at) (past (same _ _ whole) (here (le-leb (table_entries (level f)) i h))))))

-- the index is no multiple of the words of a mapping
module _ (f : Form) {s : Store} {p : ℕ} (i : ℕ) (broken : i % mapping_words f ≢ 0) where
  pub map-misaligned : (golden : List ℕ) (t r number : ℕ) → TablePlace (level f) s p → misfit_image golden ≡ false → t % target_blocks f ≡ 0 → (map_outcome f golden s p i t r number).answer ≡ 3
  unfolding map_outcome
  map-misaligned golden t r number at image target_aligned =
      settle_answer _ _ _ ∙ decides (past at.fits (past image (past (in_region at) (past (at_multiple at) (past (same _ _ target_aligned) (here (differ _ _ broken)))))))

  pub unmap_misaligned : TablePlace (level f) s p → (unmap_outcome f s p i).answer ≡ 3
  unfolding unmap_outcome
  unmap_misaligned at = settle_answer _ _ _ ∙ decides (past at.fits (past (in_region at) (past (at_multiple at) (here (differ _ _ broken)))))

-- a link counts on its target alone, which has room
link_counts : (s : Store) (t j : ℕ) → LinkTarget s t j → (c : Counter) (b : ℕ) → overruns added (counter c s b) (gain 1 (λ k. link_to t j) c b) ≡ false
unfolding overruns ends_below end_value grants allows rights cover_first place_first cover_blocks place_blocks
link_counts s t j target c b =
    let k = gain 1 (λ k. link_to t j) c b in
    false_unless (overruns added (counter c s b) k) (λ e.
    let (some, over) = and_true (above k 0) (above (counter c s b + k) counter_limit) e in
    let (_, _, given) = gain_found 1 (λ k. link_to t j) c b (ltb-true 0 k some) in
    let (granted, lo, hi) = gives_within c (link_to t j) b given in
    let is : b ≡ t = omega (arith, target.table) in
    omega (arith, rw (← is) at (below c granted), ltb-true counter_limit (counter c s b + k) over, gain-most 1 (λ k. link_to t j) c b)) where
      below : (c : Counter) → grants c (link_to t j) ≡ true → counter c s t < counter_limit
      below writable g = absurd (false≢true g)
      below executable g = absurd (false≢true g)
      below linked g = target.room

pub link_accepted : {s : Store} {p i t j : ℕ} → Vacant sections s p i → i < table_entries l1 → LinkTarget s t j → (link_outcome s p i t j).answer ≡ 0
unfolding link_outcome
link_accepted {s} {p} {i} {t} {j} room l target =
    let table = room.ready in
    let at = table.placed in
    settle_answer _ _ _ ∙ accepted (step at.fits (step (in_region at) (step (at_multiple at) (step (lt-leb (table_entries l1) i l) (step (lt-leb block_tables j target.table)
    (step (right_types table) (step (no_executable table) (step (unoccupied room)
    (step (inside (base s) (blocks s) t (table_blocks l2) target.low (omega (arith, target.high)))
    (step (same _ _ target.type) (step (none_overruns added s 1 (λ k. link_to t j) (link_counts s t j target)) done)))))))))))

pub link_beyond : {s : Store} {p : ℕ} (i t j : ℕ) → TablePlace l1 s p → table_entries l1 ≤ i → (link_outcome s p i t j).answer ≡ 4
unfolding link_outcome
link_beyond {s} {p} i t j at h =
    settle_answer _ _ _ ∙ decides (past at.fits (past (in_region at) (past (at_multiple at) (here (le-leb (table_entries l1) i h)))))
