-- A signed page that one entry alone maps can be made writable and executable in turn: once the entry is gone no counter of the page is
-- above 0, so that nothing is held against the next one.
use mathlib.Core.Bool.{Bool, true, false, not, ◌&&◌, and-false}
use mathlib.Core.List.{List, [], ◌∷◌}
use mathlib.Core.Logic.{◌≢◌}
use mathlib.Core.Path.{◌≡◌, refl, sym, ◌∙◌, ap, subst}
use Prim.Native.Nat.{ℕ, ◌+◌, ◌-◌, ◌*◌, ◌%◌, ◌^◌, ◌<◌, ◌≤◌}
use native.Mathlib.Nat.{add-zero, zero-add, mod-one}
use native.Mathlib.Omega.{arith}
use lib.ListN.{take}
use borrow.Author.Tests.{le-ltb, lt-leb}
use Rattle.words.specs.Bounded.{above, neqb, among, sum, num}
use Rattle.words.proofs.Bounded.{any_avoids, false_unless, and_true_right, same, among_in, among_within}
use Rattle.signature.specs.Signed.{misfit_image}
use Rattle.entries.specs.Entries.{Entry, Level, fault, page, l2, entry_at, is_fault, rights, place_first, cover_first, place_blocks, cover_blocks, covers, is_large}
use Rattle.entries.specs.Written.{word_of, kindless}
use Rattle.entries.specs.Rights.{write, execute, allows}
use Rattle.entries.specs.Rights.{unlawful_rights}
use Rattle.entries.proofs.RoundTrip.{Single, a_fault, a_link, a_section, a_page, singly, Grantable, none, read, read_write, read_execute}
use Rattle.rules.specs.Store.{marked, block_words, counter_limit, Store, blocks, base, Counter, writable, executable, counter, type_of, some_block, fill}
use Rattle.rules.specs.Signature.{signed_block, unknown}
use Rattle.rules.specs.Tables.{type_d, type_code, table_entries, pages, word_index, table_entry, grants, gives, gain}
use Rattle.rules.specs.General.{table_outside, other_type, holder, executable_holder, Change, added, removed, end_value, recounted, occupied}
use Rattle.rules.specs.Outcomes.{leaving}
use Rattle.rules.specs.Map.{unfit_target, clashing_target, unsigned_target, stored_kind, first_kind, map_refusals, map_accepted, map_outcome}
use Rattle.rules.specs.Unmap.{unmap_refusals, unmap_after, unmap_outcome}
use Rattle.rules.specs.Steps.{Step, maps, unmaps, obey, run, run_by, Told, after_accepted}
use Rattle.rules.specs.Policies.{for_another, WritableByOneEntry, there_and_back}
use Rattle.rules.proofs.Refusals.{Passed, done, step}
use Rattle.rules.proofs.Gains.{gives_fault, gives_within, gain-most}
use Rattle.rules.proofs.Memory.{length-fill, entry_at-fill, contents-fill, signed_block_same}
use Rattle.rules.proofs.Consistent.{Sound, counted, counts_limit}
use Rattle.rules.proofs.Ledger.{OnlyMarks, marks_clear, marks_both, marks_set}
use Rattle.rules.proofs.State.{inside, type_at, recorded, entry_of, Inv, Running, safe, type_told}
use Rattle.rules.proofs.Tables.{entry_of_table}
use Rattle.rules.proofs.Walk.{cover_within}
use Rattle.rules.proofs.Changes.{end, counter-recounted}
use Rattle.rules.proofs.Passing.{Taken, taken, one_block, no_misfit, right_type}
use Rattle.rules.proofs.Removals.{all_taken, none_unaccepted, none_astray}

-- entry i of the L2 block p is e, and no other entry lets the guest write or execute in the signed data block t, nor execute in block p
pub record Alone (B : ℕ) (h : Told) (s : Store) (p i t : ℕ) (e : Entry) : Type 0 where
  pub table_low : B ≤ p
  pub table_high : p < B + blocks s
  pub table : h.types p ≡ type_code l2
  pub index : i < table_entries l2
  pub low : B ≤ t
  pub high : t < B + blocks s
  pub free : h.types t ≡ type_d
  pub signs : signed_block h.golden B s.memory t ≡ true
  pub holds : entry_at l2 s.memory (block_words * (p - B) + i) ≡ e
  pub not_large : is_large e ≡ false
  pub only : recorded s writable (t - B) + recorded s executable (t - B) ≡ num (gives writable e t) + num (gives executable e t)
  pub holder_unexecuted : recorded s executable (p - B) ≡ 0

gain_one : (x : ℕ → Entry) (c : Counter) (q : ℕ) → gain 1 x c q ≡ num (gives c (x 0) q)
unfolding gain sum
gain_one x c q = zero-add (num (gives c (x 0) q))

-- what is written at a word by itself is no large page
no_large : {v : Level} {e : Entry} → Single v e → is_large e ≡ false
unfolding is_large
no_large a_fault = refl
no_large (a_link p) = refl
no_large (a_section b g) = refl
no_large (a_page b g) = refl

-- one entry more or less leaves a counter a word
end_small : (d : Change) (old k : ℕ) → old ≤ counter_limit → k ≤ 1 → end_value d old k < 2 ^ 32
unfolding end_value
end_small added old k l o = omega arith
end_small removed old k l o = omega arith

module _ {h : Told} {s : Store} (r : Running h s) {p i t : ℕ} {e : Entry} (a : Alone (base s) h s p i t e) where
  other : t ≢ p
  other q = let z : type_d ≡ type_code l2 = sym a.free ∙ ap h.types q ∙ a.table in omega arith

  -- what the entry gives is counted
  given_counted : (c : Counter) → num (gives c e t) ≤ recorded s c (t - base s)
  unfolding num
  given_counted c = go (gives c e t) refl where
    go : (g : Bool) → gives c e t ≡ g → num g ≤ recorded s c (t - base s)
    go false g = omega arith
    go true g =
        let j = word_index s p i in
        let is : entry_of (base s) h s.memory j ≡ e = entry_of_table (base s) h s.memory j p (omega arith) l2 a.table ∙ a.holds in
        let at : base s + (t - base s) ≡ t = omega arith in
        counted r.consistent c (t - base s) j (omega arith) (omega arith) (rw (is, at) g)

  -- what is left when y stands where the entry stood, and what x 0 gives has been added to the counters or removed
  module _ (kind : ℕ) (d : Change) (x : ℕ → Entry) (y : Entry) {led : List ℕ} (only : OnlyMarks (recounted d s 1 x) led) where
    abbrev after : Store
    after = record { memory = fill s.memory (word_index s p i) 1 (λ k. word_of kind y); ledger = led }

    left : (c : Counter) (q : ℕ) → base s ≤ q → q < base s + blocks s → recorded after c (q - base s) ≡ end_value d (recorded s c (q - base s)) (num (gives c (x 0) q))
    left c q lo hi =
        let at : base s + (q - base s) ≡ q = omega arith in
        let is : end d s 1 x c (q - base s) ≡ end_value d (recorded s c (q - base s)) (num (gives c (x 0) q)) = rw (at, gain_one x c q) refl in
        let small = end_small d (recorded s c (q - base s)) (gain 1 x c (base s + (q - base s))) (counts_limit r.consistent r.fit.at_most c (q - base s) (omega arith)) (gain-most 1 x c _) in
        only.counter_is c (q - base s) ∙ counter-recounted d s 1 x r.fit.ledger_length c (q - base s) (omega arith) small ∙ is

    edit_alone : Single l2 y
        → end_value d (recorded s writable (t - base s)) (num (gives writable (x 0) t)) + end_value d (recorded s executable (t - base s)) (num (gives executable (x 0) t)) ≡ num (gives writable y t) + num (gives executable y t)
        → end_value d (recorded s executable (p - base s)) (num (gives executable (x 0) p)) ≡ 0
        → Alone (base s) h after p i t y
    edit_alone written uses unexecuted =
        let f = r.fit.memory_length in
        let same_blocks = length-fill s.memory (word_index s p i) (λ k. word_of kind y) 1 in
        let at : base s + (t - base s) ≡ t = omega arith in
        let o = other in
        record {
          table_low = a.table_low;
          table_high = omega arith;
          table = a.table;
          index = a.index;
          low = a.low;
          high = omega arith;
          free = a.free;
          signs = rw at at (signed_block_same h.golden (base s) after.memory s.memory (t - base s) (contents-fill s.memory (word_index s p i) (λ k. word_of kind y) 1 (t - base s) (λ k. omega arith))) ∙ a.signs;
          holds = rw add-zero at (entry_at-fill l2 s.memory (word_index s p i) kind (λ k. y) 1 (singly (λ k l. written)) (omega arith) 0 (omega arith));
          not_large = no_large written;
          only = rw (left writable t a.low a.high, left executable t a.low a.high) uses;
          holder_unexecuted = left executable p a.table_low a.table_high ∙ unexecuted;
        }

  -- 2, 5 and 7 hold nothing against the table
  table_inside : table_outside l2 s p ≡ false
  table_inside = inside (base s) (blocks s) p 1 a.table_low (omega arith)

  typed : other_type l2 s p (type_code l2) ≡ false
  typed = right_type r l2 p (type_code l2) a.table_low (omega arith) (λ k l. let z : p + k ≡ p = omega arith in ap h.types z ∙ a.table)

  own_holder : holder p i ≡ p
  own_holder = omega arith

  unexecuted : executable_holder s p i ≡ false
  unexecuted = rw own_holder (le-ltb 0 (counter executable s p) (omega (arith, a.holder_unexecuted)))

  unmap_passes : Passed (take 9 (unmap_refusals pages s p i))
  unfolding for_another
  unmap_passes =
      let in_table : (k : ℕ) → k < 1 → i + k < table_entries l2 = λ k l. omega arith in
      step (no_misfit r) (step table_inside (step (same (p % 1) 0 (mod-one p)) (step (same (i % 1) 0 (mod-one i)) (step (lt-leb (table_entries l2) i a.index) (step typed (step unexecuted
      (step (all_taken s p i pages (same (i % 1) 0 (mod-one i)) (none_unaccepted r l2 p table_inside typed 1 (λ k. i + k) in_table) (rw a.holds a.not_large)) (step (none_astray r l2 p table_inside typed 1 (λ k. i + k) in_table) done))))))))

  -- the block is no longer counted for write or execute
  unmap_alone : Alone (base s) h (unmap_after pages s p i) p i t fault
  unfolding end_value num
  unmap_alone =
      let is : table_entry l2 s p (i + 0) ≡ e = ap (table_entry l2 s p) (add-zero i) ∙ a.holds in
      let w = given_counted writable in
      let x = given_counted executable in
      edit_alone kindless removed (λ k. table_entry l2 s p (i + k)) fault (marks_clear _ (holder p i - base s)) a_fault
      (rw (is, gives_fault writable t, gives_fault executable t) (omega (arith, a.only)))
      (omega (arith, a.holder_unexecuted))

-- rights that can be granted pass 9 and are not both write and execute
grantable_lawful : {q : ℕ} → Grantable q → (unlawful_rights q ≡ false) × ((allows q write && allows q execute) ≡ false)
unfolding unlawful_rights allows
grantable_lawful none = (refl, refl)
grantable_lawful read = (refl, refl)
grantable_lawful read_write = (refl, refl)
grantable_lawful read_execute = (refl, refl)

module _ {h : Told} {s : Store} (r : Running h s) {p i t q : ℕ} (a : Alone (base s) h s p i t fault) (image : misfit_image h.golden ≡ false) (g : Grantable q) where
  -- no counter of the block is above 0
  uncounted : (recorded s writable (t - base s) ≡ 0) × (recorded s executable (t - base s) ≡ 0)
  unfolding num
  uncounted = let z = rw (gives_fault writable t, gives_fault executable t) at a.only in (omega arith, omega arith)

  vacant : occupied l2 s p i 1 ≡ false
  unfolding is_fault
  vacant = any_avoids (λ k. not (is_fault (table_entry l2 s p (i + k)))) 1 (λ k l. let z : i + k ≡ i = omega arith in rw (z, a.holds) refl)

  fit_target : unfit_target s p i t 1 q ≡ false
  unfolding unfit_target
  fit_target =
      rw (inside (base s) (blocks s) t 1 a.low (omega arith), one_block t (λ b. neqb (type_of s b) type_d) (same (type_of s t) type_d (type_told r t a.low a.high ∙ a.free)), and-false (allows q write))
      (false_unless (allows q execute && among t 1 (holder p i)) (λ e.
      let (lo, hi) = among_within t 1 (holder p i) (and_true_right (allows q execute) (among t 1 (holder p i)) e) in
      other r a (omega (arith, own_holder r a))))

  clear_target : clashing_target s t 1 q ≡ false
  unfolding clashing_target
  clear_target =
      let (w, x) = uncounted in
      let none : (c : Counter) → recorded s c (t - base s) ≡ 0 → some_block t 1 (λ b. above (counter c s b) 0) ≡ false = λ c z. one_block t (λ b. above (counter c s b) 0) (le-ltb 0 (counter c s t) (omega (arith, z))) in
      rw ((grantable_lawful g).1, none executable x, none writable w, and-false (allows q write)) (and-false (allows q execute))

  signed_target : unsigned_target h.golden s t 1 q ≡ false
  unfolding unsigned_target unknown
  signed_target = rw (one_block t (unknown h.golden s) (rw a.signs (and-false (not (marked s t))))) (and-false (allows q execute))

  map-passes : Passed (take 15 (map_refusals pages h.golden s p i t q first_kind))
  map-passes =
      step (no_misfit r) (step image (step (table_inside r a) (step (same (p % 1) 0 (mod-one p)) (step (same (t % 1) 0 (mod-one t)) (step (same (i % 1) 0 (mod-one i)) (step (lt-leb (table_entries l2) i a.index) (step refl (step (typed r a) (step (unexecuted r a)
      (step vacant (step (grantable_lawful g).0 (step fit_target (step clear_target (step signed_target done))))))))))))))

  map_alone : Alone (base s) h (map_accepted pages s p i t q first_kind).store p i t (page t q)
  unfolding end_value num cover_first place_first cover_blocks place_blocks
  map_alone =
      let (w, x) = uncounted in
      let spared : gives executable (page t q) p ≡ false = false_unless (gives executable (page t q) p) (λ e. let (_, lo, hi) = gives_within executable (page t q) p e in other r a (omega arith)) in
      edit_alone r a (stored_kind s first_kind) added (λ k. page t q) (page t q) (marks_both (marks_clear _ (holder p i - base s)) (marks_set _ _ (blocks s))) (a_page (omega (arith, r.fit.physical)) g) (omega arith) (rw spared (omega (arith, a.holder_unexecuted)))

-- One step

-- an accepted step: the state goes on, and e is the entry now
pub record Went (h : Told) (s : Store) (call : Step) (p i t : ℕ) (e : Entry) : Type 0 where
  pub accepted : (obey h.golden s call).answer ≡ 0
  pub runs : Running h (obey h.golden s call).after
  pub alone : Alone h.B h (obey h.golden s call).after p i t e

-- a call that tells nothing
goes : {h : Told} {s : Store} → Running h s → {call : Step} {after : Store} {p i t : ℕ} {e : Entry} → Taken h s call after → after_accepted h call ≡ h → Alone (base s) h after p i t e
    → Went h s call p i t e
goes {h} r {call} {after} {p} {i} {t} {e} took silent alone =
    record { accepted = took.accepted; runs = rw silent at took.runs; alone = rw took.leaves (subst (λ (b : ℕ). Alone b h after p i t e) (sym r.told-base) alone) }

module _ {h : Told} {s : Store} (r : Running h s) {p i t : ℕ} where
  unmap_goes : {e : Entry} → Alone h.B h s p i t e → Went h s (unmaps pages p i) p i t fault
  unfolding obey unmap_outcome after_accepted
  unmap_goes {e} alone =
      let a = subst (λ (b : ℕ). Alone b h s p i t e) r.told-base alone in
      goes r (taken r (unmaps pages p i) _ (leaving (unmap_after pages s p i)) refl (unmap_passes r a)) refl (unmap_alone r a)

  pub map_goes : {q : ℕ} → misfit_image h.golden ≡ false → Grantable q → Alone h.B h s p i t fault → Went h s (maps pages p i t q first_kind) p i t (page t q)
  unfolding obey map_outcome after_accepted
  map_goes {q} image g alone =
      let a = subst (λ (b : ℕ). Alone b h s p i t fault) r.told-base alone in
      goes r (taken r (maps pages p i t q first_kind) _ (map_accepted pages s p i t q first_kind) refl (map-passes r a image g)) refl (map_alone r a image g)

-- A page that is mapped to be read and written

page_gives : (t : ℕ) → (gives writable (page t 3) t ≡ true) × (gives executable (page t 3) t ≡ false)
unfolding gives grants allows rights covers cover_first place_first cover_blocks place_blocks
page_gives t = (rw (among_in t 1 t (omega arith) (omega arith)) refl, refl)

module _ {h : Told} {s : Store} (r : Running h s) {p i t : ℕ} where
  -- the entry is sound and counted, so that its target is data and not executable
  alone_of : WritableByOneEntry h s p i t → Alone h.B h s p i t (page t 3)
  unfolding cover_first place_first cover_blocks place_blocks num is_large
  alone_of w = go (subst (λ (b : ℕ). Inv b (blocks s) h s) (sym r.told-base) r) where
    go : Inv h.B (blocks s) h s → Alone h.B h s p i t (page t 3)
    go v =
        let (p-low, p-high) = w.inside in
        let small = w.index in
        let k = v.consistent in
        let j = block_words * (p - h.B) + i in
        let is : entry_of h.B h s.memory j ≡ page t 3 = entry_of_table h.B h s.memory j p (omega arith) l2 w.table ∙ w.entry in
        let sound : Sound h.B (blocks s) (type_at h.B h) (page t 3) = rw is at (k.sound j (omega arith)) in
        let (low, high) = cover_within h.B (blocks s) (page t 3) (omega arith) sound.inside in
        let at : h.B + (t - h.B) ≡ t = omega arith in
        let (writes, executes) = page_gives t in
        let one = (safe r).honest writable (t - h.B) (omega arith) ∙ w.alone in
        let none = k.exclusive (t - h.B) (omega arith) (omega arith) in
        record {
          table_low = p-low;
          table_high = p-high;
          table = w.table;
          index = small;
          low = low;
          high = omega arith;
          free = ap h.types (sym at) ∙ sound.suits writable (t - h.B) (omega arith) (rw at writes);
          signs = w.signs;
          holds = w.entry;
          only = rw (one, none, writes, executes) refl;
          not_large = refl;
          holder_unexecuted = (safe r).honest executable (p - h.B) (omega arith) ∙ w.holder;
        }

  pub of_alone : Alone h.B h s p i t (page t 3) → WritableByOneEntry h s p i t
  unfolding num
  of_alone a =
      let (writes, executes) = page_gives t in
      let counts = given_counted r (subst (λ (b : ℕ). Alone b h s p i t (page t 3)) r.told-base a) writable in
      let one : recorded s writable (t - h.B) ≡ 1 = omega (arith, rw (writes, executes) at a.only, rw (writes, ← r.told-base) at counts) in
      let low = a.low in
      let high = a.high in
      record {
        inside = (a.table_low, a.table_high);
        table = a.table;
        index = a.index;
        entry = a.holds;
        alone = sym ((safe r).honest writable (t - h.B) (omega arith)) ∙ one;
        holder = sym ((safe r).honest executable (p - h.B) (omega arith)) ∙ a.holder_unexecuted;
        signs = a.signs;
      }

pub in_turn : {h : Told} {s : Store} → Running h s → {p i t : ℕ} → misfit_image h.golden ≡ false → WritableByOneEntry h s p i t
    → (run h.golden s (there_and_back p i t)).answers ≡ (0 ∷ 0 ∷ 0 ∷ 0 ∷ [])
unfolding run_by
in_turn r image w =
    let a = unmap_goes r (alone_of r w) in
    let b = map_goes a.runs image read_execute a.alone in
    let c = unmap_goes b.runs b.alone in
    let d = map_goes c.runs image read_write c.alone in
    rw (a.accepted, b.accepted, c.accepted, d.accepted) refl
