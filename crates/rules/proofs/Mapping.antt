-- Map runs on: the target is in the region, of the type that it needs, not both writable and executable, signed if it is to be executed,
-- and not the block into which the entries are written.
use mathlib.Core.List.{List}
use mathlib.Core.Bool.{Bool, true, false, not, ◌&&◌, ◌||◌, and-false, false≢true}
use mathlib.Core.Path.{◌≡◌, refl, sym, ◌∙◌}
use Prim.Native.Nat.{ℕ, zero, suc, ◌+◌, ◌%◌, ◌^◌, ◌<◌, ◌≤◌}
use native.Mathlib.Omega.{arith}
use borrow.Author.Tests.{ltb-false}
use Rattle.words.specs.Bounded.{above, neqb, among}
use Rattle.words.proofs.Bounded.{false_unless, or_false_left, or_false_right, and_false_right, among_in}
use Rattle.entries.specs.Entries.{Entry, fault, is_fault, is_unaccepted, is_link, is_section, is_page, rights as rightsOfEntry, place_first, place_blocks}
use Rattle.entries.specs.Rights as rights
use Rattle.entries.specs.Rights.{allows, unlawful_rights}
use Rattle.entries.proofs.Covers.{cover_low, cover_high}
use Rattle.entries.proofs.RoundTrip.{Grantable, none, read, read_write, read_execute, a_section, a_page, Encodable, singly, in_run}
use Rattle.rules.specs.Refusals.{answer_of}
use Rattle.rules.specs.Store.{Store, blocks, base, record_word, Counter, writable, executable, linked, counter_word, counter, type_of, outside, some_block}
use Rattle.rules.specs.Signature.{unknown}
use Rattle.rules.specs.Tables.{type_d, type_code, Form, sections, pages, larges, level, target_blocks, mapping_words, mapping, word_index, grants, gives, gain, astray}
use Rattle.rules.specs.General.{table_outside, misaligned, beyond_table, other_type, executable_holder, occupied, holder, added, some_overrun}
use Rattle.rules.specs.Map.{unfit_target, clashing_target, unsigned_target, stored_kind, map_refusals, map_accepted, map_outcome}
use Rattle.rules.specs.Steps.{maps, Told, after_accepted}
use Rattle.rules.specs.Box.{grants_write}
use Rattle.rules.proofs.Refusals.{Passed, front, passed, passed_front, now, rest}
use Rattle.rules.proofs.Gains.{gives_within, gain_none, gain_found}
use Rattle.rules.proofs.Consistent.{Suits, Sound}
use Rattle.rules.proofs.State.{Fit, fits_stored, Running, equal, within, no_block_at, type_told, known_signed, Goes, Next, next_13, settle_accepted}
use Rattle.rules.proofs.Changes.{counter_none, adds, admits}
use Rattle.rules.proofs.Edits.{Apart, as_run, as_singles, slot, words_in_block, Harmless, enters}

-- the rights that pass 9 and are not both write and execute
grantable : (r : ℕ) → unlawful_rights r ≡ false → (allows r rights.write && allows r rights.execute) ≡ false → Grantable r
unfolding unlawful_rights allows
grantable zero t u = none
grantable (suc zero) t u = read
grantable (suc (suc zero)) t u = absurd (false≢true (sym t))
grantable (suc (suc (suc zero))) t u = read_write
grantable (suc (suc (suc (suc zero)))) t u = absurd (false≢true (sym t))
grantable (suc (suc (suc (suc (suc zero))))) t u = read_execute
grantable (suc (suc (suc (suc (suc (suc zero)))))) t u = absurd (false≢true (sym t))
grantable (suc (suc (suc (suc (suc (suc (suc zero))))))) t u = absurd (false≢true (sym u))
grantable (suc (suc (suc (suc (suc (suc (suc (suc r)))))))) t u =
    let n = suc (suc (suc (suc (suc (suc (suc (suc r))))))) in
    let z : ⊥ = omega (arith, ltb-false 7 n (or_false_left (above n 7) (not (allows n rights.read) && (allows n rights.write || allows n rights.execute)) t)) in
    absurd z

pub target_above : (f : Form) → 0 < target_blocks f
target_above sections = omega arith
target_above pages = omega arith
target_above larges = omega arith

-- the entries that are mapped, in a window whose first word is a multiple of their number
module _ (t r j : ℕ) where
  mapping_encodable : (f : Form) → t < 2 ^ 20 → t % target_blocks f ≡ 0 → Grantable r → j % mapping_words f ≡ 0 → Encodable (level f) j (mapping_words f) (mapping f t r)
  mapping_encodable sections l a g i = singly (λ k _. a_section (l, a) g)
  mapping_encodable pages l a g i = singly (λ k _. a_page l g)
  mapping_encodable larges l a g i = in_run i (l, a) g (λ k. refl)

  mapping_apart : (f : Form) → j % mapping_words f ≡ 0 → Apart j (mapping_words f) (λ k. fault) (mapping f t r)
  unfolding is_fault is_section is_link is_page
  mapping_apart sections i = as_singles (λ k _. (refl, refl))
  mapping_apart pages i = as_singles (λ k _. (refl, refl))
  mapping_apart larges i = as_run i refl

-- word k of the mapping
module _ (t r k : ℕ) where
  pub mapping-grants : (f : Form) → (grants writable (mapping f t r k) ≡ allows r rights.write) × (grants executable (mapping f t r k) ≡ allows r rights.execute) × (grants linked (mapping f t r k) ≡ false)
  unfolding grants rightsOfEntry is_link
  mapping-grants sections = (refl, refl, refl)
  mapping-grants pages = (refl, refl, refl)
  mapping-grants larges = (refl, refl, refl)

  mapping_accepted : (f : Form) → is_unaccepted (mapping f t r k) ≡ false
  unfolding is_unaccepted
  mapping_accepted sections = refl
  mapping_accepted pages = refl
  mapping_accepted larges = refl

  module _ (f : Form) (aligned : t % target_blocks f ≡ 0) (l : k < mapping_words f) where
    -- its place is the target
    mapping_place : (place_first (mapping f t r k) ≡ t) × (place_blocks (mapping f t r k) ≡ target_blocks f)
    unfolding place_first place_blocks
    mapping_place = place f aligned l where
      place : (f : Form) → t % target_blocks f ≡ 0 → k < mapping_words f → (place_first (mapping f t r k) ≡ t) × (place_blocks (mapping f t r k) ≡ target_blocks f)
      place sections a l = (refl, refl)
      place pages a l = (refl, refl)
      place larges a l = (omega arith, refl)

    -- a block that is given something is a block of the target
    mapping-gives : (c : Counter) (q : ℕ) → gives c (mapping f t r k) q ≡ true → (t ≤ q) × (q < t + target_blocks f)
    mapping-gives c q g =
        let e = mapping f t r k in
        let (_, lo, hi) = gives_within c e q g in
        let (start, length) = mapping_place in
        (omega (arith, cover_low e), omega (arith, cover_high e))

-- an index that is a multiple of a mapping's words is one in the memory too
pub word_aligned : (f : Form) (s : Store) (p i : ℕ) → misaligned i (mapping_words f) ≡ false → word_index s p i % mapping_words f ≡ 0
word_aligned sections s p i t = omega arith
word_aligned pages s p i t = omega arith
word_aligned larges s p i t = let multiple = equal (i % mapping_words larges) 0 t in omega arith

-- What the tests of a map tell, whatever the store

module _ (f : Form) (golden : List ℕ) (s : Store) (p i t q : ℕ) where
  abbrev pub writes : Bool
  writes = allows q rights.write

  abbrev pub executes : Bool
  executes = allows q rights.execute

  abbrev pub over : (ℕ → Bool) → Bool
  over = some_block t (target_blocks f)

  abbrev pub not_d : ℕ → Bool
  not_d b = neqb (type_of s b) type_d

  abbrev pub counts : Counter → ℕ → Bool
  counts c b = above (counter c s b) 0

  -- 10 does not apply
  pub record Fitting : Type 0 where
    pub in_region : outside (base s) (blocks s) t (target_blocks f) ≡ false
    pub data_only : writes ≡ true → over not_d ≡ false
    pub not_holder : executes ≡ true → t ≤ holder p i → holder p i < t + target_blocks f → ⊥

  fitting : unfit_target s p i t (target_blocks f) q ≡ false → Fitting
  unfolding unfit_target
  fitting e =
      let out = outside (base s) (blocks s) t (target_blocks f) in
      let written = writes && over not_d in
      let own = executes && among t (target_blocks f) (holder p i) in
      let e' = or_false_left (out || written) own e in
      record {
        in_region = or_false_left out written e';
        data_only = and_false_right writes (over not_d) (or_false_right out written e');
        not_holder = λ y lo hi.
            let is : own ≡ true = rw (y, among_in t (target_blocks f) (holder p i) lo hi) refl in
            false≢true (sym (or_false_right (out || written) own e) ∙ is);
      }

  -- 11 does not apply
  pub record Alone : Type 0 where
    pub not_both : (writes && executes) ≡ false
    pub unexecuted : writes ≡ true → over (counts executable) ≡ false
    pub unwritten : executes ≡ true → over (counts writable) ≡ false

  alone : clashing_target s t (target_blocks f) q ≡ false → Alone
  unfolding clashing_target
  alone e =
      let both = writes && executes in
      let on-executable = writes && over (counts executable) in
      let on-writable = executes && over (counts writable) in
      let e' = or_false_left (both || on-executable) on-writable e in
      record {
        not_both = or_false_left both on-executable e';
        unexecuted = and_false_right writes (over (counts executable)) (or_false_right both on-executable e');
        unwritten = and_false_right executes (over (counts writable)) (or_false_right (both || on-executable) on-writable e);
      }

  pub target_inside : Fitting → t % target_blocks f ≡ 0 → (k : ℕ) → k < mapping_words f → astray (base s) (blocks s) (mapping f t q k) ≡ false
  unfolding astray
  target_inside fit multiple k l = let (start, length) = mapping_place t q k f multiple l in rw (start, length, fit.in_region) (and-false (above (target_blocks f) 0))

  -- what passed the tests: the table and the index, the target, the rights
  pub record Mappable : Type 0 where
    pub region : Fit (base s) (blocks s) s
    pub table_inside : table_outside (level f) s p ≡ false
    pub target_aligned : t % target_blocks f ≡ 0
    pub aligned : misaligned i (mapping_words f) ≡ false
    pub index_inside : beyond_table (level f) i ≡ false
    pub typed : other_type (level f) s p (type_code (level f)) ≡ false
    pub unexecuted_holder : executable_holder s p i ≡ false
    pub free : occupied (level f) s p i (mapping_words f) ≡ false
    pub fits_target : Fitting
    pub apart : Alone
    pub signed : unsigned_target golden s t (target_blocks f) q ≡ false
    pub written : Encodable (level f) (word_index s p i) (mapping_words f) (mapping f t q)
    pub beside : Apart (word_index s p i) (mapping_words f) (λ k. fault) (mapping f t q)

  pub mappable : (number : ℕ) → Passed (front (map_refusals f golden s p i t q number)) → Mappable
  mappable number t1 =
      let t2 = rest (rest t1) in
      let t3 = rest (rest t2) in
      let t3' = rest t3 in
      let t4 = rest t3' in
      let t5 = rest (rest t4) in
      let t7 = rest t5 in
      let t8 = rest t7 in
      let t9 = rest t8 in
      let t10 = rest t9 in
      let t11 = rest t10 in
      let fit = fitting (now t10) in
      let apart = alone (now t11) in
      let region = fits_stored s (now t1) in
      let (low, high) = within (base s) (blocks s) t (target_blocks f) fit.in_region in
      let multiple = word_aligned f s p i (now t3') in
      record {
        region = region;
        table_inside = now t2;
        target_aligned = equal (t % target_blocks f) 0 (now t3);
        aligned = now t3';
        index_inside = now t4;
        typed = now t5;
        unexecuted_holder = now t7;
        free = now t8;
        fits_target = fit;
        apart = apart;
        signed = now (rest t11);
        written = mapping_encodable t q (word_index s p i) f (omega (arith, target_above f)) (equal (t % target_blocks f) 0 (now t3)) (grantable q (now t9) apart.not_both) multiple;
        beside = mapping_apart t q (word_index s p i) f multiple;
      }

-- Map

module _ (f : Form) (p i t q : ℕ) {h : Told} {s : Store} (r : Running h s) (can : Mappable f h.golden s p i t q) where
  abbrev x : ℕ → Entry
  x = mapping f t q

  abbrev m : ℕ
  m = mapping_words f

  -- what an entry gives, and to which block
  given : (c : Counter) (k b : ℕ) → k < m → gives c (x k) (base s + b) ≡ true → (grants c (x k) ≡ true) × (t ≤ base s + b) × (base s + b < t + target_blocks f)
  given c k b l g = let (lo, hi) = mapping-gives t q k f can.target_aligned l c (base s + b) g in ((gives_within c (x k) (base s + b) g).0, lo, hi)

  -- a counter of a block of the target
  no_count : (c : Counter) (b : ℕ) → some_block t (target_blocks f) (λ a. above (counter c s a) 0) ≡ false → t ≤ base s + b → base s + b < t + target_blocks f
      → record_word s.ledger (counter_word c) b ≡ 0
  no_count c b e lo hi = counter_none c s b (no_block_at t (target_blocks f) (λ a. above (counter c s a) 0) e (base s + b) lo hi)

  map_sound : (k : ℕ) → k < m → Sound (base s) (blocks s) (λ b. h.types (base s + b)) (x k)
  map_sound k l = record { accepted = mapping_accepted t q k f; inside = target_inside f h.golden s p i t q can.fits_target can.target_aligned k l; suits = suits } where
    suits : (c : Counter) (b : ℕ) → b < blocks s → gives c (x k) (base s + b) ≡ true → Suits c (h.types (base s + b))
    suits writable b inside g =
        let (grant, lo, hi) = given writable k b l g in
        let is = no_block_at t (target_blocks f) (λ a. neqb (type_of s a) type_d) (can.fits_target.data_only (sym (mapping-grants t q k f).0 ∙ grant)) (base s + b) lo hi in
        sym (type_told r (base s + b) (omega arith) (omega arith)) ∙ equal (type_of s (base s + b)) type_d is
    suits executable b inside g = tt
    suits linked b inside g = absurd (false≢true (sym (mapping-grants t q k f).2 ∙ (given linked k b l g).0))

  -- a block that gains w is to be written, one that gains x to be executed
  gains_write : (b : ℕ) → 0 < gain m x writable (base s + b) → (allows q rights.write ≡ true) × (t ≤ base s + b) × (base s + b < t + target_blocks f)
  gains_write b g =
      let (k, l, e) = gain_found m x writable (base s + b) g in let (grant, lo, hi) = given writable k b l e in (sym (mapping-grants t q k f).0 ∙ grant, lo, hi)

  gains_execute : (b : ℕ) → 0 < gain m x executable (base s + b) → (allows q rights.execute ≡ true) × (t ≤ base s + b) × (base s + b < t + target_blocks f)
  gains_execute b g =
      let (k, l, e) = gain_found m x executable (base s + b) g in let (grant, lo, hi) = given executable k b l e in (sym (mapping-grants t q k f).1 ∙ grant, lo, hi)

  map_harmless : Harmless h s p i m x
  unfolding unsigned_target gives
  map_harmless =
      record {
        write_alone = λ b l g.
            let (w, lo, hi) = gains_write b g in
            let not_executed = and_false_right (allows q rights.write) (allows q rights.execute) can.apart.not_both w in
            (gain_none m x executable (base s + b) (λ k _. rw ((mapping-grants t q k f).1, not_executed) refl), no_count executable b (can.apart.unexecuted w) lo hi);
        execute_alone = λ b l g. let (e, lo, hi) = gains_execute b g in no_count writable b (can.apart.unwritten e) lo hi;
        signs = λ b l g.
            let (e, lo, hi) = gains_execute b g in
            let none = and_false_right (allows q rights.execute) (some_block t (target_blocks f) (unknown h.golden s)) can.signed e in
            known_signed r b l (no_block_at t (target_blocks f) (unknown h.golden s) none (base s + b) lo hi);
        spares_holder = gain_none m x executable (holder p i) (λ k l.
            false_unless (gives executable (x k) (holder p i)) (λ g.
            let (lo, hi) = mapping-gives t q k f can.target_aligned l executable (holder p i) g in
            can.fits_target.not_holder (sym (mapping-grants t q k f).1 ∙ (gives_within executable (x k) (holder p i) g).0) lo hi));
      }

  mapped : (number : ℕ) → (some_overrun added s m x ≡ false) × Goes (grants_write s (maps f p i t q number)) h s (map_accepted f s p i t q number).store
  unfolding grants_write
  mapped number =
      let sl = slot r (level f) p i m (words_in_block f i can.aligned) can.table_inside can.index_inside can.typed can.unexecuted_holder in
      let (change, fresh) = enters r (level f) p i m sl x map_harmless (stored_kind s number) can.written can.beside can.free map_sound in
      adds r (admits change) fresh

pub map_next : (f : Form) (p i t q number : ℕ) {h : Told} {s : Store} → Running h s → Next h s (maps f p i t q number) (map_outcome f h.golden s p i t q number)
unfolding map_outcome after_accepted
map_next f p i t q number {h} {s} r =
    next_13 (maps f p i t q number) (map_accepted f s p i t q number) (map_refusals f h.golden s p i t q number) r (omega arith) (omega arith) (omega arith)
    (λ tests. mapped f p i t q r (mappable f h.golden s p i t q number tests) number)

-- an accepted map has the places of its entries in the region
pub map_placed : (f : Form) (golden : List ℕ) (s : Store) (p i t q number : ℕ) → (map_outcome f golden s p i t q number).answer ≡ 0
    → (k : ℕ) → k < mapping_words f → astray (base s) (blocks s) (mapping f t q k) ≡ false
unfolding map_outcome
map_placed f golden s p i t q number zero_is =
    let rs = map_refusals f golden s p i t q number in
    let can = mappable f golden s p i t q number (passed_front rs (passed rs (omega arith) (settle_accepted s (map_accepted f s p i t q number) (answer_of rs) zero_is).0)) in
    target_inside f golden s p i t q can.fits_target can.target_aligned
