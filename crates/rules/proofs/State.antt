-- The invariant of every list of steps, and what it says at a moment: the ledger has what the steps told,
-- tables and counters agree, and what is marked is signed.
use mathlib.Core.Bool.{Bool, true, false, not, ◌&&◌, ◌||◌, or-true}
use mathlib.Core.List.{List}
use mathlib.Core.Logic.{◌≢◌, ◌⊎◌, inl, inr, ⊎_elim}
use mathlib.Core.Option.{Option, none, some}
use mathlib.Core.Path.{◌≡◌, refl, sym, ◌∙◌, ap, subst, subst₂}
use Prim.Native.Nat.{ℕ, zero, suc, ◌+◌, ◌-◌, ◌*◌, ◌/◌, ◌%◌, ◌<◌, ◌≤◌}
use native.Mathlib.Omega.{arith}
use lib.ListN.{length}
use lib.Dec.{eqb}
use borrow.Author.Tests.{le-ltb, ltb-false, eqb-true, not-false}
use Rattle.words.specs.Bounded.{above, neqb}
use Rattle.words.proofs.Bounded.{or_false_left, or_false_right, or_cases, any_none, any_hit, any_found}
use Rattle.entries.specs.Entries.{Entry, Level}
use Rattle.rules.specs.Store.{block_bytes, block_words, least_blocks, most_blocks, base_alignment, physical_blocks, ledger_head_bytes, ledger_record_bytes, no_table, Store, blocks, base, active, kinds_of, unlawful_kinds, record_word, type_word, Counter, writable, executable, linked, counter_word, mark_word, mark_value, marked, some_counter, type_of, outside, some_block, misfit, misfit_stored}
use Rattle.rules.specs.Outcomes.{Outcome, Accepted, settle, call_outcome}
use Rattle.rules.specs.Refusals.{Refusal, answer_of}
use Rattle.rules.specs.Signature.{signed_block, unknown}
use Rattle.rules.specs.Tables.{table_blocks, typed_entry}
use Rattle.rules.specs.General.{table_outside, other_type}
use Rattle.rules.specs.Steps.{Step, Told, after_accepted, after_answer, afresh, Root}
use Rattle.rules.specs.Demand3.{Safe}
use Rattle.rules.specs.Box.{grants_write}
use Rattle.rules.proofs.Ledger.{OnlyMarks}
use Rattle.rules.proofs.Refusals.{Passed, Avoids, front, last_test, passed, passed_front, avoided, last_avoided}
use Rattle.rules.proofs.Consistent.{Consistent}

-- refusal 1 does not apply: n blocks from B on
pub record Fit (B n : ℕ) (s : Store) : Type 0 where
  pub memory_length : length s.memory ≡ block_bytes * n
  pub ledger_length : length s.ledger ≡ ledger_head_bytes + ledger_record_bytes * n
  pub at_least : least_blocks ≤ n
  pub at_most : n ≤ most_blocks
  pub aligned : B % base_alignment ≡ 0
  pub physical : B + n ≤ physical_blocks

pub equal : (a b : ℕ) → neqb a b ≡ false → a ≡ b
equal a b e = eqb-true a b (not-false (eqb a b) e)

pub fits : (s : Store) (B : ℕ) → misfit s B ≡ false → Fit B (blocks s) s
unfolding misfit
fits s B e =
    let t1 = neqb (length s.memory % block_bytes) 0 in
    let t2 = above least_blocks (blocks s) in
    let t3 = above (blocks s) most_blocks in
    let t4 = neqb (length s.ledger) (ledger_head_bytes + ledger_record_bytes * blocks s) in
    let t5 = neqb (B % base_alignment) 0 in
    let t6 = above (B + blocks s) physical_blocks in
    let e5 = or_false_left (t1 || t2 || t3 || t4 || t5) t6 e in
    let e4 = or_false_left (t1 || t2 || t3 || t4) t5 e5 in
    let e3 = or_false_left (t1 || t2 || t3) t4 e4 in
    let e2 = or_false_left (t1 || t2) t3 e3 in
    let whole = equal (length s.memory % block_bytes) 0 (or_false_left t1 t2 e2) in
    record {
      memory_length = omega arith;
      ledger_length = equal (length s.ledger) (ledger_head_bytes + ledger_record_bytes * blocks s) (or_false_right (t1 || t2 || t3) t4 e4);
      at_least = ltb-false (blocks s) least_blocks (or_false_right t1 t2 e2);
      at_most = ltb-false most_blocks (blocks s) (or_false_right (t1 || t2) t3 e3);
      aligned = equal (B % base_alignment) 0 (or_false_right (t1 || t2 || t3 || t4) t5 e5);
      physical = ltb-false physical_blocks (B + blocks s) (or_false_right (t1 || t2 || t3 || t4 || t5) t6 e);
    }

-- so with what the ledger has
pub fits_stored : (s : Store) → misfit_stored s ≡ false → Fit (base s) (blocks s) s
unfolding misfit_stored
fits_stored s e = fits s (base s) (or_false_left (misfit s (base s)) (unlawful_kinds (kinds_of s.ledger)) e)

pub fit_same : {B n : ℕ} {s : Store} (after : Store) → Fit B n s → length after.memory ≡ length s.memory → length after.ledger ≡ length s.ledger → Fit B n after
fit_same after f m l =
    record { memory_length = m ∙ f.memory_length; ledger_length = l ∙ f.ledger_length; at_least = f.at_least; at_most = f.at_most; aligned = f.aligned; physical = f.physical }

-- the active word that the last accepted switch left
abbrev pub active_word : Option ℕ → ℕ
active_word none = no_table
active_word (some p) = p

-- word j of the memory as an entry, by the tables that the steps told
abbrev pub entry_of : ℕ → Told → List ℕ → ℕ → Entry
entry_of B h memory j = typed_entry (h.types (B + j / block_words)) memory j

-- the type of block b, whether it is signed, and its counters
abbrev pub type_at : ℕ → Told → ℕ → ℕ
type_at B h b = h.types (B + b)

abbrev pub signed_at : ℕ → Told → List ℕ → ℕ → Bool
signed_at B h memory b = signed_block h.golden B memory (B + b)

abbrev pub recorded : Store → Counter → ℕ → ℕ
recorded s c b = record_word s.ledger (counter_word c) b

-- block b is marked
abbrev pub MarkedAt : Store → ℕ → Type 0
MarkedAt s b = record_word s.ledger mark_word b ≡ mark_value

pub record Inv (B n : ℕ) (h : Told) (s : Store) : Type 0 where
  pub told-base : h.B ≡ B
  pub fit : Fit B n s
  pub base_is : base s ≡ B
  pub active_is : active s ≡ active_word h.table
  pub kinds_are : kinds_of s.ledger ≡ h.kinds
  pub kinds_lawful : unlawful_kinds h.kinds ≡ false
  pub types_are : (b : ℕ) → b < n → record_word s.ledger type_word b ≡ type_at B h b
  pub root : (p : ℕ) → h.table ≡ some p → Root B n h.types p
  pub consistent : Consistent B n (type_at B h) (entry_of B h s.memory) (signed_at B h s.memory) (recorded s)
  pub believed : (b : ℕ) → b < n → MarkedAt s b → signed_at B h s.memory b ≡ true

abbrev pub Running : Told → Store → Type 0
Running h s = Inv (base s) (blocks s) h s

module _ {B n : ℕ} {h : Told} {s : Store} (i : Inv B n h s) where
  pub blocks_are : blocks s ≡ n
  blocks_are = let f = i.fit.memory_length in omega arith

  pub running : Running h s
  running = subst₂ (λ b m. Inv b m h s) (sym i.base_is) (sym blocks_are) i

-- lists 7 to 9, 14 and 15: the invariant says them of a moment
pub safe : {h : Told} {s : Store} → Running h s → Safe h s
unfolding afresh
safe {h} {s} r = told_safe (subst (λ b. Inv b (blocks s) h s) (sym r.told-base) r) where
  told_safe : Inv h.B (blocks s) h s → Safe h s
  told_safe i =
      let k = i.consistent in
      record {
        exclusive = λ b l w x. omega (arith, k.exclusive b l (rw (k.counts_are writable b l) w), k.counts_are executable b l);
        signs = λ b l x. k.signs b l (rw (k.counts_are executable b l) x);
        honest = λ c b l. k.counts_are c b l;
        kinds_kept = i.kinds_are;
        believed = i.believed;
      }

-- What the tests of a call tell

pub within : (B n p m : ℕ) → outside B n p m ≡ false → (B ≤ p) × (p + m ≤ B + n)
unfolding outside
within B n p m e =
    (ltb-false p B (or_false_left (above B p) (above (p + m) (B + n)) e), ltb-false (B + n) (p + m) (or_false_right (above B p) (above (p + m) (B + n)) e))

pub inside : (B n p m : ℕ) → B ≤ p → p + m ≤ B + n → outside B n p m ≡ false
unfolding outside
inside B n p m low high = rw (le-ltb p B low, le-ltb (B + n) (p + m) high) refl

pub no_block : (p m : ℕ) (q : ℕ → Bool) → some_block p m q ≡ false → (k : ℕ) → k < m → q (p + k) ≡ false
unfolding some_block
no_block p m q e k l = any_none (λ i. q (p + i)) m e k l

-- the same, for a block between the first and the last
pub no_block_at : (p m : ℕ) (q : ℕ → Bool) → some_block p m q ≡ false → (b : ℕ) → p ≤ b → b < p + m → q b ≡ false
no_block_at p m q e b lo hi = let i : p + (b - p) ≡ b = omega arith in rw i at (no_block p m q e (b - p) (omega arith))

module _ (p m : ℕ) (q : ℕ → Bool) where
  pub some_block_hit : (b : ℕ) → p ≤ b → b < p + m → q b ≡ true → some_block p m q ≡ true
  unfolding some_block
  some_block_hit b lo hi e =
      let i : p + (b - p) ≡ b = omega arith in
      any_hit (λ k. q (p + k)) m (b - p) (omega arith) (rw i e)

  pub some_block_found : some_block p m q ≡ true → (b : ℕ) × (p ≤ b) × (b < p + m) × (q b ≡ true)
  unfolding some_block
  some_block_found e = let (k, l, t) = any_found (λ k. q (p + k)) m e in (p + k, omega arith, omega arith, t)

pub no_counter : (q : Counter → Bool) → some_counter q ≡ false → (c : Counter) → q c ≡ false
unfolding some_counter
no_counter q e writable = or_false_left (q writable) (q executable) (or_false_left (q writable || q executable) (q linked) e)
no_counter q e executable = or_false_right (q writable) (q executable) (or_false_left (q writable || q executable) (q linked) e)
no_counter q e linked = or_false_right (q writable || q executable) (q linked) e

pub some_counter_found : (q : Counter → Bool) → some_counter q ≡ true → (c : Counter) × (q c ≡ true)
unfolding some_counter
some_counter_found q h =
    ⊎_elim (λ (t : (q writable || q executable) ≡ true). ⊎_elim (λ (u : q writable ≡ true). (writable, u)) (λ (u : q executable ≡ true). (executable, u)) (or_cases (q writable) (q executable) t))
    (λ (t : q linked ≡ true). (linked, t))
    (or_cases (q writable || q executable) (q linked) h)

pub some_counter_hit : (q : Counter → Bool) (c : Counter) → q c ≡ true → some_counter q ≡ true
unfolding some_counter
some_counter_hit q writable h = rw h refl
some_counter_hit q executable h = rw (h, or-true (q writable)) refl
some_counter_hit q linked h = rw h (or-true (q writable || q executable))

module _ {h : Told} {s : Store} (r : Running h s) where
  -- the ledger's types are those told
  pub type_told : (p : ℕ) → base s ≤ p → p < base s + blocks s → type_of s p ≡ h.types p
  type_told p lo hi = let e : base s + (p - base s) ≡ p = omega arith in r.types_are (p - base s) (omega arith) ∙ ap h.types e

  -- 2 and 5 do not apply
  pub types_told : (v : Level) (p t : ℕ) → table_outside v s p ≡ false → other_type v s p t ≡ false → (k : ℕ) → k < table_blocks v → h.types (p + k) ≡ t
  types_told v p t o e k l =
      let (lo, hi) = within (base s) (blocks s) p (table_blocks v) o in
      sym (type_told (p + k) (omega arith) (omega arith)) ∙ equal (type_of s (p + k)) t (no_block p (table_blocks v) (λ b. neqb (type_of s b) t) e k l)

  -- 12 does not apply to a block: it is signed, since a mark is believed
  pub known_signed : (b : ℕ) → b < blocks s → unknown h.golden s (base s + b) ≡ false → signed_at (base s) h s.memory b ≡ true
  unfolding unknown
  known_signed b l e = go (marked s (base s + b)) refl e where
    at : base s + b - base s ≡ b
    at = omega arith

    go : (t : Bool) → marked s (base s + b) ≡ t → (not t && not (signed_at (base s) h s.memory b)) ≡ false → signed_at (base s) h s.memory b ≡ true
    go true is e = r.believed b l (rw at at (eqb-true (record_word s.ledger mark_word (base s + b - base s)) mark_value is))
    go false is e = not-false (signed_at (base s) h s.memory b) e

-- One step

-- from one store to another a block becomes writable only where write is granted, and marked only where it can be executed
pub record Grows (granted : ℕ → Bool) (s after : Store) : Type 0 where
  pub writes : (b : ℕ) → b < blocks s → 0 < recorded after writable b → (0 < recorded s writable b) ⊎ (granted (base s + b) ≡ true)
  pub marks : (b : ℕ) → b < blocks s → MarkedAt after b → MarkedAt s b ⊎ (0 < recorded after executable b)
  pub same_blocks : blocks after ≡ blocks s

-- a ledger with the same counters and no other mark
pub grows_none : (granted : ℕ → Bool) (s after : Store) → OnlyMarks s.ledger after.ledger → ((b : ℕ) → b < blocks s → MarkedAt after b → MarkedAt s b) → blocks after ≡ blocks s
    → Grows granted s after
grows_none granted s after only marks same = record { writes = λ b l w. inl (rw (only.counter_is writable b) at w); marks = λ b l k. inl (marks b l k); same_blocks = same }

-- the state after a call that tells h'
pub record Goes (granted : ℕ → Bool) (h' : Told) (s after : Store) : Type 0 where
  pub runs : Running h' after
  pub grows : Grows granted s after

-- a step from a running state: neither 13 nor 24, and it runs on
pub record Next (h : Told) (s : Store) (step : Step) (o : Outcome) : Type 0 where
  pub not_13 : o.answer ≢ 13
  pub not_24 : o.answer ≢ 24
  pub runs : Running (after_answer o.answer h step) o.after
  pub grows : ((o.answer ≡ 0) × Grows (grants_write s step) s o.after) ⊎ (o.after ≡ s)

pub next-blocks : {h : Told} {s : Store} {step : Step} {o : Outcome} → Next h s step o → blocks o.after ≡ blocks s
next-blocks {h} {s} {step} {o} n = ⊎_elim (λ (g : (o.answer ≡ 0) × Grows (grants_write s step) s o.after). g.1.same_blocks) (ap blocks) n.grows

-- an accepted call leaves and tells what it says, a refused one nothing
pub next : {h : Told} {s : Store} (step : Step) (new : Accepted) (k : ℕ) → Running h s → k ≢ 13 → k ≢ 24 → (k ≡ 0 → Goes (grants_write s step) (after_accepted h step) s new.store)
    → Next h s step (settle k s new)
unfolding after_answer settle
next step new zero r n13 n24 goes = record { not_13 = n13; not_24 = n24; runs = (goes refl).runs; grows = inl (refl, (goes refl).grows) }
next step new (suc k) r n13 n24 goes = record { not_13 = n13; not_24 = n24; runs = r; grows = inr refl }

-- the same for a call whose last refusal is 13, which does not arise where the others do not
pub next_13 : {h : Told} {s : Store} (step : Step) (after : Accepted) (rs : List Refusal) → Running h s → Avoids 0 rs → Avoids 13 (front rs) → Avoids 24 rs
    → (Passed (front rs) → (last_test rs ≡ false) × Goes (grants_write s step) (after_accepted h step) s after.store) → Next h s step (call_outcome rs s after)
next_13 step after rs r n0 n13 n24 new =
    next step after (answer_of rs) r (last_avoided 13 rs (λ e. omega arith) n13 (λ t. (new t).0)) (avoided 24 rs (λ e. omega arith) n24)
    (λ e. (new (passed_front rs (passed rs n0 e))).1)

-- an accepted call leaves the new store and gives its byte
pub settle_keeps : (P : Store → Type 0) (s : Store) (new : Accepted) (k : ℕ) → P s → (k ≡ 0 → P new.store) → P (settle k s new).after
unfolding settle
settle_keeps P s new zero old kept = kept refl
settle_keeps P s new (suc k) old kept = old

pub settle_accepted : (s : Store) (new : Accepted) (k : ℕ) → (settle k s new).answer ≡ 0 → (k ≡ 0) × ((settle k s new).after ≡ new.store) × ((settle k s new).byte ≡ new.byte)
unfolding settle
settle_accepted s new zero e = (refl, refl, refl)
settle_accepted s new (suc k) e = let z : ⊥ = omega arith in absurd z
