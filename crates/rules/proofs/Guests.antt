-- The guest's accesses keep the invariant: what the guest writes into is writable, so it is data and cannot be executed.
use mathlib.Core.Bool.{Bool, true, false, false≢true}
use mathlib.Core.List.{List, ◌∷◌}
use mathlib.Core.Logic.{◌≢◌}
use mathlib.Core.Option.{Option, none, some}
use mathlib.Core.Path.{◌≡◌, refl, sym, ◌∙◌, ap, subst}
use Prim.Native.Nat.{ℕ, ◌+◌, ◌-◌, ◌*◌, ◌/◌, ◌%◌, ◌^◌, ◌<◌, ◌≤◌}
use native.Mathlib.Decide.{ℕ_discrete}
use native.Mathlib.Omega.{arith}
use lib.ListN.{set, length-set}
use lib.Seq.{get_or-set_other}
use borrow.Author.Tests.{not-false}
use Rattle.words.specs.Words.{word}
use Rattle.words.proofs.Bounded.{or_false_left}
use Rattle.words.proofs.Words.{word_cong}
use Rattle.entries.specs.Entries.{Entry, Level, l1}
use Rattle.entries.specs.Rights.{allows}
use Rattle.entries.proofs.Decoding.{entry_at_cong}
use Rattle.rules.specs.Refusals.{Refusal, ◌if◌, answer_of}
use Rattle.rules.specs.Store.{block_bytes, block_words, base_place, active_place, Store, blocks, base, active, record_word, Counter, writable, executable, counter_word, mark_word, mark_value, clear_mark, misfit_stored}
use Rattle.rules.specs.Signature.{contents}
use Rattle.rules.specs.Tables.{type_d, table_blocks, grants, gives}
use Rattle.rules.specs.General.{table_outside, misaligned}
use Rattle.rules.specs.Registers.{misfit_registers}
use Rattle.rules.specs.Guest.{Walk, stops, ends, byte_index, Access, reads, fetches, writes, needed, walk_refusals, no_active_table, active_walk, guest_refusals, written, unmarked, byte_given, guest_accepted, guest_outcome}
use Rattle.rules.specs.Steps.{accesses, Told, after_accepted}
use Rattle.rules.specs.Demand3.{KeepsTables, Fetched}
use Rattle.rules.specs.Box.{grants_write, untold}
use Rattle.rules.proofs.Refusals.{Passed, Avoids, now, rest, passed, avoided}
use Rattle.rules.proofs.Memory.{contents-set, signed_block_same}
use Rattle.rules.proofs.Consistent.{Suits, counted, still}
use Rattle.rules.proofs.Ledger.{OnlyMarks, marks_none, marks_clear, mark_cleared, mark_clear_other}
use Rattle.rules.proofs.State.{within, fit_same, entry_of, active_word, signed_at, recorded, MarkedAt, Running, running, Goes, grows_none, Next, next, settle_keeps, settle_accepted}
use Rattle.rules.proofs.Tables.{entry_of_data, typed_entry_same}
use Rattle.rules.proofs.Walk.{Reached, Sensible, walk_sensible}

-- the numbers at a walk's end
walk_avoids : (B n : ℕ) (E : ℕ → Entry) (a : Access) (w : Walk) → Sensible B n E w → (k : ℕ) → 22 ≢ k → 23 ≢ k → Avoids k (walk_refusals a w)
unfolding walk_refusals
walk_avoids B n E a (stops v j) e k n22 n23 = (λ q. n22 (sym e ∙ q), tt)
walk_avoids B n E a (ends v p r) e k n22 n23 = (n23, tt)

-- 21 answers before the walk does
barred : (t u : Bool) (rs : List Refusal) (k : ℕ) → 1 ≢ k → 21 ≢ k → answer_of (1 if t ∷ 1 if u ∷ 21 if true ∷ rs) ≢ k
unfolding answer_of
barred true u rs k n1 n21 = n1
barred false true rs k n1 n21 = n1
barred false false rs k n1 n21 = n21

-- an accepted access: the table switched to, the walk's end, and the right that the access needs
pub record Arrived (h : Told) (s : Store) (a : Access) (addr : ℕ) : Type 0 where
  pub table : ℕ
  pub level : Level
  pub block : ℕ
  pub given : ℕ
  pub switched : h.table ≡ some table
  pub actives : active s ≡ table
  pub walked : active_walk s addr ≡ ends level block given
  pub allowed : allows given (needed a) ≡ true
  pub reached : Reached (base s) (blocks s) (entry_of (base s) h s.memory) block given

module _ {h : Told} {s : Store} (r : Running h s) where
  -- 21 does not apply: there was a switch
  the_table : no_active_table s ≡ false → (p : ℕ) × (h.table ≡ some p) × (active s ≡ p)
  the_table e = go h.table refl where
    inside : active s + table_blocks l1 ≤ base s + blocks s
    inside = (within (base s) (blocks s) (active s) (table_blocks l1) (or_false_left (table_outside l1 s (active s)) (misaligned (active s) (table_blocks l1)) e)).1

    go : (t : Option ℕ) → h.table ≡ t → (p : ℕ) × (h.table ≡ some p) × (active s ≡ p)
    go none q = let z : ⊥ = omega (arith, inside, r.fit, r.active_is ∙ ap active_word q) in absurd z
    go (some p) q = (p, q, r.active_is ∙ ap active_word q)

  module _ (a : Access) (registers : List ℕ) (addr : ℕ) where
    sensible : no_active_table s ≡ false → Sensible (base s) (blocks s) (entry_of (base s) h s.memory) (active_walk s addr)
    sensible e = let (p, q, is) = the_table e in rw is (walk_sensible r addr p (r.root p q))

    -- no other number answers
    guest_avoids : (k : ℕ) → (0 ≢ k) × (1 ≢ k) × (21 ≢ k) × (22 ≢ k) × (23 ≢ k) → answer_of (guest_refusals a s registers addr) ≢ k
    guest_avoids k (n0, n1, n21, n22, n23) = go (no_active_table s) refl where
      go : (t : Bool) → no_active_table s ≡ t → answer_of (1 if misfit_stored s ∷ 1 if misfit_registers registers ∷ 21 if t ∷ walk_refusals a (active_walk s addr)) ≢ k
      go true e = barred (misfit_stored s) (misfit_registers registers) (walk_refusals a (active_walk s addr)) k n1 n21
      go false e =
          avoided k (1 if misfit_stored s ∷ 1 if misfit_registers registers ∷ 21 if false ∷ walk_refusals a (active_walk s addr)) n0
          (n1, (n1, (n21, walk_avoids (base s) (blocks s) (entry_of (base s) h s.memory) a (active_walk s addr) (sensible e) k n22 n23)))

    arrives : no_active_table s ≡ false → (w : Walk) → active_walk s addr ≡ w → Passed (walk_refusals a w) → Arrived h s a addr
    unfolding walk_refusals
    arrives e (stops v k) q t = absurd (false≢true (sym (now t)))
    arrives e (ends v p w) q t =
        let (table, switched, actives) = the_table e in
        record { table = table; level = v; block = p; given = w; switched = switched; actives = actives; walked = q; allowed = not-false (allows w (needed a)) (now t); reached = rw q at (sensible e) }

    pub arrived : answer_of (guest_refusals a s registers addr) ≡ 0 → Arrived h s a addr
    arrived accepted = go (no_active_table s) refl where
      go : (t : Bool) → no_active_table s ≡ t → Arrived h s a addr
      go true e = absurd (barred (misfit_stored s) (misfit_registers registers) (walk_refusals a (active_walk s addr)) 0 (λ q. omega arith) (λ q. omega arith) (rw e at accepted))
      go false e =
          let numbered = walk_avoids (base s) (blocks s) (entry_of (base s) h s.memory) a (active_walk s addr) (sensible e) 0 (λ q. omega arith) (λ q. omega arith) in
          let t = passed (guest_refusals a s registers addr) ((λ q. omega arith), ((λ q. omega arith), ((λ q. omega arith), numbered))) accepted in
          arrives e (active_walk s addr) refl (rest (rest (rest t)))

  -- the entry that a walk ended at is counted for what it grants
  pub arrived-counted : (c : Counter) {p w : ℕ} (e : Reached (base s) (blocks s) (entry_of (base s) h s.memory) p w)
      → grants c (entry_of (base s) h s.memory e.word) ≡ true → (0 < record_word s.ledger (counter_word c) (p - base s)) × Suits c (h.types p)
  unfolding gives
  arrived-counted c {p} {w} e g =
      let low = e.low in
      let high = e.high in
      let inside : p - base s < blocks s = omega arith in
      let is : base s + (p - base s) ≡ p = omega arith in
      let gave : gives c (entry_of (base s) h s.memory e.word) (base s + (p - base s)) ≡ true = rw (is, g, e.reaches) refl in
      (counted r.consistent c (p - base s) e.word inside e.in_memory gave, subst (λ (q : ℕ). Suits c (h.types q)) is ((r.consistent.sound e.word e.in_memory).suits c (p - base s) inside gave))

  -- a byte written into data that cannot be executed
  module _ (b j v : ℕ) (in_block : j / block_bytes ≡ b) (free : h.types (base s + b) ≡ type_d) (unexecuted : record_word s.ledger (counter_word executable) b ≡ 0) where
    other_contents : (c : ℕ) → b ≢ c → contents (set s.memory j v) c ≡ contents s.memory c
    other_contents c o = contents-set s.memory j v c (λ l. omega arith)

    same_entry : (i : ℕ) → entry_of (base s) h (set s.memory j v) i ≡ entry_of (base s) h s.memory i
    same_entry i = go (ℕ_discrete (i / block_words) b) where
      go : Dec (i / block_words ≡ b) → entry_of (base s) h (set s.memory j v) i ≡ entry_of (base s) h s.memory i
      go (yes e) =
          let q : base s + i / block_words ≡ base s + b = ap (λ (x : ℕ). base s + x) e in
          entry_of_data (base s) h (set s.memory j v) i (base s + b) q free ∙ sym (entry_of_data (base s) h s.memory i (base s + b) q free)
      go (no o) = typed_entry_same (set s.memory j v) s.memory i (λ l. entry_at_cong l (set s.memory j v) s.memory i away) (h.types (base s + i / block_words)) where
        away : (k : ℕ) → k / 16 ≡ i / 16 → word (set s.memory j v) (4 * k) ≡ word s.memory (4 * k)
        away k e = word_cong (set s.memory j v) s.memory (4 * k) (λ x lo hi. get_or-set_other s.memory j x v 0 (λ q. o (omega arith)))

    same_signed : (c : ℕ) → b ≢ c → signed_at (base s) h (set s.memory j v) c ≡ signed_at (base s) h s.memory c
    same_signed c o = signed_block_same h.golden (base s) (set s.memory j v) s.memory c (other_contents c o)

    -- with a ledger that differs in marks only, and has no mark of this block, nor one that was not there
    module _ (led : List ℕ) (only : OnlyMarks s.ledger led) (marks : (c : ℕ) → c < blocks s → record_word led mark_word c ≡ mark_value → (b ≢ c) × MarkedAt s c) where
      wrote : Store
      wrote = record { memory = set s.memory j v; ledger = led }

      write_runs : Running h wrote
      unfolding wrote
      write_runs = running (record {
        told-base = r.told-base;
        fit = fit_same wrote r.fit (length-set s.memory j v) only.length_is;
        base_is = only.head_is base_place (omega arith);
        active_is = only.head_is active_place (omega arith) ∙ r.active_is;
        kinds_are = only.kinds_are ∙ r.kinds_are;
        kinds_lawful = r.kinds_lawful;
        types_are = λ c l. only.type_is c ∙ r.types_are c l;
        root = r.root;
        consistent = still r.consistent (λ i l. same_entry i) (λ c l x. same_signed c (λ q. omega (arith, x, rw q at unexecuted))) (λ c d l. only.counter_is c d);
        believed = λ c l k. let (other, was) = marks c l k in same_signed c other ∙ r.believed c l was;
      })

  -- an accepted write: its place, and the block in which it lies
  pub record Wrote (addr : ℕ) : Type 0 where
    pub place : ℕ
    pub inside : place / block_bytes < blocks s
    pub counted_write : 0 < recorded s writable (place / block_bytes)
    pub is_data : h.types (base s + place / block_bytes) ≡ type_d
    pub unexecuted : recorded s executable (place / block_bytes) ≡ 0
    pub place_is : byte_index (base s) addr (active_walk s addr) ≡ place

  wrote_at : (v addr : ℕ) → Arrived h s (writes v) addr → Wrote addr
  unfolding byte_index needed grants
  wrote_at v addr t =
      let e = t.reached in
      let low = e.low in
      let high = e.high in
      let (counts, is_data) = arrived-counted writable e (rw e.has t.allowed) in
      let b = t.block - base s in
      let j = block_bytes * b + addr % block_bytes in
      let is : base s + b ≡ t.block = omega arith in
      let in_block : b ≡ j / block_bytes = omega arith in
      record {
        place = j;
        inside = omega arith;
        counted_write = subst (λ (c : ℕ). 0 < recorded s writable c) in_block counts;
        is_data = subst (λ (c : ℕ). h.types (base s + c) ≡ type_d) in_block (rw is is_data);
        unexecuted = subst (λ (c : ℕ). recorded s executable c ≡ 0) in_block (r.consistent.exclusive b (omega arith) counts);
        place_is = rw t.walked refl;
      }

  module _ (v addr : ℕ) (w : Wrote addr) where
    abbrev own : ℕ
    own = w.place / block_bytes

    write_guards : (led : List ℕ) → KeepsTables h s (record { memory = set s.memory w.place (v % 2 ^ 8); ledger = led })
    write_guards led c l table = other_contents own w.place (v % 2 ^ 8) refl w.is_data w.unexecuted c (λ q. table (rw (r.told-base, ← q) w.is_data))

    -- the call clears the mark
    cleared_marks : (c : ℕ) → c < blocks s → record_word (clear_mark s.ledger own) mark_word c ≡ mark_value → (own ≢ c) × MarkedAt s c
    cleared_marks c l k = (other, sym (mark_clear_other s.ledger own c other) ∙ k) where
      other : own ≢ c
      other q = omega (arith, rw (← q) at k, mark_cleared s.ledger own (blocks s) r.fit.ledger_length w.inside)

  -- an accepted access runs on and leaves the tables alone
  guest_keeps : (a : Access) (addr : ℕ) (granted : ℕ → Bool) → Arrived h s a addr → Goes granted h s (guest_accepted a s addr).store × KeepsTables h s (guest_accepted a s addr).store
  unfolding written unmarked wrote
  guest_keeps reads addr granted t = (record { runs = r; grows = grows_none granted s s (marks_none s.ledger) (λ b l k. k) refl }, λ b l n. refl)
  guest_keeps fetches addr granted t = (record { runs = r; grows = grows_none granted s s (marks_none s.ledger) (λ b l k. k) refl }, λ b l n. refl)
  guest_keeps (writes v) addr granted t =
      let w = wrote_at v addr t in
      let b = own v addr w in
      let only = marks_clear s.ledger b in
      let marks = cleared_marks v addr w in
      let after : Store = record { memory = set s.memory w.place (v % 2 ^ 8); ledger = clear_mark s.ledger b } in
      rw w.place_is (
        record {
          runs = write_runs b w.place (v % 2 ^ 8) refl w.is_data w.unexecuted (clear_mark s.ledger b) only marks;
          grows = grows_none granted s after only (λ c l k. (marks c l k).1) (ap (λ (x : ℕ). x / block_bytes) (length-set s.memory w.place (v % 2 ^ 8)));
        },
        write_guards v addr w (clear_mark s.ledger b),
      )

  -- the processor's own access, which leaves the ledger as it was, if it writes into no marked block
  guest_keeps_unmarked : (a : Access) (addr : ℕ) → Arrived h s a addr → ((b : ℕ) → b < blocks s → 0 < recorded s writable b → MarkedAt s b → ⊥)
      → (let after : Store = record { memory = (guest_accepted a s addr).store.memory; ledger = s.ledger } in Running h after × KeepsTables h s after)
  unfolding written wrote
  guest_keeps_unmarked reads addr t spared = (r, λ b l n. refl)
  guest_keeps_unmarked fetches addr t spared = (r, λ b l n. refl)
  guest_keeps_unmarked (writes v) addr t spared =
      let w = wrote_at v addr t in
      let b = own v addr w in
      rw w.place_is (
        write_runs b w.place (v % 2 ^ 8) refl w.is_data w.unexecuted s.ledger (marks_none s.ledger) (λ c l k. (λ q. spared b w.inside w.counted_write (rw (← q) at k), k)),
        write_guards v addr w s.ledger,
      )

  -- an accepted fetch
  guest_fetches : (addr : ℕ) → Arrived h s fetches addr → Fetched h s addr (byte_given fetches s.memory (byte_index (base s) addr (active_walk s addr)))
  unfolding byte_given needed grants
  guest_fetches addr t =
      let e = t.reached in
      let (runs, _) = arrived-counted executable e (rw e.has t.allowed) in
      let low = e.low in
      let high = e.high in
      let is : base s + (t.block - base s) ≡ t.block = omega arith in
      record {
        table = t.table;
        level = t.level;
        block = t.block;
        rights = t.given;
        switched = t.switched;
        walked = rw r.told-base (rw t.actives at t.walked);
        inside = rw r.told-base (low, high);
        taken = rw (r.told-base, t.walked) refl;
        signs = rw r.told-base (rw is at (r.consistent.signs (t.block - base s) (omega arith) runs));
      }

  pub guest_next : (a : Access) (registers : List ℕ) (addr : ℕ) → Next h s (accesses a registers addr) (guest_outcome a s registers addr)
  unfolding guest_outcome after_accepted
  guest_next a registers addr =
      next (accesses a registers addr) (guest_accepted a s addr) (answer_of (guest_refusals a s registers addr)) r
      (guest_avoids a registers addr 13 (omega arith))
      (guest_avoids a registers addr 24 (omega arith))
      (λ e. (guest_keeps a addr (grants_write s (accesses a registers addr)) (arrived a registers addr e)).0)

  pub guest_guarded : (a : Access) (registers : List ℕ) (addr : ℕ) → KeepsTables h s (guest_outcome a s registers addr).after
  unfolding guest_outcome
  guest_guarded a registers addr =
      settle_keeps (KeepsTables h s) s (guest_accepted a s addr) (answer_of (guest_refusals a s registers addr))
      (λ b l n. refl) (λ e. (guest_keeps a addr (λ q. false) (arrived a registers addr e)).1)

  -- the same for the processor's own
  pub guest_next_unmarked : (a : Access) (registers : List ℕ) (addr : ℕ) → ((b : ℕ) → b < blocks s → 0 < recorded s writable b → MarkedAt s b → ⊥)
      → (let after = (untold s (guest_outcome a s registers addr)).after in Running h after × KeepsTables h s after)
  unfolding guest_outcome
  guest_next_unmarked a registers addr spared =
      settle_keeps (λ now. let after : Store = record { memory = now.memory; ledger = s.ledger } in Running h after × KeepsTables h s after) s (guest_accepted a s addr) (answer_of (guest_refusals a s registers addr))
      (r, λ b l n. refl) (λ e. guest_keeps_unmarked a addr (arrived a registers addr e) spared)

  pub guest_fetched : (registers : List ℕ) (addr : ℕ) → (guest_outcome fetches s registers addr).answer ≡ 0 → Fetched h s addr (guest_outcome fetches s registers addr).byte
  unfolding guest_outcome
  guest_fetched registers addr e =
      let (accepted, _, byte) =
      settle_accepted s (guest_accepted fetches s addr) (answer_of (guest_refusals fetches s registers addr)) e in
      rw byte (guest_fetches addr (arrived fetches registers addr accepted))
