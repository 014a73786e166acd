-- The policies (RULES: policies) hold of a running state: a walk ends at an entry of the tables that grants what the walk grants, and
-- that entry is counted, so the counters' claims are claims about walks.
use mathlib.Core.Bool.{true}
use mathlib.Core.List.{List}
use mathlib.Core.Logic.{◌≢◌, ◌⊎◌, inl, inr, ⊎_elim}
use mathlib.Core.Path.{◌≡◌, refl, sym, ◌∙◌}
use Prim.Native.Nat.{ℕ, ◌+◌, ◌-◌, ◌*◌, ◌/◌, ◌%◌, ◌^◌, ◌<◌}
use native.Mathlib.Decide.{ℕ_discrete}
use native.Mathlib.Omega.{arith}
use lib.ListN.{set}
use Rattle.words.proofs.Lists.{get_or-part}
use Rattle.entries.specs.Entries.{Entry, Level, l1, l2, entry_at, rights}
use Rattle.entries.specs.Rights.{Right, write, execute, allows}
use Rattle.rules.specs.Refusals.{answer_of}
use Rattle.rules.specs.Store.{block_bytes, block_words, Store, blocks, base, Counter, writable, executable}
use Rattle.rules.specs.Signature.{contents}
use Rattle.rules.specs.Tables.{type_d, type_code, grants}
use Rattle.rules.specs.Guest.{byte_index, Access, reads, fetches, writes, needed, active_walk, guest_refusals, written, byte_given, guest_accepted, guest_outcome}
use Rattle.rules.specs.Steps.{Told}
use Rattle.rules.specs.Demand3.{counted}
use Rattle.rules.specs.Policies.{ActiveSwitchable, Accessible, Exclusive, InWorkingSet, Integrity, AltersWritableOnly, KeepsExecutable, KeepsWorkingSet, KeepsWalks, FetchedCode}
use Rattle.rules.proofs.Memory.{contents_entry, contents-set}
use Rattle.rules.proofs.State.{entry_of, Running, safe, settle_keeps, settle_accepted}
use Rattle.rules.proofs.Walk.{Reached, walk_sensible, walk_same}
use Rattle.rules.proofs.Guests.{Arrived, arrived, arrived-counted, guest_guarded}

-- c counts entries for block p, which is in the region
record Counted (h : Told) (s : Store) (c : Counter) (p : ℕ) : Type 0 where
  block : ℕ
  is : h.B + block ≡ p
  inside : block < blocks s
  some_entry : 0 < counted h s c block

not_data : (v : Level) → type_code v ≢ type_d
not_data l1 e = omega arith
not_data l2 e = omega arith

module _ {h : Told} {s : Store} (r : Running h s) where
  -- What a walk grants at a moment

  accessible_counted : (c : Counter) (right : Right) → ((e : Entry) → grants c e ≡ allows (rights e) right) → (p : ℕ) → Accessible h s right p → Counted h s c p
  accessible_counted c right is p a =
      let end = walk_sensible r a.address a.table (rw r.told-base at a.switchable) in
      let e : Reached (base s) (blocks s) (entry_of (base s) h s.memory) p a.rights = rw (rw r.told-base at a.walked) at end in
      let granted : grants c (entry_of (base s) h s.memory e.word) ≡ true = is _ ∙ rw e.has a.allowed in
      let low = e.low in
      let high = e.high in
      let based = r.told-base in
      let within : p - base s < blocks s = omega arith in
      record { block = p - base s; is = omega arith; inside = within; some_entry = rw (← (safe r).honest c (p - base s) within) (arrived-counted r c e granted).0 }

  writable_counted : (b : ℕ) → Accessible h s write (h.B + b) → 0 < counted h s writable b
  unfolding grants
  writable_counted b a =
      let w = accessible_counted writable write (λ e. refl) (h.B + b) a in
      let same : w.block ≡ b = omega (arith, w.is) in
      rw same at w.some_entry

  executable_counted : (p : ℕ) → InWorkingSet h s p → Counted h s executable p
  unfolding grants
  executable_counted = accessible_counted executable execute (λ e. refl)

  pub exclusive : Exclusive h s
  exclusive p as_data as_code =
      let x = executable_counted p as_code in
      (safe r).exclusive x.block x.inside (writable_counted x.block (rw x.is as_data)) x.some_entry

  pub integrity : Integrity h s
  integrity p as_code =
      let x = executable_counted p as_code in
      rw x.is at ((safe r).signs x.block x.inside x.some_entry)

  pub active : ActiveSwitchable h s
  active p e = rw r.told-base (r.root p e)

  -- What a guest step does

  -- an accepted access is through the table of the last accepted switch
  arrived_accessible : (a : Access) (addr : ℕ) (t : Arrived h s a addr) → Accessible h s (needed a) t.block
  arrived_accessible a addr t =
      record {
        table = t.table;
        address = addr;
        level = t.level;
        rights = t.given;
        switchable = active t.table t.switched;
        walked = rw r.told-base (rw t.actives at t.walked);
        allowed = t.allowed;
      }

  access_alters : (a : Access) (addr : ℕ) → Arrived h s a addr → AltersWritableOnly h s (guest_accepted a s addr).store
  unfolding written byte_index needed
  access_alters reads addr t b l = inl refl
  access_alters fetches addr t b l = inl refl
  access_alters (writes v) addr t b l = rw t.walked (go (ℕ_discrete (t.block - base s) b)) where
    j : ℕ
    j = block_bytes * (t.block - base s) + addr % block_bytes

    go : Dec (t.block - base s ≡ b) → (contents (set s.memory j (v % 2 ^ 8)) b ≡ contents s.memory b) ⊎ Accessible h s write (h.B + b)
    go (yes e) =
        let low = t.reached.low in
        let based = r.told-base in
        let is : t.block ≡ h.B + b = omega arith in
        inr (rw is at (arrived_accessible (writes v) addr t))
    go (no o) = inl (contents-set s.memory j (v % 2 ^ 8) b (λ k. omega arith))

  pub guest_alters : (a : Access) (registers : List ℕ) (addr : ℕ) → AltersWritableOnly h s (guest_outcome a s registers addr).after
  unfolding guest_outcome
  guest_alters a registers addr =
      settle_keeps (AltersWritableOnly h s) s (guest_accepted a s addr) (answer_of (guest_refusals a s registers addr))
      (λ b l. inl refl) (λ e. access_alters a addr (arrived r a registers addr e))

  -- what is written is not executable
  pub guest_keeps_executable : (a : Access) (registers : List ℕ) (addr : ℕ) → KeepsExecutable h s (guest_outcome a s registers addr).after
  guest_keeps_executable a registers addr b l x =
      ⊎_elim (λ same. same) (λ as_data. absurd ((safe r).exclusive b l (writable_counted b as_data) x)) (guest_alters a registers addr b l)

  pub guest_keeps_working_set : (a : Access) (registers : List ℕ) (addr : ℕ) → KeepsWorkingSet h s (guest_outcome a s registers addr).after
  guest_keeps_working_set a registers addr p as_code =
      let x = executable_counted p as_code in
      let at : p - h.B ≡ x.block = omega (arith, x.is) in
      rw at (guest_keeps_executable a registers addr x.block x.inside x.some_entry)

  -- no table is written, so that every walk reads the entries it read before
  pub guest_keeps_walks : (a : Access) (registers : List ℕ) (addr : ℕ) → KeepsWalks h s (guest_outcome a s registers addr).after
  guest_keeps_walks a registers addr table va root =
      rw r.told-base (walk_same r va mem kept table (rw r.told-base at root)) where
        mem : List ℕ
        mem = (guest_outcome a s registers addr).after.memory

        kept : (v : Level) (j : ℕ) → (j < block_words * blocks s) × (h.types (base s + j / block_words) ≡ type_code v) → entry_at v mem j ≡ entry_at v s.memory j
        kept v j (inside, typed) =
            let b = j / block_words in
            contents_entry v mem s.memory b j (guest_guarded r a registers addr b (omega arith) (λ z. not_data v (sym typed ∙ rw r.told-base at z))) refl

  -- what is fetched is executed
  fetches_code : (addr : ℕ) → Arrived h s fetches addr → FetchedCode h s addr (byte_given fetches s.memory (byte_index (base s) addr (active_walk s addr)))
  unfolding byte_given byte_index needed
  fetches_code addr t =
      let as_code = arrived_accessible fetches addr t in
      record {
        block = t.block;
        executes = as_code;
        taken = rw (t.walked, r.told-base) (sym (get_or-part s.memory (block_bytes * (t.block - base s)) block_bytes (addr % block_bytes) (omega arith)));
        signs = integrity t.block as_code;
      }

  pub guest_fetches_code : (registers : List ℕ) (addr : ℕ) → (guest_outcome fetches s registers addr).answer ≡ 0 → FetchedCode h s addr (guest_outcome fetches s registers addr).byte
  unfolding guest_outcome
  guest_fetches_code registers addr e =
      let (accepted, _, byte) =
      settle_accepted s (guest_accepted fetches s addr) (answer_of (guest_refusals fetches s registers addr)) e in
      rw byte (fetches_code addr (arrived r fetches registers addr accepted))
