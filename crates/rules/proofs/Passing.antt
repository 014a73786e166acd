-- What passes the tests that many calls share: a running state is lent as the rules want it, and its ledger has the types told. A switch,
-- a guest's access and a forget of the whole region have no others.
use mathlib.Core.Bool.{Bool, true, false, not, and-false}
use mathlib.Core.List.{List, [], ◌∷◌, ◌++◌}
use mathlib.Core.Option.{some}
use mathlib.Core.Path.{◌≡◌, refl, sym, ◌∙◌, ap}
use Prim.Native.Nat.{ℕ, zero, suc, ◌+◌, ◌*◌, ◌%◌, ◌<◌, ◌≤◌}
use native.Mathlib.Nat.{add-zero}
use native.Mathlib.Omega.{arith}
use lib.ListN.{length}
use borrow.Author.Tests.{le-ltb}
use Rattle.words.specs.Bounded.{any, neqb, above}
use Rattle.words.proofs.Bounded.{any_avoids, same}
use Rattle.entries.specs.Entries.{Level, l1}
use Rattle.entries.specs.Rights.{allows}
use Rattle.rules.specs.Refusals.{Refusal, ◌if◌, answer_of}
use Rattle.rules.specs.Store.{block_bytes, least_blocks, most_blocks, base_alignment, physical_blocks, ledger_head_bytes, ledger_record_bytes, Store, blocks, base, active, type_of, some_block, misfit, misfit_stored}
use Rattle.rules.specs.Outcomes.{Outcome, Accepted, leaving, settle, call_outcome}
use Rattle.rules.specs.Tables.{type_code, table_blocks}
use Rattle.rules.specs.General.{other_type}
use Rattle.rules.specs.Forget.{forget_outcome, stray_blocks}
use Rattle.rules.specs.Switch.{switch_refusals, switch_after, switch_outcome}
use Rattle.rules.specs.Registers.{misfit_registers}
use Rattle.rules.specs.Guest.{ends, walk, Access, needed, walk_refusals, no_active_table, active_walk, guest_refusals, guest_accepted, guest_outcome}
use Rattle.rules.specs.Steps.{Step, switches, obey, Told, after_accepted, after_answer}
use Rattle.rules.specs.Policies.{Switchable, SwitchesToTables}
use Rattle.rules.proofs.Refusals.{Passed, done, step, passed, accepted, accepted_unless}
use Rattle.rules.proofs.State.{active_word, Running, inside, type_told, settle_accepted}
use Rattle.rules.proofs.Starting.{switch_runs}
use Rattle.rules.proofs.Demand3.{step_next}

pub settle_answer : (k : ℕ) (s : Store) (new : Accepted) → (settle k s new).answer ≡ k
unfolding settle
settle_answer zero s new = refl
settle_answer (suc k) s new = refl

-- an accepted call: it leaves this store, and the state goes on
pub record Taken (h : Told) (s : Store) (call : Step) (after : Store) : Type 0 where
  pub accepted : (obey h.golden s call).answer ≡ 0
  pub leaves : (obey h.golden s call).after ≡ after
  pub runs : Running (after_accepted h call) (obey h.golden s call).after

took : {h : Told} {s : Store} → Running h s → (call : Step) (k : ℕ) (new : Accepted) → obey h.golden s call ≡ settle k s new → (obey h.golden s call).answer ≡ 0
    → Taken h s call new.store
unfolding after_answer
took {h} {s} r call k new is zero_is =
    record {
      accepted = zero_is;
      leaves = ap (λ (o : Outcome). o.after) is ∙ (settle_accepted s new k (sym (ap (λ (o : Outcome). o.answer) is) ∙ zero_is)).1;
      runs = rw zero_is at (step_next r call).runs;
    }

-- a call passes every test but that of its last refusal, 13, which never arises
pub taken : {h : Told} {s : Store} → Running h s → (call : Step) {before : List Refusal} (last : Bool) (new : Accepted)
    → obey h.golden s call ≡ call_outcome (before ++ (13 if last ∷ [])) s new → Passed before → Taken h s call new.store
taken {h} {s} r call {before} last new is passes =
    let k = answer_of (before ++ (13 if last ∷ [])) in
    let answer_is : (obey h.golden s call).answer ≡ k = ap (λ (o : Outcome). o.answer) is ∙ settle_answer k s new in
    took r call k new is (answer_is ∙ accepted_unless 13 last passes (λ z. (step_next r call).not_13 (answer_is ∙ z)))

pub one_block : (p : ℕ) (q : ℕ → Bool) → q p ≡ false → some_block p 1 q ≡ false
unfolding some_block any
one_block p q e = rw (add-zero p) e

module _ {h : Told} {s : Store} (r : Running h s) where
  -- 1 does not apply
  pub no_misfit : misfit_stored s ≡ false
  unfolding misfit misfit_stored
  no_misfit =
      let f = r.fit in
      let n = blocks s in
      rw (
        same (length s.memory % block_bytes) 0 (omega arith),
        le-ltb n least_blocks f.at_least,
        le-ltb most_blocks n f.at_most,
        same (length s.ledger) (ledger_head_bytes + ledger_record_bytes * n) f.ledger_length,
        same (base s % base_alignment) 0 f.aligned,
        le-ltb physical_blocks (base s + n) f.physical,
        r.kinds_are,
        r.kinds_lawful,
      ) refl

  -- 5 does not apply
  pub right_type : (v : Level) (p t : ℕ) → base s ≤ p → p + table_blocks v ≤ base s + blocks s → ((k : ℕ) → k < table_blocks v → h.types (p + k) ≡ t) → other_type v s p t ≡ false
  unfolding some_block
  right_type v p t low high typed =
      any_avoids (λ k. neqb (type_of s (p + k)) t) (table_blocks v) (λ k l. same (type_of s (p + k)) t (type_told r (p + k) (omega arith) (omega arith) ∙ typed k l))

  pub switch_accepted : SwitchesToTables h s
  unfolding switch_outcome after_accepted
  switch_accepted p = (to_table, from_table) where
    to_table : (switch_outcome s p).answer ≡ 0 → Switchable h s p
    to_table e =
        let rs = switch_refusals s p in
        let (zero_is, _, _) = settle_accepted s (leaving (switch_after s p)) (answer_of rs) e in
        let after = switch_runs r p (passed rs (omega arith) zero_is) in
        rw after.told-base (after.root p refl)

    from_table : Switchable h s p → (switch_outcome s p).answer ≡ 0
    from_table table =
        let low : base s ≤ p = rw r.told-base at table.low in
        let high : p + table_blocks l1 ≤ base s + blocks s = rw r.told-base at table.high in
        settle_answer (answer_of (switch_refusals s p)) s (leaving (switch_after s p))
        ∙ accepted (step no_misfit (step (inside (base s) (blocks s) p (table_blocks l1) low high) (step (same (p % table_blocks l1) 0 table.aligned) (step (right_type l1 p (type_code l1) low high table.typed) done))))

  pub switch_taken : (p : ℕ) → Switchable h s p → Taken h s (switches p) (switch_after s p)
  unfolding obey switch_outcome
  switch_taken p table = took r (switches p) (answer_of (switch_refusals s p)) (leaving (switch_after s p)) refl ((switch_accepted p).1 table)

  -- the table in use leads to a block with the right that the access needs
  pub access_accepted : (a : Access) (registers : List ℕ) (addr : ℕ) {table : ℕ} {v : Level} {p q : ℕ} → h.table ≡ some table → walk h.B (blocks s) s.memory table addr ≡ ends v p q
      → misfit_registers registers ≡ false → allows q (needed a) ≡ true → (guest_outcome a s registers addr).answer ≡ 0
  unfolding guest_outcome walk_refusals
  access_accepted a registers addr {table} {v} {p} {q} in_use walked fits allowed =
      let root = r.root table in_use in
      let is : active s ≡ table = r.active_is ∙ ap active_word in_use in
      let unbarred : no_active_table s ≡ false = rw (is, inside (base s) (blocks s) table (table_blocks l1) root.low root.high, same (table % table_blocks l1) 0 root.aligned) refl in
      let at : active_walk s addr ≡ ends v p q = rw (is, ← r.told-base) walked in
      settle_answer (answer_of (guest_refusals a s registers addr)) s (guest_accepted a s addr) ∙ rw at (accepted (step no_misfit (step fits (step unbarred (step (ap not allowed) done)))))

  -- a forget of the whole region is accepted
  pub forget_whole : (forget_outcome s (base s) (blocks s)).answer ≡ 0
  unfolding forget_outcome stray_blocks
  forget_whole =
      settle_answer _ s _
      ∙ accepted (step no_misfit (step (rw (inside (base s) (blocks s) (base s) (blocks s) (omega arith) (omega arith)) (and-false (above (blocks s) 0))) done))
