-- Laws of the fault registers: which words a status can be, that a fault is read back as it was stored, and that nothing else is stored.
use mathlib.Core.Bool.{Bool, true, false}
use mathlib.Core.List.{List, [], ◌∷◌, map}
use mathlib.Core.Logic.{◌≢◌}
use mathlib.Core.Path.{◌≡◌, refl, ◌∙◌}
use Prim.Native.Nat.{ℕ, ◌+◌, ◌^◌, ◌<◌, ◌≤◌}
use native.Mathlib.Omega.{arith}
use lib.ListN.{length, get_or, set, length-set}
use lib.Seq.{get_or-set_other, get_or-set_same}
use borrow.Author.Tests.{ne_eqb}
use Rattle.words.specs.Words.{word, put_word}
use Rattle.words.proofs.Bounded.{same}
use Rattle.words.proofs.Words.{length-put_word, get_or-put_word_other, word_cong, word-put_word_same, word-put_word_other}
use Rattle.entries.specs.Entries.{Level, l1, l2}
use Rattle.rules.specs.Refusals.{Refusal, ◌if◌, answer_of}
use Rattle.rules.specs.Store.{Store, misfit_stored}
use Rattle.rules.specs.Outcomes.{settle}
use Rattle.rules.specs.Registers.{registers_bytes, Abort, data_abort, prefetch_abort, status_place, address_place, pending_place, misfit_registers, Fault, translation, permission, fault_code, status_word, put_fault, acknowledge_outcome, acknowledge_registers}
use Rattle.rules.specs.Guest.{Access, reads, fetches, writes, active_walk, walk_refusals, no_active_table, guest_refusals, guest_accepted, guest_outcome, raised, write_bit, walk_level, registers_after, guest_registers}
use Rattle.rules.proofs.State.{equal}
use Rattle.rules.proofs.Passing.{settle_answer}

-- registers 5: the statuses of the four faults
abbrev statuses : ℕ → List ℕ
statuses write = map (λ f. status_word (fault_code f) write) (translation l1 ∷ translation l2 ∷ permission l1 ∷ permission l2 ∷ [])

pub statuses_are : (statuses 0 ≡ (0x005 ∷ 0x007 ∷ 0x00D ∷ 0x00F ∷ [])) × (statuses 1 ≡ (0x805 ∷ 0x807 ∷ 0x80D ∷ 0x80F ∷ []))
unfolding status_word
statuses_are = (refl, refl)

-- a status is a word, whatever the code
status_fits : (code write : ℕ) → write < 2 → status_word code write < 2 ^ 32
unfolding status_word
status_fits code write bit = omega arith

write_bit_lem : (a : Access) → write_bit a < 2
write_bit_lem reads = omega arith
write_bit_lem fetches = omega arith
write_bit_lem (writes v) = omega arith

-- registers 6: after is registers with this status and address of an abort, pending, and no other byte changed
pub record Tells (registers after : List ℕ) (abort : Abort) (status addr : ℕ) : Type 0 where
  pub same_length : length after ≡ length registers
  pub status_is : word after (status_place abort) ≡ status
  pub address_is : word after (address_place abort) ≡ addr
  pub pending_is : get_or after pending_place 0 ≡ 1
  pub others : (i : ℕ) → (status_place abort ≤ i → address_place abort + 4 ≤ i) → i ≢ pending_place → get_or after i 0 ≡ get_or registers i 0

-- an abort's address stands behind its status, both before the pending byte
behind : (abort : Abort) → (address_place abort ≡ status_place abort + 4) × (address_place abort + 4 ≤ pending_place)
behind data_abort = (refl, omega arith)
behind prefetch_abort = (refl, omega arith)

pub fault_told : (registers : List ℕ) (abort : Abort) (status addr : ℕ) → length registers ≡ registers_bytes → status < 2 ^ 32 → addr < 2 ^ 32
    → Tells registers (put_fault registers abort status addr) abort status addr
unfolding put_fault
fault_told registers abort status addr fits small narrow =
    let (next, last) = behind abort in
    let one = put_word registers (status_place abort) status in
    let both = put_word one (address_place abort) addr in
    let long : length both ≡ length registers = length-put_word one (address_place abort) addr ∙ length-put_word registers (status_place abort) status in
    let before : (j : ℕ) → j + 4 ≤ pending_place → word (set both pending_place 1) j ≡ word both j = λ j l. word_cong (set both pending_place 1) both j (λ i lo hi. get_or-set_other both pending_place i 1 0 (λ e. omega arith)) in
    record {
      same_length = length-set both pending_place 1 ∙ long;
      status_is =
          before (status_place abort) (omega arith) ∙ word-put_word_other one (address_place abort) addr (status_place abort) (λ l. omega arith)
          ∙ word-put_word_same registers (status_place abort) status (omega arith) small;
      address_is = before (address_place abort) (omega arith) ∙ word-put_word_same one (address_place abort) addr (omega (arith, length-put_word registers (status_place abort) status)) narrow;
      pending_is = get_or-set_same both pending_place 1 0 (omega arith);
      others = λ i away other.
          get_or-set_other both pending_place i 1 0 other ∙ get_or-put_word_other one (address_place abort) addr i (λ l. away (omega arith))
          ∙ get_or-put_word_other registers (status_place abort) status i (λ l. omega (arith, away l));
    }

-- An access

module _ (a : Access) (s : Store) (registers : List ℕ) (addr : ℕ) where
  abbrev answer : ℕ
  answer = (guest_outcome a s registers addr).answer

  abbrev at : Level
  at = walk_level (active_walk s addr)

  -- where 1 is not the answer, the registers are of the right length
  judged_registers : answer ≢ 1 → length registers ≡ registers_bytes
  unfolding guest_outcome answer_of
  judged_registers not_1 = go (misfit_stored s) (misfit_registers registers) refl (λ z. not_1 (settle_answer (answer_of (guest_refusals a s registers addr)) s (guest_accepted a s addr) ∙ z)) where
    rest : List Refusal
    rest = 21 if no_active_table s ∷ walk_refusals a (active_walk s addr)

    go : (t u : Bool) → misfit_registers registers ≡ u → answer_of (1 if t ∷ 1 if u ∷ rest) ≢ 1 → length registers ≡ registers_bytes
    go true u e n = absurd (n refl)
    go false true e n = absurd (n refl)
    go false false e n = equal (length registers) registers_bytes e

  -- registers 7: with an answer that is neither 22 nor 23 all are as they were
  pub no_fault_told : answer ≢ 22 → answer ≢ 23 → guest_registers a s registers addr ≡ registers
  unfolding guest_registers registers_after
  no_fault_told not-22 not-23 = rw (ne_eqb answer 22 not-22, ne_eqb answer 23 not-23)

  -- registers 6: 22 is a translation fault at the level of the walk's last entry, 23 a permission fault
  abbrev ToldOf : Fault → Type 0
  ToldOf f = Tells registers (guest_registers a s registers addr) (raised a) (status_word (fault_code f) (write_bit a)) addr

  pub translation_told : addr < 2 ^ 32 → answer ≡ 22 → ToldOf (translation at)
  unfolding guest_registers registers_after
  translation_told narrow e = rw e (fault_told registers (raised a) _ addr (judged_registers (λ z. omega arith)) (status_fits _ _ (write_bit_lem a)) narrow)

  pub permission_told : addr < 2 ^ 32 → answer ≡ 23 → ToldOf (permission at)
  unfolding guest_registers registers_after
  permission_told narrow e = rw e (fault_told registers (raised a) _ addr (judged_registers (λ z. omega arith)) (status_fits _ _ (write_bit_lem a)) narrow)

-- An acknowledge

module _ (registers : List ℕ) (fits : length registers ≡ registers_bytes) where
  -- acknowledge byte: the pending byte is given, whatever it is
  pub pending_given : (s : Store) → ((acknowledge_outcome s registers).answer ≡ 0) × ((acknowledge_outcome s registers).byte ≡ get_or registers pending_place 0)
  unfolding acknowledge_outcome settle answer_of
  pending_given s = rw (same (length registers) registers_bytes fits) (refl, refl)

  -- acknowledge leaves: it is 0 afterwards, and the four registers are as they were
  pub registers_acknowledged : (acknowledge_registers registers ≡ set registers pending_place 0) × (get_or (acknowledge_registers registers) pending_place 0 ≡ 0)
  unfolding acknowledge_registers
  registers_acknowledged = rw (same (length registers) registers_bytes fits) (refl, get_or-set_same registers pending_place 0 0 (omega arith))

-- a fault is given once: the first acknowledge behind it gives 1, and the second 0
pub fault_given_once : (s : Store) {registers after : List ℕ} {abort : Abort} {status addr : ℕ} → length registers ≡ registers_bytes → Tells registers after abort status addr
    → ((acknowledge_outcome s after).byte ≡ 1) × ((acknowledge_outcome s (acknowledge_registers after)).byte ≡ 0)
fault_given_once s {registers} {after} fits t =
    let fits_after = t.same_length ∙ fits in
    let (cleared, zero_is) = registers_acknowledged after fits_after in
    ((pending_given after fits_after s).1 ∙ t.pending_is, (pending_given (acknowledge_registers after) (rw cleared (length-set after pending_place 0 ∙ fits_after)) s).1 ∙ zero_is)
