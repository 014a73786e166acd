-- From eight blocks of zeros, one of them signed, a list comes to an accepted fetch: blocks 0 to 3 become an L1 table and block 4 an L2
-- block, the table is linked to it, block 5 is mapped to be read and executed, and the hardware is switched to the table.
use mathlib.Core.Bool.{false, not}
use mathlib.Core.List.{List, [], ◌∷◌}
use mathlib.Core.Option.{none, some}
use mathlib.Core.Path.{◌≡◌, refl, ◌∙◌, ap}
use Prim.Native.Nat.{ℕ, ◌+◌, ◌-◌, ◌<◌, ◌≤◌}
use native.Mathlib.Nat.{add-zero}
use native.Mathlib.Omega.{arith}
use lib.ListN.{get_or, get_elem?, take}
use borrow.Author.Tests.{le-ltb}
use Rattle.rules.specs.Begin.{cached_kinds}
use Rattle.rules.specs.Map.{first_kind}
use Rattle.words.specs.Bounded.{num}
use Rattle.words.proofs.Bounded.{any_avoids, same}
use Rattle.entries.specs.Entries.{Entry, fault, page, l1, l2, entry_at, is_fault, rights, is_large}
use Rattle.entries.specs.Written.{word_of, kindless}
use Rattle.entries.specs.Rights.{allows}
use Rattle.entries.proofs.Decoding.{entry_at_cong}
use Rattle.entries.proofs.RoundTrip.{read_execute}
use Rattle.rules.specs.Store.{Store, blocks, base, Counter, writable, executable, counter, type_of, fill}
use Rattle.rules.specs.Tables.{type_d, type_code, table_blocks, pages, word_index, table_entry, gives, grants}
use Rattle.rules.specs.Outcomes.{leaving}
use Rattle.rules.specs.General.{added, end_value, entered, holder}
use Rattle.rules.specs.Link.{link_to, link_refusals, link_outcome}
use Rattle.rules.specs.Switch.{switch_after}
use Rattle.rules.specs.Guest.{ends, walk, fetches, needed}
use Rattle.rules.specs.Steps.{Step, creates, maps, links, switches, accesses, obey, run, run_by, typed, after_accepted}
use Rattle.rules.specs.Demand3.{Fetched, store_at, told_at}
use Rattle.rules.specs.Policies.{FetchedCode}
use Rattle.rules.specs.Registers.{clear_registers}
use Rattle.rules.proofs.Refusals.{Passed, done, step}
use Rattle.rules.proofs.Gains.{gain_none}
use Rattle.rules.proofs.Ledger.{marks_clear, typed_in, typed_out}
use Rattle.rules.proofs.Memory.{length-fill, contents-fill, signed_block_same, word-fill_other}
use Rattle.rules.proofs.State.{inside, recorded, type_told}
use Rattle.rules.proofs.Changes.{end, counter-recounted}
use Rattle.rules.proofs.Demand3.{demand3}
use Rattle.rules.proofs.Passing.{Taken, taken, no_misfit, right_type, switch_taken, access_accepted}
use Rattle.rules.proofs.InTurn.{Alone, Went, map_goes}
use Rattle.rules.proofs.Policies.{policies}
use Rattle.rules.proofs.Accepted.{map_enters, page_grants, link_enters}
use Rattle.rules.proofs.SmallStores.{ledger, small_store}
use Rattle.rules.proofs.Blank.{golden, lawful, page_signed, begins_zeros, started, told_of, Zeros, zeros_started, blank, eight, uncounted, create_zeros}

abbrev pub to_fetch : List Step
to_fetch = creates l1 0 ∷ creates l2 4 ∷ links 0 0 4 0 ∷ maps pages 4 0 5 5 first_kind ∷ switches 0 ∷ accesses fetches clear_registers 0 ∷ []

-- the types once there are an L1 table and an L2 block
abbrev with_l1 : ℕ → ℕ
with_l1 = typed (λ b. type_d) 0 (table_blocks l1) (type_code l1)

abbrev with_both : ℕ → ℕ
with_both = typed with_l1 4 (table_blocks l2) (type_code l2)

is_L1 : (k : ℕ) → k < table_blocks l1 → with_both (0 + k) ≡ type_code l1
is_L1 k l = typed_out with_l1 4 1 (type_code l2) (0 + k) (λ h. omega arith) ∙ typed_in (λ b. type_d) 0 4 (type_code l1) (0 + k) (omega arith) (omega arith)

module _ {s : Store} (z : Zeros with_both s) where
  link_passes : Passed (take 10 (link_refusals s 0 0 4 0))
  unfolding is_fault typed
  link_passes =
      let based = z.runs.told-base in
      let n = eight z in
      step (no_misfit z.runs) (step (inside (base s) (blocks s) 0 4 (omega arith) (omega arith)) (step refl (step refl (step refl (step (right_type z.runs l1 0 (type_code l1) (omega arith) (omega arith) is_L1)
      (step (le-ltb 0 (counter executable s 0) (omega (arith, uncounted z executable (0 - base s) (omega arith))))
      (step (any_avoids (λ k. not (is_fault (table_entry l1 s 0 (0 + k)))) 1 (λ k l. rw (blank z l1 _) refl))
      (step (inside (base s) (blocks s) 4 1 (omega arith) (omega arith)) (step (same (type_of s 4) (type_code l2) (type_told z.runs 4 (omega arith) (omega arith) ∙ refl)) done)))))))))

  link_taken : Taken (told_of with_both none) s (links 0 0 4 0) (entered kindless s 0 0 1 (λ k. link_to 4 0))
  unfolding obey link_outcome
  link_taken = taken z.runs (links 0 0 4 0) _ (leaving (entered kindless s 0 0 1 (λ k. link_to 4 0))) refl link_passes

  abbrev linked : Store
  linked = (obey golden s (links 0 0 4 0)).after

  -- the link lets the guest write and execute nothing
  linked_uncounted : (c : Counter) → ((q : ℕ) → gives c (link_to 4 0) q ≡ false) → (b : ℕ) → b < 8 → recorded linked c b ≡ 0
  unfolding end_value
  linked_uncounted c spares b l =
      let x : ℕ → Entry = λ k. link_to 4 0 in
      let inside : b < blocks s = omega (arith, eight z) in
      let zero : end added s 1 x c b ≡ 0 = rw (uncounted z c b l, gain_none 1 x c (base s + b) (λ k _. spares (base s + b))) refl in
      rw link_taken.leaves ((marks_clear _ (holder 0 0 - base s)).counter_is c b ∙ counter-recounted added s 1 x z.runs.fit.ledger_length c b inside (omega (arith, zero)) ∙ zero)

  -- and it stands outside blocks 4 and 5
  linked_alone : Alone 0 (told_of with_both none) linked 4 0 5 fault
  unfolding typed gives grants allows rights num is_large
  linked_alone =
      let a = word_index s 0 0 in
      let w : ℕ → ℕ = λ k. word_of kindless (link_to 4 0) in
      let based = z.runs.told-base in
      let more : 8 ≤ blocks linked = rw link_taken.leaves (omega (arith, length-fill s.memory a w 1, eight z)) in
      record {
        table_low = omega arith;
        table_high = omega arith;
        table = refl;
        index = omega arith;
        low = omega arith;
        high = omega arith;
        free = refl;
        signs = rw link_taken.leaves (signed_block_same golden 0 (fill s.memory a 1 w) s.memory 5 (contents-fill s.memory a w 1 5 (λ k. omega arith)) ∙ rw z.zeros page_signed);
        holds = rw link_taken.leaves (entry_at_cong l2 (fill s.memory a 1 w) s.memory 4096 (λ k near. word-fill_other s.memory a w 1 k (λ l. omega arith)) ∙ blank z l2 4096);
        only = rw (linked_uncounted writable (λ q. refl) 5 (omega arith), linked_uncounted executable (λ q. refl) 5 (omega arith)) refl;
        not_large = refl;
        holder_unexecuted = linked_uncounted executable (λ q. refl) 4 (omega arith);
      }

  mapped : Went (told_of with_both none) linked (maps pages 4 0 5 5 first_kind) 4 0 5 (page 5 5)
  unfolding after_accepted
  mapped = map_goes link_taken.runs lawful read_execute linked_alone

  abbrev ready : Store
  ready = (obey golden linked (maps pages 4 0 5 5 first_kind)).after

  -- the table leads address 0 to block 5
  leads : walk 0 (blocks ready) ready.memory 0 0 ≡ ends l2 5 5
  unfolding obey after_accepted
  leads =
      let based = z.runs.told-base in
      let linked-based = link_taken.runs.told-base in
      let a = word_index linked 0 0 in
      let enters = map_enters pages golden linked 4 0 5 5 first_kind mapped.accepted in
      let still : entry_at l1 ready.memory a ≡ entry_at l1 linked.memory a = entry_at_cong l1 ready.memory linked.memory a (λ k near. enters.others k (λ e. omega arith)) in
      let at : a ≡ word_index s 0 0 = omega arith in
      let through = still ∙ ap (entry_at l1 linked.memory) at ∙ rw add-zero at ((link_enters s 0 0 4 0 link_taken.accepted).decodes 0 (omega arith)) in
      rw enters.same_length (rw (← linked-based) at (page_grants golden linked 4 0 5 5 first_kind mapped.accepted 0 0 through refl))

  switched : Taken (told_of with_both none) ready (switches 0) (switch_after ready 0)
  switched = switch_taken mapped.runs 0 (record { low = omega arith; high = omega (arith, mapped.alone.high); aligned = refl; typed = is_L1 })

  fetched : (obey golden (obey golden ready (switches 0)).after (accesses fetches clear_registers 0)).answer ≡ 0
  unfolding obey after_accepted allows needed
  fetched =
      let after = (obey golden ready (switches 0)).after in
      let walked : walk 0 (blocks after) after.memory 0 0 ≡ ends l2 5 5 = rw switched.leaves leads in
      access_accepted switched.runs fetches clear_registers 0 refl walked refl refl

pub fetch_accepted : (run golden started to_fetch).answers ≡ (0 ∷ 0 ∷ 0 ∷ 0 ∷ 0 ∷ 0 ∷ [])
unfolding run_by typed
fetch_accepted =
    let (table, one) = create_zeros zeros_started l1 0 (omega arith) refl (λ k l. refl) in
    let (block, z) = create_zeros one l2 4 (omega arith) refl (λ k l. let is : k ≡ 0 = omega arith in rw is refl) in
    rw (table, block, (link_taken z).accepted, (mapped z).accepted, (switched z).accepted, fetched z) refl

-- so what lists 11 and policies 7 say of a fetch is said of this one, and some block is reached with execute
abbrev byte : ℕ
byte = get_or (run golden started to_fetch).bytes 5 0

sixth_accepted : get_elem? (run golden started to_fetch).answers 5 ≡ some 0
sixth_accepted = ap (λ (ks : List ℕ). get_elem? ks 5) fetch_accepted

pub byte_fetched : Fetched (told_at golden cached_kinds 0 started to_fetch 5) (store_at golden started to_fetch 5) 0 byte
unfolding run_by
byte_fetched = (demand3 golden (small_store 0 ledger) cached_kinds 0 begins_zeros to_fetch).fetched 5 clear_registers 0 byte refl sixth_accepted refl

pub code_fetched : FetchedCode (told_at golden cached_kinds 0 started to_fetch 5) (store_at golden started to_fetch 5) 0 byte
unfolding run_by
code_fetched = (policies golden (small_store 0 ledger) cached_kinds 0 begins_zeros to_fetch).fetched 5 clear_registers 0 byte refl sixth_accepted refl
