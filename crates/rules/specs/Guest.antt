-- The guest's accesses: one byte through the tables (RULES: guest).
use Rattle.std.specs.Prelude.{Bool, true, cond, not, ◌||◌, List, [], ◌∷◌, ℕ, ◌+◌, ◌-◌, ◌*◌, ◌/◌, ◌%◌, ◌^◌, eqb, get_or, set}
use Rattle.words.specs.Words.{bits}
use Rattle.entries.specs.Entries.{Entry, fault, unaccepted, link, section, page, large, Level, l1, l2, block_tables, entry_at, is_fault, is_unaccepted, rights, cover_first, cover_blocks}
use Rattle.rules.specs.Refusals.{Refusal, ◌if◌}
use Rattle.rules.specs.Store.{block_bytes, block_words, Store, blocks, base, active, clear_mark, misfit_stored}
use Rattle.rules.specs.Outcomes.{Outcome, Accepted, call_outcome}
use Rattle.rules.specs.Tables.{table_blocks, l2_words, astray}
use Rattle.entries.specs.Rights.{Right, read, write, execute, allows}
use Rattle.rules.specs.General.{misaligned, table_outside}
use Rattle.rules.specs.Registers.{misfit_registers, Abort, data_abort, prefetch_abort, Fault, translation, permission, fault_code, status_word, put_fault}

-- guest walk, guest end: a walk stops at an entry of some level with a refusal's number, or ends at one in a physical block, with its rights
pub data Walk : Type 0 where
  stops : Level → ℕ → Walk
  ends : Level → ℕ → ℕ → Walk

-- guest 24, guest 22: the walk stops at this entry with 24 or 22, or goes on
unfoldable pub passes : Level → ℕ → ℕ → Entry → Walk → Walk
passes v B n e onward = cond (is_unaccepted e || astray B n e) (stops v 24) (cond (is_fault e) (stops v 22) onward)

-- guest end: in the block that the entry covers and the address names. A fault or an unaccepted entry covers none (modulo 0), but passes stops there
abbrev pub ends_at : Level → ℕ → Entry → Walk
ends_at v addr e = ends v (cover_first e + addr / block_bytes % cover_blocks e) (rights e)

-- guest walk: the entry that bits 19..12 of the address name in the L2 table at address 1,024 × place; one outside the region stops the walk before
abbrev pub second_entry : ℕ → List ℕ → ℕ → ℕ → Entry
second_entry B memory addr place = entry_at l2 memory (l2_words * (place - block_tables * B) + bits addr 12 8)

-- guest walk: a link leads on to an entry of its table, and any other L1 entry is the last
unfoldable pub follow : ℕ → ℕ → List ℕ → ℕ → Entry → Walk
follow B n memory addr fault = ends_at l1 addr fault
follow B n memory addr unaccepted = ends_at l1 addr unaccepted
follow B n memory addr (link place) = let e = second_entry B memory addr place in passes l2 B n e (ends_at l2 addr e)
follow B n memory addr (section b r) = ends_at l1 addr (section b r)
follow B n memory addr (page b r) = ends_at l1 addr (page b r)
follow B n memory addr (large b r) = ends_at l1 addr (large b r)

-- guest walk: the walk of an address from the L1 table at a physical block; outside the region this says nothing, and 21 comes first
unfoldable pub walk : ℕ → ℕ → List ℕ → ℕ → ℕ → Walk
walk B n memory table addr =
    let e = entry_at l1 memory (block_words * (table - B) + bits addr 20 12) in passes l1 B n e (follow B n memory addr e)

-- guest end: where in the memory the byte stands at which a walk ends (0 if it stops)
unfoldable pub byte_index : ℕ → ℕ → Walk → ℕ
byte_index B addr (stops v k) = 0
byte_index B addr (ends v p r) = block_bytes * (p - B) + addr % block_bytes

-- guest list: the three accesses, a write with the number of its byte
pub data Access : Type 0 where
  reads : Access
  fetches : Access
  writes : ℕ → Access

-- guest 23: the right that an access needs
unfoldable pub needed : Access → Right
needed reads = read
needed fetches = execute
needed (writes v) = write

-- guest list, guest 23: the number with which the walk stops, or 23 if it ends without the right
unfoldable pub walk_refusals : Access → Walk → List Refusal
walk_refusals a (stops v k) = k if true ∷ []
walk_refusals a (ends v p r) = 23 if not (allows r (needed a)) ∷ []

-- guest 21: one of the four blocks from the active one on lies outside the region, or it is no multiple of 4
abbrev pub no_active_table : Store → Bool
no_active_table s = table_outside l1 s (active s) || misaligned (active s) (table_blocks l1)

-- guest walk: the walk from the active table
abbrev pub active_walk : Store → ℕ → Walk
active_walk s addr = walk (base s) (blocks s) s.memory (active s) addr

-- guest list, refusal 1: 1, for the registers too, 21, and what the walk adds
abbrev pub guest_refusals : Access → Store → List ℕ → ℕ → List Refusal
guest_refusals a s registers addr =
    1 if misfit_stored s
    ∷ 1 if misfit_registers registers
    ∷ 21 if no_active_table s
    ∷ walk_refusals a (active_walk s addr)

-- guest leaves: a write stores the low 8 bits of its number at place j, and a read or a fetch nothing
unfoldable pub written : Access → List ℕ → ℕ → List ℕ
written reads memory j = memory
written fetches memory j = memory
written (writes v) memory j = set memory j (v % 2 ^ 8)

-- guest leaves, ledger 10: a write clears the mark of the block in which place j lies
unfoldable pub unmarked : Access → List ℕ → ℕ → List ℕ
unmarked reads ledger j = ledger
unmarked fetches ledger j = ledger
unmarked (writes v) ledger j = clear_mark ledger (j / block_bytes)

-- guest byte: a read or a fetch gives the byte at place j (0 stands for none in a write)
unfoldable pub byte_given : Access → List ℕ → ℕ → ℕ
byte_given reads memory j = get_or memory j 0
byte_given fetches memory j = get_or memory j 0
byte_given (writes v) memory j = 0

-- guest leaves, guest byte: what an accepted access leaves and gives
abbrev pub guest_accepted : Access → Store → ℕ → Accepted
guest_accepted a s addr =
    let j = byte_index (base s) addr (active_walk s addr) in
    record { store = record { memory = written a s.memory j; ledger = unmarked a s.ledger j }; byte = byte_given a s.memory j; hashed = 0 }

-- guest list, guest leaves, guest byte: what an access answers, leaves and gives
unfoldable pub guest_outcome : Access → Store → List ℕ → ℕ → Outcome
guest_outcome a s registers addr = call_outcome (guest_refusals a s registers addr) s (guest_accepted a s addr)

-- registers 6: the abort that a fault of an access raises
abbrev pub raised : Access → Abort
raised reads = data_abort
raised fetches = prefetch_abort
raised (writes v) = data_abort

-- registers 4: the bit that tells of a write
abbrev pub write_bit : Access → ℕ
write_bit reads = 0
write_bit fetches = 0
write_bit (writes v) = 1

-- registers 2: the level of the entry at which a walk stops or ends
unfoldable pub walk_level : Walk → Level
walk_level (stops v k) = v
walk_level (ends v p r) = v

-- registers 6: the registers after a fault of an access
abbrev pub faulted : Access → List ℕ → ℕ → Fault → List ℕ
faulted a registers addr f = put_fault registers (raised a) (status_word (fault_code f) (write_bit a)) addr

-- registers 2, registers 6, registers 7: the registers after an access that is answered k, by the level at which its walk stops or ends
unfoldable pub registers_after : Access → List ℕ → ℕ → Level → ℕ → List ℕ
registers_after a registers addr v k =
    cond (eqb k 22) (faulted a registers addr (translation v))
    (cond (eqb k 23) (faulted a registers addr (permission v)) registers)

-- promises 1, registers 6, registers 7: the registers that an access leaves
unfoldable pub guest_registers : Access → Store → List ℕ → ℕ → List ℕ
guest_registers a s registers addr = registers_after a registers addr (walk_level (active_walk s addr)) (guest_outcome a s registers addr).answer
