-- The fault registers, and acknowledge (RULES: registers, acknowledge).
use Rattle.std.specs.Prelude.{Bool, cond, List, [], ◌∷◌, ℕ, ◌+◌, ◌*◌, ◌^◌, length, get_or, set, replicate}
use Rattle.words.specs.Bounded.{neqb}
use Rattle.words.specs.Words.{bits, put_word}
use Rattle.entries.specs.Entries.{Level, l1, l2}
use Rattle.rules.specs.Refusals.{Refusal, ◌if◌}
use Rattle.rules.specs.Store.{Store}
use Rattle.rules.specs.Outcomes.{Outcome, Accepted, call_outcome}

-- registers 1: how many bytes they are
abbrev pub registers_bytes : ℕ
registers_bytes = 17

-- registers 6: a fault of a read or a write is a data abort, with DFSR and DFAR; one of a fetch a prefetch abort, with IFSR and IFAR
pub data Abort : Type 0 where
  data_abort : Abort
  prefetch_abort : Abort

-- registers 1, registers 6: where an abort's status stands
abbrev pub status_place : Abort → ℕ
status_place data_abort = 0
status_place prefetch_abort = 8

-- registers 1, registers 6: where its address stands
abbrev pub address_place : Abort → ℕ
address_place data_abort = 4
address_place prefetch_abort = 12

-- registers 1: where the pending byte stands
abbrev pub pending_place : ℕ
pending_place = 16

-- registers 1, refusal 1, acknowledge 1: they are not so many bytes
abbrev pub misfit_registers : List ℕ → Bool
misfit_registers registers = neqb (length registers) registers_bytes

-- runner 2: registers that are all 0
abbrev pub clear_registers : List ℕ
clear_registers = replicate registers_bytes 0

-- registers 2: a fault, and its level
pub data Fault : Type 0 where
  translation : Level → Fault
  permission : Level → Fault

-- registers 3: its code
abbrev pub fault_code : Fault → ℕ
fault_code (translation l1) = 0b00101
fault_code (translation l2) = 0b00111
fault_code (permission l1) = 0b01101
fault_code (permission l2) = 0b01111

-- registers 4: the status word of a code; write is 1 if the access is a write, else 0
unfoldable pub status_word : ℕ → ℕ → ℕ
status_word code write = bits code 0 4 + 2 ^ 10 * bits code 4 1 + 2 ^ 11 * write

-- registers 6: the registers with this status and address of an abort, and 1 in the pending byte
unfoldable pub put_fault : List ℕ → Abort → ℕ → ℕ → List ℕ
put_fault registers abort status addr = set (put_word (put_word registers (status_place abort) status) (address_place abort) addr) pending_place 1

-- acknowledge list, acknowledge 1: 1, and no other
abbrev pub acknowledge_refusals : List ℕ → List Refusal
acknowledge_refusals registers = 1 if misfit_registers registers ∷ []

-- acknowledge byte: the pending byte is given; of memory and ledger nothing is asked, and they stay
abbrev pub acknowledge_accepted : Store → List ℕ → Accepted
acknowledge_accepted s registers = record { store = s; byte = get_or registers pending_place 0; hashed = 0 }

-- acknowledge list, acknowledge byte, calls 5: what acknowledge answers and gives, whatever the store
unfoldable pub acknowledge_outcome : Store → List ℕ → Outcome
acknowledge_outcome s registers = call_outcome (acknowledge_refusals registers) s (acknowledge_accepted s registers)

-- promises 1, acknowledge leaves: the registers afterwards: the pending byte is 0, if they are not refused
unfoldable pub acknowledge_registers : List ℕ → List ℕ
acknowledge_registers registers = cond (misfit_registers registers) registers (set registers pending_place 0)
