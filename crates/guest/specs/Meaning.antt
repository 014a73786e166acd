-- What the values of the types in the code mean (RULES: guest, registers, forms).
use Rattle.std.specs.Prelude.{ℕ, ◌/◌, Result, Ok, Err, length}
use Rattle.entries.specs.Meaning.{level_of}
use Rattle.rules.specs.Store.{block_bytes}
use Rattle.rules.specs.Registers.{Abort, data_abort, prefetch_abort, Fault, translation, permission}
use Rattle.rules.specs.Guest.{Walk, stops, ends, walk, Access, reads, fetches, writes}
use Rattle.ledger.specs.Refusals.{number_of}
use Rattle.guest.specs.declared.walk.Blocks as blocks
use Rattle.guest.specs.declared.walk.End as end
use Rattle.guest.specs.declared.walk.Stop as stop
use Rattle.guest.specs.declared.registers.Abort as abort
use Rattle.guest.specs.declared.registers.Abort.TheVariants.{Data, Prefetch}
use Rattle.guest.specs.declared.registers.Fault as fault
use Rattle.guest.specs.declared.registers.Fault.TheVariants.{Translation, Permission}
use Rattle.guest.specs.declared.access.Access as access
use Rattle.guest.specs.declared.access.Access.TheVariants.{Read, Fetch, Write}

-- memory 1: how many blocks there are
abbrev pub count_of : blocks.Blocks → ℕ
count_of b = length b.memory.now / block_bytes

-- guest walk: the walk of an address from the L1 table at a block
abbrev pub walk_in : blocks.Blocks → ℕ → ℕ → Walk
walk_in b table addr = walk b.first (count_of b) b.memory.now table addr

-- forms 9, guest walk: the walk that a value stands for
abbrev pub walk_of : Result end.End stop.Stop → Walk
walk_of (Ok e) = ends (level_of e.level) e.block e.rights
walk_of (Err s) = stops (level_of s.level) (number_of s.refusal)

-- guest 22, guest 24: the walk at an entry: it stops there, or goes on
abbrev pub followed : {A : Type 0} → Result A stop.Stop → Walk → Walk
followed (Ok x) onward = onward
followed (Err s) onward = stops (level_of s.level) (number_of s.refusal)

-- guest list: the number of the refusal along a walk or at its end, and 0 where there is none
abbrev pub stopped : {A : Type 0} → Result A stop.Stop → ℕ
stopped (Ok x) = 0
stopped (Err s) = number_of s.refusal

-- forms 9: the abort that a value stands for
abbrev pub abort_of : abort.Abort → Abort
abort_of Data = data_abort
abort_of Prefetch = prefetch_abort

-- forms 9, registers 2: the fault that a value stands for
abbrev pub fault_of : fault.Fault → Fault
fault_of (Translation v) = translation (level_of v)
fault_of (Permission v) = permission (level_of v)

-- forms 9: the access that a value stands for
abbrev pub access_of : access.Access → Access
access_of Read = reads
access_of Fetch = fetches
access_of (Write v) = writes v
