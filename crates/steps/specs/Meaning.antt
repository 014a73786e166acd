-- What the values of the enums in the code mean: a step, and what a record holds (RULES: forms, lists, runner).
use Rattle.std.specs.Prelude as code
use Rattle.std.specs.Prelude.{None, Some, ℕ}
use Rattle.std.proofs.Math.Option.{Option, none, some}
use Rattle.entries.specs.Entries.{l1, l2}
use Rattle.rules.specs.Tables.{sections, pages, larges}
use Rattle.rules.specs.Begin.{cached_kinds}
use Rattle.rules.specs.Map.{first_kind}
use Rattle.rules.specs.Registers.{clear_registers}
use Rattle.rules.specs.Guest.{reads, writes, fetches}
use Rattle.rules.specs.Steps as steps
use Rattle.rules.specs.Steps.{begins, creates, frees, maps, links, unmaps, switches, accesses}
use Rattle.steps.specs.declared.step.Reply as reply
use Rattle.steps.specs.declared.step.Step as step
use Rattle.steps.specs.declared.step.Step.TheVariants.{Begin, CreateL1, CreateL2, FreeL1, FreeL2, MapL1, MapL2, Link, UnmapL1, UnmapL2, Switch, Read, Write, Fetch, MapLarge, UnmapLarge}

-- forms 9, lists 1: the step that a value stands for
abbrev pub meaning : step.Step → steps.Step
meaning (Begin first) = begins cached_kinds first
meaning (CreateL1 block) = creates l1 block
meaning (CreateL2 block) = creates l2 block
meaning (FreeL1 block) = frees l1 block
meaning (FreeL2 block) = frees l2 block
meaning (MapL1 block index target rights) = maps sections block index target rights first_kind
meaning (MapL2 block index target rights) = maps pages block index target rights first_kind
meaning (Link block index target table) = links block index target table
meaning (UnmapL1 block index) = unmaps sections block index
meaning (UnmapL2 block index) = unmaps pages block index
meaning (Switch block) = switches block
meaning (Read address) = accesses reads clear_registers address
meaning (Write address byte) = accesses (writes byte) clear_registers address
meaning (Fetch address) = accesses fetches clear_registers address
meaning (MapLarge block index target rights) = maps larges block index target rights first_kind
meaning (UnmapLarge block index) = unmaps larges block index

-- forms 9, runner 1: the step that a record holds, if any
abbrev pub held : code.Option step.Step → Option steps.Step
held (Some s) = some (meaning s)
held None = none

-- runner 2: the answer of a record; 0 where it holds no step
abbrev pub answer_in : code.Option reply.Reply → ℕ
answer_in (Some r) = r.answer
answer_in None = 0

-- runner 2: the same of the byte
abbrev pub byte_in : code.Option reply.Reply → ℕ
byte_in (Some r) = r.byte
byte_in None = 0
