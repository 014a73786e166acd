-- Registers of another length are refused; else the pending byte is given as it was, and cleared.
use mathlib.Core.Path.{◌≡◌, refl}
use native.Mathlib.Omega.{arith}
use lib.ListN.{length}
use Rattle.words.proofs.Bounded.{told}
use Rattle.rules.specs.Refusals.{answer_of}
use Rattle.rules.specs.Outcomes.{settle}
use Rattle.rules.specs.Registers.{acknowledge_outcome, acknowledge_registers, registers_bytes}
use Rattle.rules.proofs.State.{equal}
use Rattle.guest.proofs.registers.acknowledge.Goals as goal
use Rattle.guest.proofs.registers.acknowledge.Goals.{Else-is_misfit_registers}

-- what is not refused has the right length
seventeen : (c : Else-is_misfit_registers) → length c.args.registers.now ≡ registers_bytes
seventeen c = equal _ registers_bytes (told c.is_misfit_registers.ensures c.if-is_misfit_registers.false)

pub returns-then-is_misfit_registers : goal.returns-then-is_misfit_registers
unfolding acknowledge_outcome acknowledge_registers settle answer_of
returns-then-is_misfit_registers c = rw (told c.is_misfit_registers.ensures c.if-is_misfit_registers.true) (record { value = λ s. refl; pending = λ s. refl; registers_after = refl })

pub bounds-registers-16 : goal.bounds-registers-16
bounds-registers-16 c = omega (arith, seventeen (goal.at.bounds-registers-16 c).Else-is_misfit_registers)

pub bounds-registers-16-2 : goal.bounds-registers-16-2
bounds-registers-16-2 c = omega (arith, seventeen (goal.at.bounds-registers-16-2 c).Else-is_misfit_registers)

pub returns : goal.returns
unfolding acknowledge_outcome acknowledge_registers settle answer_of
returns c = rw (told c.is_misfit_registers.ensures c.if-is_misfit_registers.false) (record { value = λ s. refl; pending = λ s. refl; registers_after = refl })
