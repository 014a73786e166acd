-- Registers of another length are refused; what is left the check finds.
use mathlib.Core.Path.{refl}
use Rattle.words.proofs.Bounded.{told}
use Rattle.rules.specs.Store.{lent}
use Rattle.rules.specs.Registers.{registers_bytes}
use Rattle.rules.proofs.State.{equal}
use Rattle.rules.specs.Guest.{writes}
use Rattle.guest.proofs.Accesses.{outcome_misfit}
use Rattle.guest.proofs.access.write.Goals as goal

pub returns-then-is_misfit_registers : goal.returns-then-is_misfit_registers
returns-then-is_misfit_registers c =
    let a = c.args in
    let (outcome, left) = outcome_misfit (writes a.byte) (lent a.memory.now a.ledger.now) a.registers.now a.address (told c.is_misfit_registers.ensures c.if-is_misfit_registers.true) in
    rw outcome (record { value = refl; ledger_after = refl; registers_after = left })

pub judge-requires : goal.judge-requires
judge-requires c = equal _ registers_bytes (told c.is_misfit_registers.ensures c.if-is_misfit_registers.false)
