-- Registers of another length are refused; what is left the check finds.
use mathlib.Core.Path.{refl}
use Rattle.words.proofs.Bounded.{told}
use Rattle.rules.specs.Store.{lent}
use Rattle.rules.specs.Registers.{registers_bytes}
use Rattle.rules.proofs.State.{equal}
use Rattle.guest.specs.Meaning.{access_of}
use Rattle.guest.proofs.Accesses.{outcome_misfit}
use Rattle.guest.proofs.access.load.Goals as goal

pub returns-then-is_misfit_registers : goal.returns-then-is_misfit_registers
returns-then-is_misfit_registers c =
    let a = c.args in
    let (outcome, left) = outcome_misfit (access_of a.access) (lent a.memory.now a.ledger.now) a.registers.now a.address (told c.is_misfit_registers.ensures c.if-is_misfit_registers.true) in
    rw outcome (record { value = refl; byte = refl; ledger_value = refl; registers_after = left })

pub judge-requires : goal.judge-requires
judge-requires c = equal _ registers_bytes (told c.is_misfit_registers.ensures c.if-is_misfit_registers.false)
