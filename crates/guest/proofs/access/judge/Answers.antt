-- The tests are those of the rules, in their order, on the words that the ledger holds.
use mathlib.Core.List.{List}
use mathlib.Core.Path.{◌≡◌, ◌∙◌, ap}
use Prim.Native.Nat.{ℕ}
use native.Mathlib.Omega.{arith}
use Rattle.std.proofs.lemmas.Result.{err_from_is_err_and}
use Rattle.rules.specs.Store.{Store, lent}
use Rattle.rules.specs.Guest.{registers_after}
use Rattle.rules.proofs.State.{fits_stored}
use Rattle.ledger.proofs.Judge.{refuses}
use Rattle.guest.specs.Meaning.{access_of}
use Rattle.guest.proofs.Accesses.{byte_lies, table_within, said_1, said_21, said_walk}
use Rattle.guest.proofs.access.judge.Goals as goal

parts : {s : Store} {memory ledger : List ℕ} → s ≡ lent memory ledger → (s.memory ≡ memory) × (s.ledger ≡ ledger)
parts e = (ap (λ (s : Store). s.memory) e, ap (λ (s : Store). s.ledger) e)

pub returns-in_err-region : goal.returns-in_err-region
returns-in_err-region c =
    let a = c.args in
    let p = err_from_is_err_and c.from_residual.result c.from_residual.ensures.1 in
    let (answer, left) = said_1 (access_of a.access) (lent a.memory.now a.ledger.now) a.registers.now a.address c.in_err-region.ensures.value (refuses _) in
    rw (p.1, p.2) (record { value = answer; registers_after = left; place = tt; in_memory = tt; recorded = tt })

pub returns-in_err-table : goal.returns-in_err-table
returns-in_err-table c =
    let a = c.args in
    let whole = c.requires in
    let (m, l) = parts c.in_ok-region.ensures.region in
    let p = err_from_is_err_and c.from_residual-in_err-table.result c.from_residual-in_err-table.ensures.1 in
    let (answer, left) = said_21 (access_of a.access) (lent a.memory.now a.ledger.now) a.registers.now a.address (rw (m, l) at c.in_ok-region.region.fits) whole (rw (m, l) at c.in_err-table.ensures.value) (refuses _) in
    rw (p.1, p.2) (record { value = answer; registers_after = left; place = tt; in_memory = tt; recorded = tt })

pub invariant_of-blocks : goal.invariant_of-blocks
invariant_of-blocks c =
    let a = c.args in
    let (m, l) = parts c.in_ok-region.ensures.region in
    let f = fits_stored (lent a.memory.now a.ledger.now) (rw (m, l) at c.in_ok-region.region.fits) in
    let b = rw l at c.base.ensures in
    record { whole = omega arith; physical = omega arith }

pub locate-requires : goal.locate-requires
locate-requires c =
    let (m, l) = parts c.in_ok-region.ensures.region in
    rw (c.base.ensures, c.in_ok-table.ensures.table, l) (table_within _ (rw (m, l) at c.in_ok-table.ensures.value))

pub returns-in-Ok : goal.returns-in-Ok
unfolding registers_after
returns-in-Ok c =
    let a = c.args in
    let whole = c.requires in
    let (m, l) = parts c.in_ok-region.ensures.region in
    let fits = rw (m, l) at c.in_ok-region.region.fits in
    let number = rw (c.base.ensures, c.in_ok-table.ensures.table, l) at c.in-Ok.ensures.value in
    let place = rw (c.base.ensures, c.in_ok-table.ensures.table, l) at c.in-Ok.ensures.place in
    let (answer, left) = said_walk (access_of a.access) (lent a.memory.now a.ledger.now) a.registers.now a.address fits whole (rw (m, l) at c.in_ok-table.ensures.value) number in
    let (inside, has) = byte_lies (access_of a.access) (lent a.memory.now a.ledger.now) a.address fits number in
    record { value = answer; registers_after = left; place = place; in_memory = rw place inside; recorded = rw place has }

pub returns-in-Err : goal.returns-in-Err
returns-in-Err c =
    let a = c.args in
    let whole = c.requires in
    let (m, l) = parts c.in_ok-region.ensures.region in
    let number = rw (c.base.ensures, c.in_ok-table.ensures.table, l) at c.in-Err.ensures.value in
    let level = rw (c.base.ensures, c.in_ok-table.ensures.table, l) at c.in-Err.ensures.level in
    let (answer, left) = said_walk (access_of a.access) (lent a.memory.now a.ledger.now) a.registers.now a.address (rw (m, l) at c.in_ok-region.region.fits) whole (rw (m, l) at c.in_ok-table.ensures.value) number in
    record { value = answer; registers_after = (rw level at c.tell.ensures) ∙ left; place = tt; in_memory = tt; recorded = tt }
