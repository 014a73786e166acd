use native.Mathlib.Omega.{arith}
use Rattle.words.proofs.Bounded.{told, scan_start, scan_next, scan_found, scan_end}
use Rattle.rules.specs.Store.{lent}
use Rattle.validation.proofs.Covers.{entry_recorded}
use Rattle.tables.proofs.count.some_above_limit.Goals as goal

pub loop-i-init : goal.loop-i-init
loop-i-init c = scan_start _ _

pub accepted_entry_at-e-requires : goal.accepted_entry_at-e-requires
accepted_entry_at-e-requires c =
    let pre = c.requires in
    record { holds_word = omega (arith, pre.holds); j_value = pre.accepted c.loop-i.i (omega arith) }

pub entry_beyond-requires : goal.entry_beyond-requires
entry_beyond-requires c =
    let a = c.args in
    let pre = c.requires in
    rw c.accepted_entry_at-e.ensures (entry_recorded (lent a.memory.now a.ledger.now) _ pre.fits (pre.placed c.loop-i.i (omega arith)))

pub returns-then-entry_beyond : goal.returns-then-entry_beyond
returns-then-entry_beyond c = scan_found _ _ c.loop-i.i (omega arith) (told (rw c.accepted_entry_at-e.ensures at c.entry_beyond.ensures) c.if-entry_beyond.true)

pub loop-i-preserved : goal.loop-i-preserved
loop-i-preserved c = scan_next _ _ _ c.loop-i.invariant (omega arith) (told (rw c.accepted_entry_at-e.ensures at c.entry_beyond.ensures) c.if-entry_beyond.false)

pub returns : goal.returns
returns c = scan_end _ _ _ c.loop-i.invariant (omega arith)
