use native.Mathlib.Omega.{arith}
use Rattle.words.proofs.Bounded.{told, scan_start, scan_next, scan_found, scan_end}
use Rattle.validation.proofs.table.Table.some_meets_members.Goals as goal

pub loop-i-init : goal.loop-i-init
loop-i-init c = scan_start _ _

pub returns-then-meets_members : goal.returns-then-meets_members
returns-then-meets_members c = scan_found _ _ c.loop-i.i (omega arith) (told c.meets_members.ensures c.if-meets_members.true)

pub loop-i-preserved : goal.loop-i-preserved
loop-i-preserved c = scan_next _ _ _ c.loop-i.invariant (omega arith) (told c.meets_members.ensures c.if-meets_members.false)

pub returns : goal.returns
returns c = scan_end _ _ _ c.loop-i.invariant (omega arith)
