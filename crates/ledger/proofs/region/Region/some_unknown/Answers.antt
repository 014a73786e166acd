use mathlib.Core.Path.{sym}
use native.Mathlib.Omega.{arith}
use Rattle.words.proofs.Bounded.{told, scan_start, scan_next, scan_found, scan_end}
use Rattle.rules.specs.Store.{some_block}
use Rattle.rules.proofs.State.{fits_stored, within, inside}
use Rattle.ledger.proofs.Marking.{all_marked}
use Rattle.ledger.proofs.region.Region.some_unknown.Goals as goal

pub record_of-b-requires : goal.record_of-b-requires
record_of-b-requires c = (within _ _ _ _ c.requires).0

pub some_differs-requires : goal.some_differs-requires
some_differs-requires c =
    let fit = fits_stored _ c.args.self.now.fits in
    let (lo, hi) = within _ _ _ _ c.requires in
    let b = c.record_of-b.ensures in
    omega arith

pub returns-then-not-some_differs : goal.returns-then-not-some_differs
returns-then-not-some_differs c =
    let start = c.before.before.before.before.before.before in
    sym (all_marked _ _ _ _ c.record_of-b.ensures.is (within _ _ _ _ start.requires).0 (told c.some_differs.ensures c.if-not-some_differs.true))

pub loop-i-init : goal.loop-i-init
loop-i-init c = scan_start _ _

pub overflow_add-p : goal.overflow_add-p
overflow_add-p c = let fit = fits_stored _ c.args.self.now.fits in let (lo, hi) = within _ _ _ _ c.requires in omega arith

pub is_unknown-requires : goal.is_unknown-requires
is_unknown-requires c = let (lo, hi) = within _ _ _ _ c.requires in inside _ _ _ _ (omega arith) (omega arith)

pub returns-then-is_unknown : goal.returns-then-is_unknown
unfolding some_block
returns-then-is_unknown c = scan_found _ _ c.loop-i.i (omega arith) (rw c.is_unknown.ensures at c.if-is_unknown.true)

pub loop-i-preserved : goal.loop-i-preserved
loop-i-preserved c = scan_next _ _ _ c.loop-i.invariant (omega arith) (rw c.is_unknown.ensures at c.if-is_unknown.false)

pub returns : goal.returns
unfolding some_block
returns c = scan_end _ _ _ c.loop-i.invariant (omega arith)
