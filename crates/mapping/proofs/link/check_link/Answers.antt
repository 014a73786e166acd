-- Each return is decided by the tests up to its own.
use mathlib.Core.Path.{sym, ◌∙◌, ◌≡◌}
use mathlib.Core.List.{◌∷◌, ◌++◌}
use Prim.Native.Nat.{ℕ}
use native.Mathlib.Omega.{arith}
use borrow.Author.Tests.{le-leb, lt-leb}
use Rattle.words.proofs.Bounded.{told}
use Rattle.entries.specs.Entries.{l1}
use Rattle.rules.specs.Refusals.{◌if◌, answer_of}
use Rattle.rules.specs.General.{occupied}
use Rattle.rules.specs.Link.{link_refusals}
use Rattle.rules.proofs.Refusals.{passed, now, Passed}
use Rattle.ledger.specs.Pieces.{place_refusals}
use Rattle.ledger.specs.Regions.{store_of}
use Rattle.ledger.proofs.Judge.{Decides, here, past, refused, refuses, accepted, judged}
use Rattle.mapping.specs.Pieces.{holder_refusals, link_target_refusals}
use Rattle.mapping.specs.Needs.{InTable}
use Rattle.mapping.proofs.Exits.{exit_answers}
use Rattle.mapping.proofs.Slots.{slot}
use Rattle.mapping.proofs.Linking.{link_judged}
use Rattle.mapping.proofs.link.check_link.Goals as goal
use Rattle.mapping.proofs.link.check_link.Goals.{Else-table-ge-BLOCK_TABLES, In_ok-check_holder, In_ok-check_place}

-- what has passed, by the place in the code
placed : (c : In_ok-check_place) → Passed (place_refusals l1 (store_of c.args.region.now) c.args.block)
placed c = passed _ (omega arith) (sym c.in_ok-check_place.ensures)

entry : (c : Else-table-ge-BLOCK_TABLES) → InTable l1 (store_of c.args.region.now) c.args.block c.args.index
entry c = record {
  fits = c.args.region.now.fits;
  inside = now (placed (goal.at.Else-table-ge-BLOCK_TABLES c).In_ok-check_place);
  in_table = lt-leb _ _ (rw c.table_entries.ensures at c.if-table_entries-index.false);
}

held : (c : In_ok-check_holder) → Passed (holder_refusals l1 (store_of c.args.region.now) c.args.block c.args.index)
held c = passed _ (omega arith) (sym c.in_ok-check_holder.ensures)

-- then the tests that are left decide
from_holder : (c : Else-table-ge-BLOCK_TABLES) {k : ℕ}
    → Decides (let a = c.args in holder_refusals l1 (store_of a.region.now) a.block a.index ++ (8 if occupied l1 (store_of a.region.now) a.block a.index 1 ∷ link_target_refusals (store_of a.region.now) a.target a.table)) k
    → (let a = c.args in k ≡ answer_of (link_refusals (store_of a.region.now) a.block a.index a.target a.table))
from_holder c d =
    link_judged (store_of c.args.region.now) c.args.block c.args.index c.args.target c.args.table
    (past (entry c).fits (accepted (placed (goal.at.Else-table-ge-BLOCK_TABLES c).In_ok-check_place) (past (entry c).in_table (past (lt-leb _ _ c.if-table-ge-BLOCK_TABLES.false) d))))

pub returns-in_err-check_place : goal.returns-in_err-check_place
returns-in_err-check_place c =
    exit_answers _ _ c.from_residual.ensures.1
    ∙ link_judged (store_of c.args.region.now) c.args.block c.args.index c.args.target c.args.table (past c.args.region.now.fits (refused _ _ c.in_err-check_place.ensures (refuses _)))

pub returns-then-table_entries-index : goal.returns-then-table_entries-index
returns-then-table_entries-index c =
    link_judged (store_of c.args.region.now) c.args.block c.args.index c.args.target c.args.table
    (past c.args.region.now.fits (accepted (placed (goal.at.returns-then-table_entries-index c).In_ok-check_place) (here (le-leb _ _ (rw c.table_entries.ensures at c.if-table_entries-index.true)))))

pub returns-then-table-ge-BLOCK_TABLES : goal.returns-then-table-ge-BLOCK_TABLES
returns-then-table-ge-BLOCK_TABLES c =
    link_judged (store_of c.args.region.now) c.args.block c.args.index c.args.target c.args.table
    (past c.args.region.now.fits
    (accepted (placed (goal.at.returns-then-table-ge-BLOCK_TABLES c).In_ok-check_place)
    (past (lt-leb _ _ (rw c.table_entries.ensures at c.if-table_entries-index.false)) (here (le-leb _ _ c.if-table-ge-BLOCK_TABLES.true)))))

pub invariant_of-at : goal.invariant_of-at
invariant_of-at c = record { in_table = entry (goal.at.invariant_of-at c).Else-table-ge-BLOCK_TABLES }

pub returns-in_err-check_holder : goal.returns-in_err-check_holder
returns-in_err-check_holder c =
    exit_answers _ _ c.from_residual-in_err-check_holder.ensures.1
    ∙ from_holder (goal.at.returns-in_err-check_holder c).Else-table-ge-BLOCK_TABLES (refused _ _ c.in_err-check_holder.ensures (refuses _))

pub is_occupied-requires : goal.is_occupied-requires
is_occupied-requires c = slot {v = l1} 1 (omega arith) (omega arith) (entry (goal.at.is_occupied-requires c).Else-table-ge-BLOCK_TABLES)

pub returns-then-is_occupied : goal.returns-then-is_occupied
returns-then-is_occupied c =
    let at = goal.at.returns-then-is_occupied c in
    from_holder at.Else-table-ge-BLOCK_TABLES (accepted (held at.In_ok-check_holder) (here (told (c.is_occupied.ensures _) c.if-is_occupied.true)))

pub returns : goal.returns
returns c =
    let at = goal.at.returns c in
    from_holder at.Else-table-ge-BLOCK_TABLES
    (accepted (held at.In_ok-check_holder) (past (told (c.is_occupied.ensures _) c.if-is_occupied.false) (judged _ c.check_link_target.ensures)))
