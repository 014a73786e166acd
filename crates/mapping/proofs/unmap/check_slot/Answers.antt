-- Each return is decided by the tests up to its own.
use mathlib.Core.Bool.{false}
use mathlib.Core.Path.{◌≡◌, refl, sym, ◌∙◌}
use mathlib.Core.List.{◌∷◌}
use Prim.Native.Nat.{ℕ}
use native.Mathlib.Omega.{arith}
use borrow.Author.Tests.{le-leb, lt-leb}
use Rattle.words.proofs.Bounded.{differ, same}
use Rattle.entries.specs.Meaning.{level_of}
use Rattle.entries.specs.Entries.{Level}
use Rattle.rules.specs.Refusals.{◌if◌, answer_of}
use Rattle.rules.specs.Tables.{mapping_words}
use Rattle.rules.specs.General.{misaligned, beyond_table}
use Rattle.rules.proofs.Refusals.{passed, now, Passed}
use Rattle.ledger.specs.Pieces.{place_refusals}
use Rattle.ledger.specs.Regions.{store_of}
use Rattle.ledger.proofs.Judge.{Decides, here, past, refused, refuses, accepted, judged}
use Rattle.mapping.specs.Meaning.{form_of}
use Rattle.mapping.specs.Pieces.{holder_refusals, slot_refusals}
use Rattle.mapping.proofs.Exits.{exit_answers}
use Rattle.mapping.proofs.Unmapping.{slot_judged}
use Rattle.mapping.proofs.unmap.check_slot.Goals as goal
use Rattle.mapping.proofs.unmap.check_slot.Goals.{Else-table_entries-index, In_ok-check_place}

-- what has passed, by the place in the code
abbrev at_level : In_ok-check_place → Level
at_level c = level_of c.level-level.result

placed : (c : In_ok-check_place) → Passed (place_refusals (at_level c) (store_of c.args.region.now) c.args.block)
placed c = passed _ (omega arith) (sym c.in_ok-check_place.ensures)

in_table : (c : Else-table_entries-index) → beyond_table (at_level (goal.at.Else-table_entries-index c).In_ok-check_place) c.args.index ≡ false
in_table c = lt-leb _ _ (rw c.table_entries.ensures at c.if-table_entries-index.false)

-- then the tests that are left decide
from_index : (c : In_ok-check_place) {n k : ℕ} → n ≡ mapping_words (form_of c.args.form)
    → Decides (let a = c.args in 3 if misaligned a.index n ∷ 4 if beyond_table (at_level c) a.index ∷ holder_refusals (at_level c) (store_of a.region.now) a.block a.index) k
    → let a = c.args in k ≡ answer_of (slot_refusals (form_of a.form) (store_of a.region.now) a.block a.index)
from_index c words d =
    let a = c.args in slot_judged (form_of a.form) (store_of a.region.now) a.block a.index c.level-level.ensures words (past a.region.now.fits (accepted (placed c) d))

pub returns-in_err-check_place : goal.returns-in_err-check_place
returns-in_err-check_place c =
    let a = c.args in
    exit_answers _ _ c.from_residual.ensures.1
    ∙ slot_judged (form_of a.form) (store_of a.region.now) a.block a.index c.level-level.ensures refl (past a.region.now.fits (refused _ _ c.in_err-check_place.ensures (refuses _)))

pub returns-then-index-mapping_words-ne0 : goal.returns-then-index-mapping_words-ne0
returns-then-index-mapping_words-ne0 c = from_index (goal.at.returns-then-index-mapping_words-ne0 c).In_ok-check_place c.mapping_words.ensures.is (here (differ _ _ c.if-index-mapping_words-ne0.true))

pub returns-then-table_entries-index : goal.returns-then-table_entries-index
returns-then-table_entries-index c =
    from_index (goal.at.returns-then-table_entries-index c).In_ok-check_place c.mapping_words.ensures.is
    (past (same _ _ c.if-index-mapping_words-ne0.false) (here (le-leb _ _ (rw c.table_entries.ensures at c.if-table_entries-index.true))))

pub invariant_of-at : goal.invariant_of-at
invariant_of-at c =
    let at = goal.at.invariant_of-at c in
    record { in_table = record { fits = c.args.region.now.fits; inside = now (placed at.In_ok-check_place); in_table = in_table at.Else-table_entries-index } }

pub returns : goal.returns
returns c =
    from_index (goal.at.returns c).In_ok-check_place c.mapping_words.ensures.is
    (past (same _ _ c.if-index-mapping_words-ne0.false) (past (in_table (goal.at.returns c).Else-table_entries-index) (judged _ c.check_holder.ensures)))
