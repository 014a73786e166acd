-- Each return is decided by the tests up to its own.
use mathlib.Core.Path.{refl, sym, ◌∙◌, ◌≡◌}
use mathlib.Core.List.{List, ◌∷◌, []}
use Prim.Native.Nat.{ℕ}
use native.Mathlib.Omega.{arith}
use borrow.Author.Tests.{le-leb, lt-leb}
use Rattle.words.proofs.Bounded.{differ, same}
use Rattle.entries.specs.Meaning.{level_of}
use Rattle.entries.specs.Entries.{Level}
use Rattle.rules.specs.Signature.{image_refusals}
use Rattle.rules.specs.Refusals.{Refusal, ◌if◌, answer_of}
use Rattle.rules.specs.Tables.{target_blocks, mapping_words}
use Rattle.rules.specs.General.{misaligned, beyond_table}
use Rattle.rules.specs.Map.{no_kind}
use Rattle.rules.proofs.Refusals.{passed, Passed}
use Rattle.ledger.specs.Pieces.{place_refusals}
use Rattle.ledger.specs.Regions.{store_of}
use Rattle.ledger.proofs.Judge.{Decides, decides, none, here, past, refused, refuses, accepted}
use Rattle.mapping.specs.Meaning.{form_of}
use Rattle.mapping.specs.Pieces.{map_place_refusals}
use Rattle.mapping.proofs.Exits.{exit_answers}
use Rattle.mapping.proofs.Mappings.{place_judged}
use Rattle.mapping.proofs.map.check_map_place.Goals as goal
use Rattle.mapping.proofs.map.check_map_place.Goals.{Else-request-mapping_words-ne0, Else-request-target_blocks-ne0, In_ok-check_image, In_ok-check_place}

-- what has passed, by the place in the code
imaged : (c : In_ok-check_image) → Passed (image_refusals c.args.golden.now)
imaged c = passed _ (omega arith) (sym c.in_ok-check_image.ensures)

abbrev at_level : In_ok-check_place → Level
at_level c = level_of c.level-level.result

placed : (c : In_ok-check_place) → Passed (place_refusals (at_level c) (store_of c.args.region.now) c.args.request.block)
placed c = passed _ (omega arith) (sym c.in_ok-check_place.ensures)

-- then the tests that are left decide
abbrev target-next : In_ok-check_place → ℕ → ℕ → List Refusal
target-next c m n = 3 if misaligned c.args.request.target m ∷ 3 if misaligned c.args.request.index n ∷ 4 if beyond_table (at_level c) c.args.request.index ∷ 4 if no_kind c.args.request.kind ∷ []

from_target : (c : In_ok-check_place) {m n k : ℕ} → m ≡ target_blocks (form_of c.args.form) → n ≡ mapping_words (form_of c.args.form) → Decides (target-next c m n) k
    → (let a = c.args in k ≡ answer_of (map_place_refusals (form_of a.form) a.golden.now (store_of a.region.now) a.request.block a.request.index a.request.target a.request.kind))
from_target c blocks words d =
    let a = c.args in
    place_judged (form_of a.form) a.golden.now (store_of a.region.now) a.request.block a.request.index a.request.target a.request.kind c.level-level.ensures blocks words
    (past a.region.now.fits (accepted (imaged (goal.at.In_ok-check_place c).In_ok-check_image) (accepted (placed c) d)))

from_index : (c : Else-request-target_blocks-ne0) {n k : ℕ} → n ≡ mapping_words (form_of c.args.form)
    → Decides (3 if misaligned c.args.request.index n ∷ 4 if beyond_table (level_of c.level-level.result) c.args.request.index ∷ 4 if no_kind c.args.request.kind ∷ []) k
    → (let a = c.args in k ≡ answer_of (map_place_refusals (form_of a.form) a.golden.now (store_of a.region.now) a.request.block a.request.index a.request.target a.request.kind))
from_index c words d = from_target (goal.at.Else-request-target_blocks-ne0 c).In_ok-check_place c.target_blocks.ensures.is words (past (same _ _ c.if-request-target_blocks-ne0.false) d)

from_end : (c : Else-request-mapping_words-ne0) {k : ℕ} → Decides (4 if beyond_table (level_of c.level-level.result) c.args.request.index ∷ 4 if no_kind c.args.request.kind ∷ []) k
    → (let a = c.args in k ≡ answer_of (map_place_refusals (form_of a.form) a.golden.now (store_of a.region.now) a.request.block a.request.index a.request.target a.request.kind))
from_end c d = from_index (goal.at.Else-request-mapping_words-ne0 c).Else-request-target_blocks-ne0 c.mapping_words.ensures.is (past (same _ _ c.if-request-mapping_words-ne0.false) d)

pub returns-in_err-check_image : goal.returns-in_err-check_image
returns-in_err-check_image c = exit_answers _ _ c.from_residual.ensures.1 ∙ decides (past c.args.region.now.fits (refused _ _ c.in_err-check_image.ensures (refuses _)))

pub returns-in_err-check_place : goal.returns-in_err-check_place
returns-in_err-check_place c =
    let a = c.args in
    exit_answers _ _ c.from_residual-in_err-check_place.ensures.1
    ∙ place_judged (form_of a.form) a.golden.now (store_of a.region.now) a.request.block a.request.index a.request.target a.request.kind c.level-level.ensures refl refl
    (past a.region.now.fits (accepted (imaged (goal.at.returns-in_err-check_place c).In_ok-check_image) (refused _ _ c.in_err-check_place.ensures (refuses _))))

pub returns-then-request-target_blocks-ne0 : goal.returns-then-request-target_blocks-ne0
returns-then-request-target_blocks-ne0 c = from_target (goal.at.returns-then-request-target_blocks-ne0 c).In_ok-check_place c.target_blocks.ensures.is refl (here (differ _ _ c.if-request-target_blocks-ne0.true))

pub returns-then-request-mapping_words-ne0 : goal.returns-then-request-mapping_words-ne0
returns-then-request-mapping_words-ne0 c = from_index (goal.at.returns-then-request-mapping_words-ne0 c).Else-request-target_blocks-ne0 c.mapping_words.ensures.is (here (differ _ _ c.if-request-mapping_words-ne0.true))

pub returns-then-table_entries-request : goal.returns-then-table_entries-request
returns-then-table_entries-request c = from_end (goal.at.returns-then-table_entries-request c).Else-request-mapping_words-ne0 (here (le-leb _ _ (rw c.table_entries.ensures at c.if-table_entries-request.true)))

pub returns-then-request-ge-KINDS : goal.returns-then-request-ge-KINDS
returns-then-request-ge-KINDS c =
    from_end (goal.at.returns-then-request-ge-KINDS c).Else-request-mapping_words-ne0
    (past (lt-leb _ _ (rw c.table_entries.ensures at c.if-table_entries-request.false)) (here (le-leb _ _ c.if-request-ge-KINDS.true)))

pub returns : goal.returns
returns c =
    from_end (goal.at.returns c).Else-request-mapping_words-ne0
    (past (lt-leb _ _ (rw c.table_entries.ensures at c.if-table_entries-request.false)) (past (lt-leb _ _ c.if-request-ge-KINDS.false) none))
