-- Each return is decided by the tests up to its own.
use mathlib.Core.Path.{◌≡◌, refl, sym, ◌∙◌}
use mathlib.Core.List.{◌∷◌}
use Prim.Native.Nat.{ℕ}
use native.Mathlib.Omega.{arith}
use Rattle.words.proofs.Bounded.{told}
use Rattle.entries.specs.Rights.{unlawful_rights}
use Rattle.rules.specs.Map.{map_refusals}
use Rattle.rules.specs.Refusals.{◌if◌, answer_of}
use Rattle.rules.specs.Tables.{level, mapping_words}
use Rattle.rules.specs.General.{occupied}
use Rattle.rules.proofs.Refusals.{passed, Passed}
use Rattle.ledger.specs.Regions.{store_of}
use Rattle.ledger.proofs.Judge.{Decides, here, past, refused, refuses, accepted, judged}
use Rattle.mapping.specs.Pieces.{holder_refusals, map_place_refusals, map_target_refusals}
use Rattle.mapping.specs.Meaning.{form_of}
use Rattle.mapping.proofs.Exits.{exit_answers}
use Rattle.mapping.proofs.Mappings.{map_table, map_slot, map-judged}
use Rattle.mapping.proofs.Slots.{bounds}
use Rattle.mapping.proofs.map.check_map.Goals as goal
use Rattle.mapping.proofs.map.check_map.Goals.{In_ok-check_holder, In_ok-check_map_place}

-- what has passed, by the place in the code
placed : (c : In_ok-check_map_place) → (let a = c.args in Passed (map_place_refusals (form_of a.form) a.golden.now (store_of a.region.now) a.request.block a.request.index a.request.target a.request.kind))
placed c = passed _ (omega arith) (sym c.in_ok-check_map_place.ensures)

held : (c : In_ok-check_holder) → (let a = c.args in Passed (holder_refusals (level (form_of a.form)) (store_of a.region.now) a.request.block a.request.index))
held c = passed _ (omega arith) (sym (rw c.level.ensures at c.in_ok-check_holder.ensures))

-- then the tests that are left decide
from_words : (c : In_ok-check_holder) {n k : ℕ} → n ≡ mapping_words (form_of c.args.form)
    → Decides (let a = c.args in 8 if occupied (level (form_of a.form)) (store_of a.region.now) a.request.block a.request.index n ∷ 9 if unlawful_rights a.request.rights ∷ map_target_refusals (form_of a.form) a.golden.now (store_of a.region.now) a.request.block a.request.index a.request.target a.request.rights) k
    → let a = c.args in k ≡ answer_of (map_refusals (form_of a.form) a.golden.now (store_of a.region.now) a.request.block a.request.index a.request.target a.request.rights a.request.kind)
from_words c words d =
    let a = c.args in
    map-judged (form_of a.form) a.golden.now (store_of a.region.now) a.request.block a.request.index a.request.target a.request.rights a.request.kind refl words
    (accepted (placed (goal.at.In_ok-check_holder c).In_ok-check_map_place) (accepted (held c) d))

pub returns-in_err-check_map_place : goal.returns-in_err-check_map_place
returns-in_err-check_map_place c =
    let a = c.args in
    exit_answers _ _ c.from_residual.ensures.1
    ∙ map-judged (form_of a.form) a.golden.now (store_of a.region.now) a.request.block a.request.index a.request.target a.request.rights a.request.kind refl refl (refused _ _ c.in_err-check_map_place.ensures (refuses _))

pub invariant_of-at : goal.invariant_of-at
invariant_of-at c =
    let a = c.args in
    record { in_table = rw c.level.ensures (map_table (form_of a.form) a.golden.now (store_of a.region.now) a.request.block a.request.index a.request.target a.request.kind (placed (goal.at.invariant_of-at c).In_ok-check_map_place)) }

pub returns-in_err-check_holder : goal.returns-in_err-check_holder
returns-in_err-check_holder c =
    let a = c.args in
    exit_answers _ _ c.from_residual-in_err-check_holder.ensures.1
    ∙ map-judged (form_of a.form) a.golden.now (store_of a.region.now) a.request.block a.request.index a.request.target a.request.rights a.request.kind c.level.ensures refl
    (accepted (placed (goal.at.returns-in_err-check_holder c).In_ok-check_map_place) (refused _ _ c.in_err-check_holder.ensures (refuses _)))

pub is_occupied-requires : goal.is_occupied-requires
is_occupied-requires c =
    let a = c.args in
    rw c.mapping_words.ensures.is (map_slot (form_of a.form) a.golden.now (store_of a.region.now) a.request.block a.request.index a.request.target a.request.kind (placed (goal.at.is_occupied-requires c).In_ok-check_map_place))

pub returns-then-is_occupied : goal.returns-then-is_occupied
returns-then-is_occupied c = from_words (goal.at.returns-then-is_occupied c).In_ok-check_holder c.mapping_words.ensures.is (here (told (c.is_occupied.ensures _) c.if-is_occupied.true))

pub returns-then-are_unlawful : goal.returns-then-are_unlawful
returns-then-are_unlawful c =
    from_words (goal.at.returns-then-are_unlawful c).In_ok-check_holder c.mapping_words.ensures.is
    (past (told (c.is_occupied.ensures _) c.if-is_occupied.false) (here (told c.are_unlawful.ensures c.if-are_unlawful.true)))

pub check_target-requires-clause-holder_fits : goal.check_target-requires-clause-holder_fits
check_target-requires-clause-holder_fits c =
    let a = c.args in
    let b = bounds (map_table (form_of a.form) a.golden.now (store_of a.region.now) a.request.block a.request.index a.request.target a.request.kind (placed (goal.at.check_target-requires-clause-holder_fits c).In_ok-check_map_place)) in
    let f = b.fit in
    let h = b.high in
    let k = b.holder_in in
    omega arith

pub returns : goal.returns
returns c =
    from_words (goal.at.returns c).In_ok-check_holder c.mapping_words.ensures.is
    (past (told (c.is_occupied.ensures _) c.if-is_occupied.false)
    (past (told c.are_unlawful.ensures c.if-are_unlawful.false)
    (judged _ c.check_target.ensures)))
