-- A refusal leaves all bytes and gives 0; an accepted map leaves its words, their counts and the marks, and gives how many blocks were not marked before.
use mathlib.Core.Path.{◌≡◌, refl, sym, ◌∙◌, ap}
use Prim.Native.Nat.{ℕ}
use Rattle.rules.specs.Refusals.{answer_of}
use Rattle.rules.specs.Store.{Store, kind_at, kinds_of, lent}
use Rattle.rules.specs.Tables as tables
use Rattle.rules.specs.General.{added, hashed_blocks}
use Rattle.rules.specs.Map.{map_outcome, map_refusals}
use Rattle.ledger.specs.Regions.{store_of}
use Rattle.ledger.proofs.Judge.{decides, refused, refuses, hashed_accepted}
use Rattle.mapping.specs.Meaning.{form_of}
use Rattle.mapping.proofs.Exits.{exit_leaves, exit_gives, accept_leaves}
use Rattle.mapping.proofs.Mappings.{map_target, map_kind, map_region, map_ready, map_spreads, map_memory}
use Rattle.mapping.proofs.Marking.{edited_region, region_fits, region_grants, region_marks}
use Rattle.mapping.proofs.map.map.Goals as goal
use Rattle.mapping.proofs.map.map.Goals.{In_ok-check_map, In_ok-region}

-- the region is that of the two buffers
from_region : (c : In_ok-region) {k : ℕ}
    → (let a = c.args in k ≡ answer_of (map_refusals (form_of a.form) a.golden.now (store_of c.in_ok-region.region) a.request.block a.request.index a.request.target a.request.rights a.request.kind))
    → (let a = c.args in k ≡ answer_of (map_refusals (form_of a.form) a.golden.now (lent a.memory.now a.ledger.now) a.request.block a.request.index a.request.target a.request.rights a.request.kind))
from_region c said =
    let a = c.args in
    said ∙ ap (λ (s : Store). answer_of (map_refusals (form_of a.form) a.golden.now s a.request.block a.request.index a.request.target a.request.rights a.request.kind)) c.in_ok-region.ensures.region

accepted : (c : In_ok-check_map) → (let a = c.args in answer_of (map_refusals (form_of a.form) a.golden.now (lent a.memory.now a.ledger.now) a.request.block a.request.index a.request.target a.request.rights a.request.kind) ≡ 0)
accepted c = sym (from_region (goal.at.In_ok-check_map c).In_ok-region c.in_ok-check_map.ensures)

pub returns-in_err-region : goal.returns-in_err-region
unfolding map_outcome
returns-in_err-region c =
    let said = decides (refused _ _ c.in_err-region.ensures.value (refuses _)) in
    let left = exit_leaves _ _ _ _ _ c.from_residual.ensures.1 said in
    record { value = left.value; hashed = exit_gives _ _ _ _ _ c.from_residual.ensures.1 said; ledger_after = left.ledger_after }

pub returns-in_err-check_map : goal.returns-in_err-check_map
unfolding map_outcome
returns-in_err-check_map c =
    let said = from_region (goal.at.returns-in_err-check_map c).In_ok-region c.in_err-check_map.ensures in
    let left = exit_leaves _ _ _ _ _ c.from_residual-in_err-check_map.ensures.1 said in
    record { value = left.value; hashed = exit_gives _ _ _ _ _ c.from_residual-in_err-check_map.ensures.1 said; ledger_after = left.ledger_after }

pub hashed_blocks-hashed-requires : goal.hashed_blocks-hashed-requires
hashed_blocks-hashed-requires c =
    let a = c.args in
    (map_region (form_of a.form) a.golden.now (store_of c.in_ok-region.region) a.request.block a.request.index a.request.target a.request.rights a.request.kind (sym c.in_ok-check_map.ensures) _ c.target_blocks-n.ensures.is).1

pub kind-kind-requires : goal.kind-kind-requires
kind-kind-requires c =
    let a = c.args in
    (map_kind (form_of a.form) a.golden.now (store_of c.in_ok-region.region) a.request.block a.request.index a.request.target a.request.rights a.request.kind (sym c.in_ok-check_map.ensures)).1

pub mapping_word-w-requires : goal.mapping_word-w-requires
mapping_word-w-requires c =
    let a = c.args in
    map_target (form_of a.form) a.golden.now (store_of c.in_ok-region.region) a.request.block a.request.index a.request.target a.request.rights a.request.kind (sym c.in_ok-check_map.ensures)

pub write_entries-requires : goal.write_entries-requires
write_entries-requires c =
    let a = c.args in
    let ready = map_ready (form_of a.form) a.golden.now (lent a.memory.now a.ledger.now) a.request.block a.request.index a.request.target a.request.rights a.request.kind
    (accepted (goal.at.write_entries-requires c).In_ok-check_map) c.mapping-e.ensures c.mapping_words.ensures.is c.target_blocks-n.ensures.is in
    record { slot = ready.0; grants_inside = ready.1.0; countable = ready.1.1 }

pub mark_executed-requires : goal.mark_executed-requires
mark_executed-requires c =
    let a = c.args in
    let spreads = map_spreads (form_of a.form) a.request.target a.request.rights c.mapping-e.ensures c.target_blocks-n.ensures.is in
    let (t1, inside) = map_region (form_of a.form) a.golden.now (lent a.memory.now a.ledger.now) a.request.block a.request.index a.request.target a.request.rights a.request.kind
    (accepted (goal.at.mark_executed-requires c).In_ok-check_map) _ c.target_blocks-n.ensures.is in
    let same = edited_region added (lent a.memory.now a.ledger.now) _ _ _ _ _ _ c.write_entries.ensures.memory_after (c.write_entries.ensures.by_index _ _ spreads) in
    (region_fits same t1, region_grants same _ _ _ inside)

pub returns : goal.returns
unfolding map_outcome
returns c =
    let a = c.args in
    let said = accepted (goal.at.returns c).In_ok-check_map in
    let target = map_target (form_of a.form) a.golden.now (lent a.memory.now a.ledger.now) a.request.block a.request.index a.request.target a.request.rights a.request.kind said in
    let spreads = map_spreads (form_of a.form) a.request.target a.request.rights c.mapping-e.ensures c.target_blocks-n.ensures.is in
    let words = c.write_entries.ensures.memory_after in
    let counted = c.write_entries.ensures.by_index _ _ spreads in
    let same = edited_region added (lent a.memory.now a.ledger.now) _ _ _ _ _ _ words counted in
    let kind = c.kind-kind.ensures ∙ ap (λ (s : Store). kind_at (kinds_of s.ledger) a.request.kind) c.in_ok-region.ensures.region in
    let memory = map_memory (form_of a.form) a.golden.now (lent a.memory.now a.ledger.now) a.request.block a.request.index a.request.target a.request.rights a.request.kind _ target.1 (rw kind at c.mapping_word-w.ensures) c.mapping_words.ensures.is words in
    let ledger = rw counted at (region_marks same _ _ (c.mark_executed.ensures _ _ spreads)) in
    let hashed = c.hashed_blocks-hashed.ensures _ _ spreads ∙ ap (λ (s : Store). hashed_blocks s (tables.mapping_words (form_of a.form)) (tables.mapping (form_of a.form) a.request.target a.request.rights)) c.in_ok-region.ensures.region in
    let left = accept_leaves _ _ _ (sym said) memory ledger in
    record { value = left.value; hashed = hashed_accepted _ _ _ (sym said) refl hashed; ledger_after = left.ledger_after }
