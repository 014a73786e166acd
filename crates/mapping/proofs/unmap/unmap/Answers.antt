-- A refusal leaves all bytes, and an accepted unmap leaves faults where the entries stood, and the counters without them.
use mathlib.Core.Path.{◌≡◌, sym, ◌∙◌, ap}
use Prim.Native.Nat.{ℕ, ◌+◌}
use native.Mathlib.Omega.{arith}
use Rattle.entries.specs.Entries.{Entry}
use Rattle.entries.specs.Meaning.{meaning}
use Rattle.rules.specs.Refusals.{answer_of}
use Rattle.rules.specs.Store.{Store, lent}
use Rattle.rules.specs.Tables as tables
use Rattle.rules.specs.Tables.{table_entry}
use Rattle.rules.specs.Unmap.{unmap_outcome, unmap_refusals}
use Rattle.rules.proofs.Refusals.{Passed, passed}
use Rattle.ledger.specs.Regions.{store_of}
use Rattle.ledger.proofs.Judge.{decides, refused, refuses, accepted, judged}
use Rattle.mapping.specs.Meaning.{form_of}
use Rattle.mapping.specs.Needs.{SpeaksFor}
use Rattle.mapping.specs.Pieces.{removal_refusals, slot_refusals}
use Rattle.mapping.proofs.Exits.{exit_leaves, accept_leaves}
use Rattle.mapping.proofs.Unmapping.{slot_table, entry_speaks, unmap_judged, unmap_ready, unmap_memory, unmap_spreads}
use Rattle.mapping.proofs.unmap.unmap.Goals as goal
use Rattle.mapping.proofs.unmap.unmap.Goals.{After-entry-e, In_ok-check_slot}

-- the region is that of the two buffers: what its judges say is said of these
slotted : (c : In_ok-check_slot) → (let a = c.args in Passed (slot_refusals (form_of a.form) (lent a.memory.now a.ledger.now) a.block a.index))
slotted c =
    let a = c.args in passed _ (omega arith) (sym (c.in_ok-check_slot.ensures ∙ ap (λ (s : Store). answer_of (slot_refusals (form_of a.form) s a.block a.index)) c.in_ok-region.ensures.region))

-- the first entry, at the form's level
first_is : (c : After-entry-e) → (let a = c.args in meaning c.entry-e.result ≡ table_entry (tables.level (form_of a.form)) (lent a.memory.now a.ledger.now) a.block a.index)
first_is c =
    let a = c.args in
    rw c.level.ensures at c.entry-e.ensures ∙ ap (λ (s : Store). table_entry (tables.level (form_of a.form)) s a.block a.index) c.in_ok-region.ensures.region

-- and all is judged
from_removal : (c : After-entry-e) {k : ℕ}
    → (let a = c.args in ((x : ℕ → Entry) → SpeaksFor (form_of a.form) (meaning c.entry-e.result) x → k ≡ answer_of (removal_refusals (form_of a.form) (store_of c.in_ok-region.region) x))
    → k ≡ answer_of (unmap_refusals (form_of a.form) (lent a.memory.now a.ledger.now) a.block a.index))
from_removal c said =
    let a = c.args in
    let passes = slotted (goal.at.After-entry-e c).In_ok-check_slot in
    let speaks = entry_speaks (form_of a.form) (lent a.memory.now a.ledger.now) a.block a.index passes (first_is c) in
    unmap_judged (form_of a.form) (lent a.memory.now a.ledger.now) a.block a.index
    (accepted passes (judged _ (said _ speaks ∙ ap (λ (s : Store). answer_of (removal_refusals (form_of a.form) s (λ i. table_entry (tables.level (form_of a.form)) (lent a.memory.now a.ledger.now) a.block (a.index + i)))) c.in_ok-region.ensures.region)))

pub returns-in_err-region : goal.returns-in_err-region
unfolding unmap_outcome
returns-in_err-region c = exit_leaves _ _ _ _ _ c.from_residual.ensures.1 (decides (refused _ _ c.in_err-region.ensures.value (refuses _)))

pub returns-in_err-check_slot : goal.returns-in_err-check_slot
unfolding unmap_outcome
returns-in_err-check_slot c =
    let a = c.args in
    exit_leaves _ _ _ _ _ c.from_residual-in_err-check_slot.ensures.1
    (unmap_judged (form_of a.form) (lent a.memory.now a.ledger.now) a.block a.index
    (refused _ _ (c.in_err-check_slot.ensures ∙ ap (λ (s : Store). answer_of (slot_refusals (form_of a.form) s a.block a.index)) c.in_ok-region.ensures.region) (refuses _)))

pub invariant_of-at : goal.invariant_of-at
invariant_of-at c =
    let a = c.args in record { in_table = rw c.level.ensures (slot_table (form_of a.form) (store_of c.in_ok-region.region) a.block a.index (passed _ (omega arith) (sym c.in_ok-check_slot.ensures))) }

pub returns-in_err-check_removal : goal.returns-in_err-check_removal
unfolding unmap_outcome
returns-in_err-check_removal c =
    exit_leaves _ _ _ _ _ c.from_residual-in_err-check_removal.ensures.1 (from_removal (goal.at.returns-in_err-check_removal c).After-entry-e c.in_err-check_removal.ensures)

pub write_entries-requires : goal.write_entries-requires
write_entries-requires c =
    let a = c.args in
    let at = (goal.at.write_entries-requires c).After-entry-e in
    let ready = unmap_ready (form_of a.form) (lent a.memory.now a.ledger.now) a.block a.index (sym (from_removal at c.in_ok-check_removal.ensures)) (first_is at) c.mapping_words.ensures.is c.place_first.ensures c.place_blocks.ensures in
    record { slot = ready.0; grants_inside = ready.1.0; countable = ready.1.1 }

pub returns : goal.returns
unfolding unmap_outcome
returns c =
    let a = c.args in
    let at = (goal.at.returns c).After-entry-e in
    let said = from_removal at c.in_ok-check_removal.ensures in
    let e = c.write_entries.ensures in
    let memory = unmap_memory (form_of a.form) (lent a.memory.now a.ledger.now) a.block a.index c.mapping_words.ensures.is e.memory_after in
    let ledger = (rw (c.place_first.ensures, c.place_blocks.ensures) at e.by_index) _ _ (unmap_spreads (form_of a.form) (lent a.memory.now a.ledger.now) a.block a.index (sym said) (first_is at)) in
    accept_leaves _ _ _ said memory ledger
