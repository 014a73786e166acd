-- A refusal leaves all bytes, and an accepted link leaves its word and its count.
use mathlib.Core.Path.{◌≡◌, sym, ◌∙◌, ap}
use native.Mathlib.Omega.{arith}
use Rattle.entries.specs.Written.{kindless}
use Rattle.rules.specs.Refusals.{answer_of}
use Rattle.rules.specs.Store.{Store, lent}
use Rattle.rules.specs.Link.{link_outcome, link_refusals}
use Rattle.ledger.proofs.Judge.{decides, refused, refuses}
use Rattle.mapping.proofs.Exits.{exit_leaves, accept_leaves}
use Rattle.mapping.proofs.Linking.{link_place, link_ready, link_table, link_spreads}
use Rattle.mapping.proofs.link.link.Goals as goal
use Rattle.mapping.proofs.link.link.Goals.{In_ok-check_link}

-- the region is that of the two buffers
accepted : (c : In_ok-check_link) → answer_of (link_refusals (lent c.args.memory.now c.args.ledger.now) c.args.block c.args.index c.args.target c.args.table) ≡ 0
accepted c = let a = c.args in sym (c.in_ok-check_link.ensures ∙ ap (λ (s : Store). answer_of (link_refusals s a.block a.index a.target a.table)) c.in_ok-region.ensures.region)

pub returns-in_err-region : goal.returns-in_err-region
unfolding link_outcome
returns-in_err-region c = exit_leaves _ _ _ _ _ c.from_residual.ensures.1 (decides (refused _ _ c.in_err-region.ensures.value (refuses _)))

pub returns-in_err-check_link : goal.returns-in_err-check_link
unfolding link_outcome
returns-in_err-check_link c =
    let a = c.args in
    exit_leaves _ _ _ _ _ c.from_residual-in_err-check_link.ensures.1
    (c.in_err-check_link.ensures ∙ ap (λ (s : Store). answer_of (link_refusals s a.block a.index a.target a.table)) c.in_ok-region.ensures.region)

pub overflow_mul-place : goal.overflow_mul-place
overflow_mul-place c =
    let a = c.args in omega (arith, link_place (lent a.memory.now a.ledger.now) a.block a.index a.target a.table (accepted (goal.at.overflow_mul-place c).In_ok-check_link))

pub overflow_add-place : goal.overflow_add-place
overflow_add-place c =
    let a = c.args in omega (arith, link_place (lent a.memory.now a.ledger.now) a.block a.index a.target a.table (accepted (goal.at.overflow_add-place c).In_ok-check_link))

pub link_word-w-requires : goal.link_word-w-requires
link_word-w-requires c =
    let a = c.args in link_place (lent a.memory.now a.ledger.now) a.block a.index a.target a.table (accepted (goal.at.link_word-w-requires c).In_ok-check_link)

pub write_entries-requires : goal.write_entries-requires
write_entries-requires c =
    let a = c.args in
    let ready = link_ready (lent a.memory.now a.ledger.now) a.block a.index a.target a.table (accepted (goal.at.write_entries-requires c).In_ok-check_link) in
    record { slot = ready.0; grants_inside = ready.1.0; countable = ready.1.1 }

pub returns : goal.returns
unfolding link_outcome
returns c =
    let a = c.args in
    let is = accepted (goal.at.returns c).In_ok-check_link in
    let memory = rw (c.link_word-w.ensures kindless) at c.write_entries.ensures.memory_after in
    let ledger = c.write_entries.ensures.by_index _ _ (link_spreads _ _ (link_table (lent a.memory.now a.ledger.now) a.block a.index a.target a.table is)) in
    accept_leaves _ _ _ (sym is) memory ledger
