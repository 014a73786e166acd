-- A fault grants nothing, a link is counted; else write and execute are tested together.
use mathlib.Core.Path.{refl, ◌∙◌}
use Rattle.words.proofs.Bounded.{told}
use Rattle.ledger.proofs.Counting.{grants_none, grants_link, grants_right}
use Rattle.ledger.proofs.counters.grants_some.Goals as goal

pub returns-then-is_fault : goal.returns-then-is_fault
returns-then-is_fault c = grants_none _ (told c.is_fault.ensures c.if-is_fault.true)

pub returns-then-is_link : goal.returns-then-is_link
returns-then-is_link c = grants_link _ (told c.is_link.ensures c.if-is_link.true)

pub returns : goal.returns
returns c = (rw (c.bits.ensures, c.rights.ensures) refl) ∙ grants_right _ (told c.is_link.ensures c.if-is_link.false)
