-- By the direction, the sum or the difference.
use native.Mathlib.Omega.{arith}
use Rattle.rules.specs.General.{end_value}
use Rattle.ledger.proofs.counters.end_value.Goals as goal

pub overflow_add-result : goal.overflow_add-result
overflow_add-result c = let h = rw c.in-Added.is at c.requires in omega arith

pub overflow_sub-result : goal.overflow_sub-result
overflow_sub-result c = let h = rw c.in-Removed.is at c.requires in omega arith

pub returns-in-Added : goal.returns-in-Added
unfolding end_value
returns-in-Added c = rw c.in-Added.is

pub returns-in-Removed : goal.returns-in-Removed
unfolding end_value
returns-in-Removed c = rw c.in-Removed.is
