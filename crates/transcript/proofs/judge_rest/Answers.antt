-- Bad is due where the bytes begin no record.
use mathlib.Core.Path.{sym, ◌∙◌}
use native.Mathlib.Omega.{arith}
use Rattle.transcript.proofs.Batches.{no_bad, a_bad, bad_fits, bad_ends}
use Rattle.transcript.proofs.judge_rest.Goals as goal

pub returns-then-not-is_spoilt-clause-added : goal.returns-then-not-is_spoilt-clause-added
returns-then-not-is_spoilt-clause-added c = no_bad _ _ _ (sym c.is_spoilt.ensures ∙ c.if-not-is_spoilt.true)

pub returns-clause-added : goal.returns-clause-added
returns-clause-added c = a_bad _ _ _ (sym c.is_spoilt.ensures ∙ c.if-not-is_spoilt.false) (bad_fits _ _ _ (omega arith) c.push_line.ensures.added)

pub returns-clause-end_in_bounds : goal.returns-clause-end_in_bounds
returns-clause-end_in_bounds c = bad_ends _ _ _ (omega arith) (omega arith) c.push_line.ensures.added
