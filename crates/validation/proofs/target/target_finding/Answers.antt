-- Each return is decided by the tests up to its own; where nothing is held against the entry, it is gathered.
use mathlib.Core.Path.{refl}
use native.Mathlib.Omega.{arith}
use Rattle.words.proofs.Bounded.{told}
use Rattle.validation.specs.Findings.{finding}
use Rattle.validation.proofs.Clashes.{none_joins}
use Rattle.validation.proofs.target.target_finding.Goals as goal

pub returns-then-is_unfit : goal.returns-then-is_unfit
unfolding finding
returns-then-is_unfit c = record { value = rw (told c.is_unfit.ensures c.if-is_unfit.true) refl; gathered = λ z. let f : ⊥ = omega arith in absurd f }

pub returns-then-meets_count : goal.returns-then-meets_count
unfolding finding
returns-then-meets_count c = record { value = rw (told c.is_unfit.ensures c.if-is_unfit.false, told c.meets_count.ensures c.if-meets_count.true) refl; gathered = λ z. let f : ⊥ = omega arith in absurd f }

pub returns-then-grants : goal.returns-then-grants
unfolding finding
returns-then-grants c = record { value = rw (told c.is_unfit.ensures c.if-is_unfit.false, told c.meets_count.ensures c.if-meets_count.false, told c.grants-2.ensures c.if-grants.true) refl; gathered = λ z. record { joins = c.insert_executed.ensures; notes = rw c.grants.ensures refl } }

pub returns : goal.returns
unfolding finding
returns c = record { value = rw (told c.is_unfit.ensures c.if-is_unfit.false, told c.meets_count.ensures c.if-meets_count.false, told c.grants-2.ensures c.if-grants.false) refl; gathered = λ z. record { joins = λ k. none_joins _ _ _ k (told c.grants-2.ensures c.if-grants.false); notes = rw c.grants.ensures refl } }
