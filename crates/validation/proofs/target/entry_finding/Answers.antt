-- Each return is decided by the tests up to its own.
use mathlib.Core.Path.{◌∙◌}
use native.Mathlib.Omega.{arith}
use Rattle.words.proofs.Bounded.{told}
use Rattle.ledger.specs.Regions.{store_of}
use Rattle.validation.proofs.Covers.{entry_recorded}
use Rattle.validation.proofs.Surveys.{found_unaccepted, found_astray, found_target, found_idle, idle_gathers}
use Rattle.validation.proofs.target.entry_finding.Goals as goal

pub returns-then-is_unaccepted : goal.returns-then-is_unaccepted
returns-then-is_unaccepted c = record { value = found_unaccepted _ _ _ _ (told c.is_unaccepted.ensures c.if-is_unaccepted.true); gathered = λ z. let f : ⊥ = omega arith in absurd f }

pub returns-then-is_astray : goal.returns-then-is_astray
returns-then-is_astray c = record { value = found_astray _ _ _ _ (told c.is_unaccepted.ensures c.if-is_unaccepted.false) (told c.is_astray.ensures c.if-is_astray.true); gathered = λ z. let f : ⊥ = omega arith in absurd f }

pub target_finding-requires : goal.target_finding-requires
target_finding-requires c = let a = c.args in
    let inside = told c.is_astray.ensures c.if-is_astray.false in
    (inside, entry_recorded (store_of a.region.now) _ a.region.now.fits inside)

pub returns-then-grants_some : goal.returns-then-grants_some
returns-then-grants_some c = record { value = c.target_finding.ensures.value ∙ found_target _ _ _ _ (told c.is_unaccepted.ensures c.if-is_unaccepted.false) (told c.is_astray.ensures c.if-is_astray.false); gathered = c.target_finding.ensures.gathered }

pub returns : goal.returns
returns c = record { value = found_idle _ _ _ _ (told c.is_unaccepted.ensures c.if-is_unaccepted.false) (told c.is_astray.ensures c.if-is_astray.false) (told c.grants_some.ensures c.if-grants_some.false); gathered = λ z. idle_gathers _ _ _ (told c.grants_some.ensures c.if-grants_some.false) }
