-- Each return is decided by the tests up to its own.
use mathlib.Core.Path.{refl}
use Rattle.words.proofs.Bounded.{told}
use Rattle.validation.specs.Findings.{finding}
use Rattle.validation.proofs.survey.place_finding.Goals as goal

pub returns-then-is_unaccepted : goal.returns-then-is_unaccepted
unfolding finding
returns-then-is_unaccepted c = rw (told c.is_unaccepted.ensures c.if-is_unaccepted.true) refl

pub returns-then-is_astray : goal.returns-then-is_astray
unfolding finding
returns-then-is_astray c = rw (told c.is_unaccepted.ensures c.if-is_unaccepted.false, told c.is_astray.ensures c.if-is_astray.true) refl

pub returns : goal.returns
unfolding finding
returns c = rw (told c.is_unaccepted.ensures c.if-is_unaccepted.false, told c.is_astray.ensures c.if-is_astray.false) refl
