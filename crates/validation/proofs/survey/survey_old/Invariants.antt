-- The invariant: the greatest finding of the entries passed.
use mathlib.Core.Path.{◌≡◌}
use Prim.Native.Nat.{◌-◌, ◌≤◌}
use Rattle.entries.specs.Meaning.{level_of}
use Rattle.validation.specs.Findings.{finding_of, old_finding}
use Rattle.validation.specs.Tests.{entry_from}
use Rattle.validation.proofs.survey.survey_old.Given as goal

abbrev pub invariant-loop-i : goal.invariant-loop-i
invariant-loop-i l = (l.i ≤ l.m) × (finding_of l.found ≡ old_finding l.first l.n l.i (entry_from (level_of l.level) l.memory l.j))

abbrev pub decreases-loop-i : goal.decreases-loop-i
decreases-loop-i l = l.m - l.i
