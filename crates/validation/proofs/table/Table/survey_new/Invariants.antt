-- The invariant: the greatest finding of the entries passed, and what was gathered of them.
use mathlib.Core.Path.{◌≡◌}
use Prim.Native.Nat.{◌-◌, ◌≤◌, ◌<◌}
use Rattle.entries.specs.Meaning.{level_of}
use Rattle.ledger.specs.Regions.{store_of}
use Rattle.validation.specs.Findings.{finding_of, new_finding}
use Rattle.validation.specs.Sets.{AllGathered}
use Rattle.validation.specs.Tables.{entries_of}
use Rattle.validation.proofs.table.Table.survey_new.Given as goal

abbrev pub invariant-loop-i : goal.invariant-loop-i
invariant-loop-i l =
    (l.i ≤ l.self.entries) × (finding_of l.found ≡ new_finding (level_of l.self.level) (store_of l.self.region) l.block l.i (entries_of l.self))
    × (finding_of l.found < 2 → AllGathered (store_of l.self.region) l.i (entries_of l.self) l.members.bits l.writes)

abbrev pub decreases-loop-i : goal.decreases-loop-i
decreases-loop-i l = l.self.entries - l.i
