-- The invariant: eight times i rounds are done.
use Rattle.std.proofs.Common.{◌≡◌, ◌*◌}
use Rattle.signature.specs.Sha256.{rounds}
use Rattle.signature.proofs.compress.all_rounds.Given as goal

abbrev pub invariant-loop-i : goal.invariant-loop-i
invariant-loop-i l = l.s ≡ rounds l.initial.s l.w 0 (8 * l.i)
