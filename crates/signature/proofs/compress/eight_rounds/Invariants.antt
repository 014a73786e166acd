-- The invariant: j rounds are done.
use Rattle.std.proofs.Common.{◌≡◌}
use Rattle.signature.specs.Sha256.{rounds}
use Rattle.signature.proofs.compress.eight_rounds.Given as goal

abbrev pub invariant-loop-j : goal.invariant-loop-j
invariant-loop-j l = l.v ≡ rounds l.initial.v l.w l.t l.j
