-- The invariant: the array is filled with the first t words of the schedule.
use Rattle.words.proofs.Lists.{Filling}
use Rattle.signature.specs.Sha256.{schedule}
use Rattle.signature.proofs.schedule.block_words.Given as goal

abbrev pub invariant-loop-t : goal.invariant-loop-t
invariant-loop-t l = Filling (schedule l.b) 64 l.w l.t
