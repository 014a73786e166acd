-- All but the rest of the text is written; each turn writes bytes or uses up a try.
use Rattle.std.proofs.Common.{◌+◌, ◌-◌, ◌≤◌, ◌≡◌, take, drop, length}
use Rattle.std.specs.Io.KnownBytes.{Appends}
use Rattle.pagemon.proofs.output.write_text.Given as goal

abbrev pub invariant-loop-rest : goal.invariant-loop-rest
invariant-loop-rest g l =
    (length l.rest ≤ length l.text)
    × (l.rest ≡ drop (length l.text - length l.rest) l.text)
    × Appends (g.W.Write.contents l.initial.writer) (g.W.Write.contents l.writer) (take (length l.text - length l.rest) l.text)

abbrev pub decreases-loop-rest : goal.decreases-loop-rest
decreases-loop-rest g l = length l.rest + l.tries
