-- What was read and written makes the session, and more has arrived after every turn.
use Rattle.std.proofs.Common.{false, ◌≡◌, ◌+◌, ◌-◌, ◌*◌, ◌≤◌, ◌<◌}
use Rattle.steps.specs.Records.{record_bytes}
use Rattle.transcript.specs.Transcript.{batch}
use Rattle.pagemon.specs.Conversation.{most}
use Rattle.pagemon.specs.Printed.{Exchanged}
use Rattle.pagemon.specs.Session.{session_of}
use Rattle.pagemon.proofs.conversation.converse.Given as goal

abbrev pub invariant-loop-session : goal.invariant-loop-session
invariant-loop-session g l =
    (l.session.memory.ghost_name ≡ l.initial.session.memory.ghost_name)
    × (l.session.ledger.ghost_name ≡ l.initial.session.ledger.ghost_name)
    × (l.session.kept < record_bytes)
    × (l.session.obeyed ≤ most + batch)
    × Exchanged (g.R.Read.remaining l.initial.reader) (g.R.Read.remaining l.reader) (g.W.Write.contents l.initial.writer) (g.W.Write.contents l.writer)
    (session_of l.session false)

abbrev pub decreases-loop-session : goal.decreases-loop-session
decreases-loop-session g l = record_bytes * (most + batch + 1) - (record_bytes * l.session.obeyed + l.session.kept)
