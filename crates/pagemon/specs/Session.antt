-- What the program keeps between two reads, as a session (RULES: program).
use Rattle.std.specs.Prelude.{Bool, take}
use Rattle.rules.specs.Store.{lent}
use Rattle.transcript.specs.Sessions as sessions
use Rattle.pagemon.specs.declared.conversation.Session.{Session}

-- program 9: the session that the program keeps, by whether it has said bad
abbrev pub session_of : Session → Bool → sessions.Session
session_of kept over = sessions.session (lent kept.memory.now kept.ledger.now) (take kept.kept kept.input) kept.obeyed over
