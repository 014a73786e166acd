-- What a message in two pieces is.
use Rattle.std.specs.Prelude.{ℕ, List, ◌++◌}
use Rattle.signature.specs.declared.padding.Message.{Message}

-- signature 1: the bytes of a message that is lent in two pieces: the head's, and behind them the body's
abbrev pub joined : Message → List ℕ
joined m = m.head.now ++ m.body.now
