-- What a read came to (RULES: program).
use Rattle.std.specs.Prelude.{◌≡◌, ℕ, ◌<◌, Result, Ok, Err}
use Rattle.std.specs.declared.io.Error.{Error}
use Rattle.pagemon.specs.declared.arrival.Arrival as arrivals
use Rattle.pagemon.specs.declared.arrival.Arrival.TheVariants.{Bytes, End, Later, Failed}
use Rattle.pagemon.specs.Conversation.{IsPassing}

-- program 8, program 9: a read that gave so many bytes, none at the end, or an error
abbrev pub Tells : Result ℕ Error → arrivals.Arrival → Type 0
Tells (Ok n) arrival = (n ≡ 0 → arrival ≡ End) × (0 < n → arrival ≡ Bytes n)
Tells (Err e) arrival = (IsPassing e → arrival ≡ Later e) × (¬ IsPassing e → arrival ≡ Failed e)
