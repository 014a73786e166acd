-- What the program does with what a read came to, and why it ends (RULES: program).
use Rattle.std.specs.Prelude.{Bool, true, false, cond, List, [], ◌≡◌, ◌⊎◌, ℕ, ◌+◌, ◌*◌, ◌^◌, ◌≤◌, ◌<◌, take}
use Rattle.std.specs.IoError.{error_kind}
use Rattle.std.specs.declared.io.Error.{Error}
use Rattle.std.specs.declared.io.ErrorKind.TheVariants.{Interrupted, WouldBlock}
use Rattle.lines.specs.Stored.{Stored}
use Rattle.rules.specs.Store.{Store}
use Rattle.steps.specs.Records.{record_bytes}
use Rattle.transcript.specs.Sessions.{Session, session, zeros, no_digest, heard, said, closing, Reached}
use Rattle.transcript.specs.Transcript.{batch}
use Rattle.pagemon.specs.declared.arrival.Arrival as arrivals
use Rattle.pagemon.specs.declared.arrival.Arrival.TheVariants.{Bytes, End, Later, Failed}
use Rattle.pagemon.specs.declared.conversation.State as states
use Rattle.pagemon.specs.declared.conversation.State.TheVariants.{Open, Bad, Ended, ReadFailed, WriteFailed, TooLong}

-- program 9: bytes that have arrived are some, and fit behind those that are kept
abbrev pub Fits : ℕ → ℕ → arrivals.Arrival → Type 0
Fits room kept (Bytes n) = (0 < n) × (kept + n ≤ room)
Fits room kept End = Unit {0}
Fits room kept (Later e) = Unit {0}
Fits room kept (Failed e) = Unit {0}

-- program 8: an error that passes by itself: the read or write was interrupted, or would have waited
abbrev pub IsPassing : Error → Type 0
IsPassing e = (error_kind e ≡ Interrupted) ⊎ (error_kind e ≡ WouldBlock)

-- program 1: the image that the program's calls are lent
abbrev pub image : List ℕ
image = no_digest

-- program 9: the session after a read, with what stands behind the bytes that are kept
abbrev pub next : arrivals.Arrival → Session → List ℕ → Session
next (Bytes n) before behind = heard image before (take n behind)
next End before behind = before
next (Later e) before behind = before
next (Failed e) before behind = before

-- program 4, program 5, program 6, program 9: what is printed after a read
abbrev pub due : arrivals.Arrival → Session → List ℕ → List ℕ
due (Bytes n) before behind = said image before (take n behind)
due End before behind = closing before
due (Later e) before behind = []
due (Failed e) before behind = []

-- program 5, program 6, program 8: where the program stands after a read, by whether bad is said
abbrev pub stands : arrivals.Arrival → Bool → states.State
stands (Bytes n) over = cond over Bad Open
stands End over = Ended
stands (Later e) over = ReadFailed e
stands (Failed e) over = ReadFailed e

-- program 9: the program goes on
abbrev pub is_open : states.State → Bool
is_open Open = true
is_open Bad = false
is_open Ended = false
is_open (ReadFailed e) = false
is_open (WriteFailed e) = false
is_open TooLong = false

-- program 5: the program has said bad
abbrev pub is_bad : states.State → Bool
is_bad Open = false
is_bad Bad = true
is_bad Ended = false
is_bad (ReadFailed e) = false
is_bad (WriteFailed e) = false
is_bad TooLong = false

-- program 8, program 9: what the program owes after a read: the session, the text, and where it stands
pub record Answered (arrival : arrivals.Arrival) (before : Session) (behind text₀ : List ℕ) (after : Session) (text : List ℕ) (end : ℕ) (state : states.State) : Type 0 where
  pub session_is : after ≡ next arrival before behind
  pub text_is : Stored text₀ 0 (due arrival before behind) text end
  pub state_is : state ≡ stands arrival after.over

-- program 9: after a turn after which the program goes on, more has arrived, and less than a record is kept
pub record Advanced (obeyed kept obeyed' kept' : ℕ) : Type 0 where
  pub few : obeyed' ≤ obeyed + batch
  pub more : record_bytes * obeyed + kept < record_bytes * obeyed' + kept'
  pub short : kept' < record_bytes

-- program 8: the records after which the program ends, wherever its input does
abbrev pub most : ℕ
most = 2 ^ 56

-- program 5, program 6, program 8: why the program ends, by how many records were obeyed and whether bad was said
abbrev pub Justified : states.State → ℕ → Bool → Type 0
Justified Open number over = ⊥
Justified Bad number over = over ≡ true
Justified Ended number over = over ≡ false
Justified (ReadFailed e) number over = over ≡ false
Justified (WriteFailed e) number over = Unit {0}
Justified TooLong number over = (over ≡ false) × (most ≤ number)

-- program 1, program 9: there are an input and a text, of which this is the session
pub record Underway (now : Session) : Type 0 where
  pub input : List ℕ
  pub text : List ℕ
  pub reached : Reached image zeros input text now

-- program 1, program 8, program 9: what the program leaves is what some input comes to, and it ends for a reason
pub record Concluded (store : Store) (number : ℕ) (state : states.State) : Type 0 where
  pub rest : List ℕ
  pub over : Bool
  pub underway : Underway (session store rest number over)
  pub reason : Justified state number over
