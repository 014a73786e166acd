-- What the program reads and writes, where it is known what its input has and what its output holds (RULES: program).
use Rattle.std.specs.Prelude.{Bool, true, false, List, [], ◌++◌, ℕ, Option, take}
use Rattle.std.specs.Io.KnownBytes.{Appends, Consumes, IsAtEnd}
use Rattle.rules.specs.Store.{Store}
use Rattle.transcript.specs.Sessions.{Session, session, zeros, closing, Reached, Prints}
use Rattle.pagemon.specs.Conversation.{image, Justified}
use Rattle.pagemon.specs.declared.arrival.Arrival as arrivals
use Rattle.pagemon.specs.declared.arrival.Arrival.TheVariants.{Bytes, End, Later, Failed}
use Rattle.pagemon.specs.declared.conversation.State as states
use Rattle.pagemon.specs.declared.conversation.State.TheVariants.{Open, Bad, Ended, ReadFailed, WriteFailed, TooLong}

-- program 9: nothing has come yet
abbrev pub is_later : arrivals.Arrival → Bool
is_later (Bytes n) = false
is_later End = false
is_later (Later e) = true
is_later (Failed e) = false

-- program 9: the bytes that a read brings, which then stand behind those that are kept
abbrev pub brought : arrivals.Arrival → List ℕ → List ℕ
brought (Bytes n) behind = take n behind
brought End behind = []
brought (Later e) behind = []
brought (Failed e) behind = []

-- program 8: an output takes a part of a text, from its front on
abbrev pub AppendsPart : Option (List ℕ) → Option (List ℕ) → List ℕ → Type 0
AppendsPart held held' text = (n : ℕ) × Appends held held' (take n text)

-- program 5, program 6, program 8: what the output has taken where the program ends, of the text that was due by then and of what is due where the
-- input ends
abbrev pub Written : states.State → Option (List ℕ) → Option (List ℕ) → List ℕ → List ℕ → Type 0
Written Open held held' text last = ⊥
Written Bad held held' text last = Appends held held' text
Written Ended held held' text last = Appends held held' (text ++ last)
Written (ReadFailed e) held held' text last = Appends held held' text
Written (WriteFailed e) held held' text last = AppendsPart held held' (text ++ last)
Written TooLong held held' text last = Appends held held' text

-- program 6: where the program ends since its input does, the input has no more
abbrev pub Exhausted : states.State → Option (List ℕ) → Type 0
Exhausted Open left = Unit {0}
Exhausted Bad left = Unit {0}
Exhausted Ended left = IsAtEnd left
Exhausted (ReadFailed e) left = Unit {0}
Exhausted (WriteFailed e) left = Unit {0}
Exhausted TooLong left = Unit {0}

-- program 9: of what the input had and what the output held as the program began, these bytes were read and this text was written, and they make
-- this session
pub record Exchanged (left left' held held' : Option (List ℕ)) (now : Session) : Type 0 where
  pub input : List ℕ
  pub text : List ℕ
  pub reached : Reached image zeros input text now
  pub taken : Consumes left left' input
  pub written : Appends held held' text

-- program 4, program 5, program 6, program 8, program 9: what the program has read and written where it ends
pub record Printed (left left' held held' : Option (List ℕ)) (store : Store) (number : ℕ) (state : states.State) : Type 0 where
  pub input : List ℕ
  pub text : List ℕ
  pub rest : List ℕ
  pub over : Bool
  pub prints : Prints image zeros input text (session store rest number over)
  pub reached : Reached image zeros input text (session store rest number over)
  pub reason : Justified state number over
  pub taken : Consumes left left' input
  pub all : Exhausted state left'
  pub written : Written state held held' text (closing (session store rest number over))
