-- The turns of the program: a session goes on by what has arrived, and ends for a reason.
use mathlib.Core.Bool.{Bool, true, false, cond, false≢true}
use mathlib.Core.List.{List, []}
use mathlib.Core.Logic.{◌⊎◌, inl, inr}
use mathlib.Core.Path.{◌≡◌, refl, sym, ◌∙◌, ap}
use Prim.Native.Nat.{ℕ, ◌+◌, ◌≤◌}
use lib.ListN.{length, take, drop}
use lib.Seq.{take-add, length-take-le}
use Rattle.std.specs.declared.io.Error.{Error}
use Rattle.words.specs.Lists.{put_list}
use Rattle.lines.specs.Stored.{Stored}
use Rattle.rules.specs.Store.{Store}
use Rattle.transcript.specs.Sessions.{Session, session, zeros, turned, told, closing, ending, started, arrived}
use Rattle.pagemon.specs.declared.arrival.Arrival.{Arrival}
use Rattle.pagemon.specs.declared.arrival.Arrival.TheVariants.{Bytes, End, Later, Failed}
use Rattle.pagemon.specs.declared.conversation.State.{State}
use Rattle.pagemon.specs.declared.conversation.State.TheVariants.{Open, Bad, Ended, ReadFailed, WriteFailed, TooLong}
use Rattle.pagemon.specs.Conversation.{image, next, stands, is_open, is_bad, Answered, Justified, Underway, Concluded}

-- The turn of an arrival

-- the state tells whether bad is said
pub bad_over : (over : Bool) {state : State} → state ≡ cond over Bad Open → is_bad state ≡ over
bad_over true e = ap is_bad e
bad_over false e = ap is_bad e

-- where the program goes on, bad was not said
pub open_false : (state : State) → is_open state ≡ true → is_bad state ≡ false
open_false Open o = refl
open_false Bad o = absurd (false≢true o)
open_false Ended o = absurd (false≢true o)
open_false (ReadFailed e) o = absurd (false≢true o)
open_false (WriteFailed e) o = absurd (false≢true o)
open_false TooLong o = absurd (false≢true o)

module _ (s : Store) (input : List ℕ) (kept number : ℕ) {arrival : Arrival} {text₀ : List ℕ} where
  pub arrived_turn : (n : ℕ) {after : Session} {text : List ℕ} {end : ℕ} {state : State} → arrival ≡ Bytes n → after ≡ turned image s number (take (kept + n) input)
      → Stored text₀ 0 (told image s number (take (kept + n) input)) text end → state ≡ cond after.over Bad Open
      → Answered arrival (session s (take kept input) number false) (drop kept input) text₀ after text end state
  arrived_turn n e a t st =
      let split = take-add kept n input in
      rw e (record { session_is = rw split at a; text_is = rw split at t; state_is = st })

  pub ended_turn : {text : List ℕ} {end : ℕ} → arrival ≡ End → kept ≤ length input → Stored text₀ 0 (ending kept number) text end
      → Answered arrival (session s (take kept input) number false) (drop kept input) text₀ (session s (take kept input) number false) text end Ended
  unfolding closing
  ended_turn e h t = rw e (record { session_is = refl; text_is = rw (length-take-le kept input h) t; state_is = refl })

  pub failed_turn : {error : Error} → (arrival ≡ Later error) ⊎ (arrival ≡ Failed error)
      → Answered arrival (session s (take kept input) number false) (drop kept input) text₀ (session s (take kept input) number false) text₀ 0 (ReadFailed error)
  unfolding put_list
  failed_turn (inl e) = rw e (record { session_is = refl; text_is = record { bytes = refl; end = refl }; state_is = refl })
  failed_turn (inr e) = rw e (record { session_is = refl; text_is = record { bytes = refl; end = refl }; state_is = refl })

-- The session

pub starts : {s : Store} (input : List ℕ) → s ≡ zeros → Underway (session s (take 0 input) 0 false)
starts input e = rw e (record { input = []; text = []; reached = started })

-- by the same bytes that are not obeyed yet
pub carried : {s : Store} {rest rest' : List ℕ} {number : ℕ} → rest' ≡ rest → Underway (session s rest number false) → Underway (session s rest' number false)
carried e u = rw e u

goes : {before : Session} (behind : List ℕ) → Underway before → before.over ≡ false → (arrival : Arrival) → Underway (next arrival before behind)
goes behind u e (Bytes n) = record { input = _; text = _; reached = arrived u.reached e (take n behind) }
goes behind u e End = u
goes behind u e (Later _) = u
goes behind u e (Failed _) = u

-- no read makes the input too long
too_long : State → Bool
too_long Open = false
too_long Bad = false
too_long Ended = false
too_long (ReadFailed e) = false
too_long (WriteFailed e) = false
too_long TooLong = true

not_too_long : (arrival : Arrival) (over : Bool) → too_long (stands arrival over) ≡ false
unfolding too_long
not_too_long (Bytes n) true = refl
not_too_long (Bytes n) false = refl
not_too_long End over = refl
not_too_long (Later e) over = refl
not_too_long (Failed e) over = refl

pub reasons : (arrival : Arrival) (over : Bool) (state : State) (number : ℕ) → state ≡ stands arrival over → is_open state ≡ false → Justified state number (is_bad state)
unfolding too_long
reasons arrival over Open number e o = absurd (false≢true (sym o))
reasons arrival over Bad number e o = refl
reasons arrival over Ended number e o = refl
reasons arrival over (ReadFailed _) number e o = refl
reasons arrival over (WriteFailed _) number e o = tt
reasons arrival over TooLong number e o = absurd (false≢true (sym (ap too_long e ∙ not_too_long arrival over)))

module _ {s left : Store} {rest rest' behind text₀ text : List ℕ} {number number' end : ℕ} {state : State} {arrival : Arrival} where
  pub goes_on : Underway (session s rest number false)
      → Answered arrival (session s rest number false) behind text₀ (session left rest' number' (is_bad state)) text end state
      → Underway (session left rest' number' (is_bad state))
  goes_on u a = rw a.session_is (goes behind u refl arrival)

  pub stays_open : Underway (session s rest number false)
      → Answered arrival (session s rest number false) behind text₀ (session left rest' number' (is_bad state)) text end state → is_open state ≡ true
      → Underway (session left rest' number' false)
  stays_open u a o = rw (open_false state o) at (goes_on u a)

  pub concludes : Underway (session s rest number false)
      → Answered arrival (session s rest number false) behind text₀ (session left rest' number' (is_bad state)) text end state → is_open state ≡ false
      → Concluded left number' state
  concludes u a o = record { rest = rest'; over = is_bad state; underway = goes_on u a; reason = reasons arrival (is_bad state) state number' a.state_is o }

  pub breaks_off : Underway (session s rest number false)
      → Answered arrival (session s rest number false) behind text₀ (session left rest' number' (is_bad state)) text end state → (error : Error) → Concluded left number' (WriteFailed error)
  breaks_off u a error = record { rest = rest'; over = is_bad state; underway = goes_on u a; reason = tt }
