-- What the program takes from its input and gives to its output, where it is known what these hold.
use Rattle.std.proofs.Common.{◌≡◌, refl, ap, ◌∙◌, Bool, true, false, List, [], ◌++◌, append-nil, append_assoc, ℕ, ◌+◌, ◌-◌, ◌≤◌, length, take, drop, arith, take-add, take-append-drop, length-drop, drop-drop, Option}
use mathlib.Core.Bool.{false≢true, true≢false}
use lib.Seq.{take-length, take-append_seam}
use Rattle.std.specs.declared.io.Error.{Error}
use Rattle.std.specs.Io.KnownBytes.{Appends, Consumes, IsAtEnd}
use Rattle.std.proofs.KnownBytes.{Appends-nil, Appends-trans, Consumes-nil, Consumes-trans}
use Rattle.words.specs.Lists.{part}
use Rattle.words.proofs.Lists.{length-put_list, part-put_list}
use Rattle.lines.specs.Stored.{Stored}
use Rattle.rules.specs.Store.{Store, lent}
use Rattle.transcript.specs.Sessions.{Session, session, zeros, closing, Reached, started, arrived}
use Rattle.transcript.proofs.Sessions.{sizes_do_not_matter}
use Rattle.pagemon.specs.declared.arrival.Arrival.{Arrival}
use Rattle.pagemon.specs.declared.arrival.Arrival.TheVariants.{Bytes, End, Later, Failed}
use Rattle.pagemon.specs.declared.conversation.State.{State}
use Rattle.pagemon.specs.declared.conversation.State.TheVariants.{WriteFailed, TooLong}
use Rattle.pagemon.specs.Conversation.{image, next, due, stands, is_open, is_bad, most, Answered, Concluded, Justified}
use Rattle.pagemon.specs.Printed.{brought, AppendsPart, Written, Exhausted, Exchanged, Printed}
use Rattle.pagemon.proofs.Turns.{open_false, reasons}

-- Parts of texts

-- nothing of a text is written yet
pub nothing_written : (held : Option (List ℕ)) (text : List ℕ) {rest : List ℕ} → rest ≡ text
    → (length rest ≤ length text) × (rest ≡ drop (length text - length rest) text) × Appends held held (take (length text - length rest) text)
nothing_written held text e = let none : length text - length text ≡ 0 = omega arith in rw (e, none) (omega arith, refl, Appends-nil held)

-- the rest of a list, as a slice has it
pub rest_taken : (n : ℕ) (rest : List ℕ) → take (length rest - n) (drop n rest) ≡ drop n rest
rest_taken n rest = rw (← length-drop n rest) (take-length (drop n rest))

-- all but the rest of a text was written, and then some of the rest
pub written_more : (held held' held'' : Option (List ℕ)) (text rest : List ℕ) (n : ℕ) → n ≤ length rest → length rest ≤ length text
    → rest ≡ drop (length text - length rest) text → Appends held held' (take (length text - length rest) text) → Appends held' held'' (take n rest)
    → {left : List ℕ} → left ≡ drop n rest
    → (length left ≤ length text) × (left ≡ drop (length text - length left) text) × Appends held held'' (take (length text - length left) text)
written_more held held' held'' text rest n fits inside e p q {left} l =
    let from = length text - length rest in
    let fewer = ap length l ∙ length-drop n rest in
    let place : length text - length left ≡ from + n = omega arith in
    let left_is : left ≡ drop (from + n) text = l ∙ ap (drop n) e ∙ drop-drop n from text in
    let next : take n rest ≡ take n (drop from text) = ap (take n) e in
    (omega arith, rw place left_is, rw (place, take-add from n text, ← next) (Appends-trans held held' held'' _ _ p q))

-- what is stored at the front of a text
stored_front : (before ys text : List ℕ) (end : ℕ) → Stored before 0 ys text end → end ≤ length text → take end text ≡ ys
unfolding part
stored_front before ys text end s h =
    let long = length-put_list before 0 ys in
    let fits : 0 + length ys ≤ length before = omega (arith, ap length s.bytes, s.end) in
    let count : end ≡ length ys = omega (arith, s.end) in
    rw (count, s.bytes) (part-put_list before 0 ys fits)

part_behind : (held held' held'' : Option (List ℕ)) (text more : List ℕ) → Appends held held' text → AppendsPart held' held'' more → AppendsPart held held'' (text ++ more)
part_behind held held' held'' text more p (n, q) =
    let front = text ++ take n more in
    let whole : text ++ more ≡ front ++ drop n more = rw (append_assoc, take-append-drop n more) refl in
    (length front, rw (whole, take-append_seam front (drop n more)) (Appends-trans held held' held'' text (take n more) p q))

part_of_more : (held held' : Option (List ℕ)) (text more : List ℕ) → AppendsPart held held' text → AppendsPart held held' (text ++ more)
part_of_more held held' text more (n, q) =
    let front = take n text in
    let whole : text ++ more ≡ front ++ (drop n text ++ more) = rw (← append_assoc, take-append-drop n text) refl in
    (length front, rw (whole, take-append_seam front (drop n text ++ more)) q)

-- A turn

-- what has been read and written at a session, where the program ends so
record Finished (left left' held held' : Option (List ℕ)) (now : Session) (state : State) : Type 0 where
  input : List ℕ
  text : List ℕ
  reached : Reached image zeros input text now
  taken : Consumes left left' input
  all : Exhausted state left'
  written : Written state held held' text (closing now)

module _ (left left' left'' held held' held'' : Option (List ℕ)) {before : Session} (going : before.over ≡ false) (behind : List ℕ)
    (x : Exchanged left left' held held' before) where
  taken_nothing : Consumes left' left'' [] → Consumes left left'' x.input
  taken_nothing t = rw append-nil at (Consumes-trans left left' left'' x.input [] x.taken t)

  written_nothing : Appends held' held'' [] → Appends held held'' x.text
  written_nothing w = rw append-nil at (Appends-trans held held' held'' x.text [] x.written w)

  part_of_nothing : AppendsPart held' held'' [] → AppendsPart held held'' (x.text ++ closing before)
  part_of_nothing w = part_of_more held held'' x.text _ (rw append-nil at (part_behind held held' held'' x.text [] x.written w))

  -- where the write fails
  fails : (arrival : Arrival) (error : Error) → Consumes left' left'' (brought arrival behind) → AppendsPart held' held'' (due arrival before behind)
      → Finished left left'' held held'' (next arrival before behind) (WriteFailed error)
  fails (Bytes n) error t w = record {
    input = _;
    text = _;
    reached = arrived x.reached going (take n behind);
    taken = Consumes-trans left left' left'' x.input (take n behind) x.taken t;
    all = tt;
    written = part_of_more held held'' _ _ (part_behind held held' held'' x.text _ x.written w);
  }
  fails End error t w = record {
    input = x.input;
    text = x.text;
    reached = x.reached;
    taken = taken_nothing t;
    all = tt;
    written = part_behind held held' held'' x.text _ x.written w;
  }
  fails (Later _) error t w = record {
    input = x.input;
    text = x.text;
    reached = x.reached;
    taken = taken_nothing t;
    all = tt;
    written = part_of_nothing w;
  }
  fails (Failed _) error t w = record {
    input = x.input;
    text = x.text;
    reached = x.reached;
    taken = taken_nothing t;
    all = tt;
    written = part_of_nothing w;
  }

  -- where the program ends by what the read came to
  closes : (arrival : Arrival) (over : Bool) {state : State} → state ≡ stands arrival over → is_open state ≡ false → Consumes left' left'' (brought arrival behind)
      → (arrival ≡ End → IsAtEnd left'') → Appends held' held'' (due arrival before behind) → Finished left left'' held held'' (next arrival before behind) state
  closes (Bytes n) true e o t end w =
      rw e (record {
        input = _;
        text = _;
        reached = arrived x.reached going (take n behind);
        taken = Consumes-trans left left' left'' x.input (take n behind) x.taken t;
        all = tt;
        written = Appends-trans held held' held'' x.text _ x.written w;
      })
  closes (Bytes n) false e o t end w = absurd (true≢false (rw e at o))
  closes End over e o t end w =
      rw e (record {
        input = x.input;
        text = x.text;
        reached = x.reached;
        taken = taken_nothing t;
        all = end refl;
        written = Appends-trans held held' held'' x.text _ x.written w;
      })
  closes (Later _) over e o t end w =
      rw e (record { input = x.input; text = x.text; reached = x.reached; taken = taken_nothing t; all = tt; written = written_nothing w })
  closes (Failed _) over e o t end w =
      rw e (record { input = x.input; text = x.text; reached = x.reached; taken = taken_nothing t; all = tt; written = written_nothing w })

  goes_on : (arrival : Arrival) (over : Bool) → is_open (stands arrival over) ≡ true → Consumes left' left'' (brought arrival behind)
      → Appends held' held'' (due arrival before behind) → Exchanged left left'' held held'' (next arrival before behind)
  goes_on (Bytes n) over o t w = record {
    input = _;
    text = _;
    reached = arrived x.reached going (take n behind);
    taken = Consumes-trans left left' left'' x.input (take n behind) x.taken t;
    written = Appends-trans held held' held'' x.text _ x.written w;
  }
  goes_on End over o t w = absurd (false≢true o)
  goes_on (Later _) over o t w = absurd (false≢true o)
  goes_on (Failed _) over o t w = absurd (false≢true o)

-- The session

pub starts : {s : Store} (left held : Option (List ℕ)) → s ≡ zeros → Exchanged left left held held (session s [] 0 false)
starts left held e = rw e (record { input = []; text = []; reached = started; taken = Consumes-nil left; written = Appends-nil held })

-- the same session
pub carried : {left left' held held' : Option (List ℕ)} {now now' : Session} → now' ≡ now → Exchanged left left' held held' now → Exchanged left left' held held' now'
carried e x = rw e x

printed : {left left' held held' : Option (List ℕ)} {s : Store} {rest : List ℕ} {number : ℕ} {over : Bool} {state : State}
    → Finished left left' held held' (session s rest number over) state → Justified state number over → Printed left left' held held' s number state
printed f reason = record {
  input = f.input;
  text = f.text;
  rest = _;
  over = _;
  prints = sizes_do_not_matter image zeros f.input f.text _ f.reached;
  reached = f.reached;
  reason = reason;
  taken = f.taken;
  all = f.all;
  written = f.written;
}

module _ (left left' left'' held held' held'' : Option (List ℕ)) {s after : Store} {rest rest' behind text₀ text : List ℕ} {number number' end : ℕ} {state : State} {arrival : Arrival}
    (x : Exchanged left left' held held' (session s rest number false)) (t : Consumes left' left'' (brought arrival behind))
    (a : Answered arrival (session s rest number false) behind text₀ (session after rest' number' (is_bad state)) text end state) (fits : end ≤ length text) where
  due_is : take end text ≡ due arrival (session s rest number false) behind
  due_is = stored_front text₀ _ text end a.text_is fits

  pub exchange_breaks_off : (error : Error) → AppendsPart held' held'' (take end text) → Printed left left'' held held'' after number' (WriteFailed error)
  exchange_breaks_off error w =
      let finished : Finished left left'' held held'' (session after rest' number' (is_bad state)) (WriteFailed error) =
      rw a.session_is (fails left left' left'' held held' held'' refl behind x arrival error t (rw due_is at w)) in
      printed finished tt

  pub exchange_concludes : is_open state ≡ false → (arrival ≡ End → IsAtEnd left'') → Appends held' held'' (take end text) → Printed left left'' held held'' after number' state
  exchange_concludes closed ended w =
      let finished : Finished left left'' held held'' (session after rest' number' (is_bad state)) state =
      rw a.session_is (closes left left' left'' held held' held'' refl behind x arrival (is_bad state) a.state_is closed t ended (rw due_is at w)) in
      printed finished (reasons arrival (is_bad state) state number' a.state_is closed)

  pub exchange_stays_open : is_open state ≡ true → Appends held' held'' (take end text) → Exchanged left left'' held held'' (session after rest' number' false)
  exchange_stays_open going w =
      let on = goes_on left left' left'' held held' held'' refl behind x arrival (is_bad state) (rw a.state_is at going) t (rw due_is at w) in
      let same : Exchanged left left'' held held'' (session after rest' number' (is_bad state)) = rw a.session_is on in
      rw (open_false state going) at same

pub runs_out : {left left' held held' : Option (List ℕ)} {s : Store} {rest : List ℕ} {number : ℕ} → Exchanged left left' held held' (session s rest number false)
    → most ≤ number → Printed left left' held held' s number TooLong
runs_out x h = printed (record { input = x.input; text = x.text; reached = x.reached; taken = x.taken; all = tt; written = x.written }) (refl, h)

-- what was read and written is a reason for what is left
pub concluded : {left left' held held' : Option (List ℕ)} {s : Store} {number : ℕ} {state : State} → Printed left left' held held' s number state → Concluded s number state
concluded p = record { rest = p.rest; over = p.over; underway = record { input = p.input; text = p.text; reached = p.reached }; reason = p.reason }

-- where the program ends, with what it left in memory and ledger when these are back
pub ends : {left left' held held' : Option (List ℕ)} {memory memory' ledger ledger' : List ℕ} {number : ℕ} {state : State} → memory' ≡ memory → ledger' ≡ ledger
    → Printed left left' held held' (lent memory ledger) number state
    → record { concluded : Concluded (lent memory' ledger') number state; printed : Printed left left' held held' (lent memory' ledger') number state }
ends e f p = rw (e, f) (record { concluded = concluded p; printed = p })
