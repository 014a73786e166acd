-- What is printed does not depend on the sizes in which the input arrives: a session in which it has arrived in parts is the one that all of
-- it comes to.
use mathlib.Core.Bool.{Bool, true, false, cond}
use mathlib.Core.List.{List, [], ◌++◌, append-nil, append_assoc}
use mathlib.Core.Path.{◌≡◌, refl, sym, ap, ◌∙◌}
use Prim.Native.Nat.{ℕ, zero, suc, ◌+◌, ◌-◌, ◌*◌, ◌<◌, ◌≤◌}
use native.Mathlib.Nat.{add-zero, add-suc}
use native.Mathlib.Omega.{arith}
use lib.ListN.{length, get_or, drop, length-append, length-drop, get_or-append}
use lib.Seq.{get_or-drop, get_or-append-add, drop-append-le, drop-drop}
use borrow.Author.Tests.{lt-ltb}
use Rattle.lines.specs.declared.Line.TheVariants.{Bad}
use Rattle.lines.specs.Lines.{text_of}
use Rattle.rules.specs.Store.{Store}
use Rattle.rules.specs.Steps.{Run, run_by}
use Rattle.rules.proofs.Runs.{length_answers, length_bytes, reached_append, answers_append, bytes_append}
use Rattle.steps.specs.Records.{record_bytes, call_place, step_of, and_then, all_steps, steps_from}
use Rattle.steps.specs.Spoilt.{spoilt}
use Rattle.steps.specs.Turns.{is_step}
use Rattle.steps.proofs.Arrivals.{steps_append, spoilt_shift, spoilt-append, spoilt_none, spoilt_inside}
use Rattle.steps.proofs.Decoding.{within_records}
use Rattle.transcript.specs.Transcript.{transcript}
use Rattle.transcript.specs.Sessions.{obeyed, count, answered, output, Session, start, turned, told, heard, said, closing, ending, Reached, started, arrived, Sizes-do-not-matter}

-- Lines

-- lines by records, answers and bytes that agree are the same
pub transcript_same : (records records' xs ys us vs : List ℕ) (n : ℕ)
    → ((i : ℕ) → i < n → get_or records (record_bytes * i + call_place) 0 ≡ get_or records' (record_bytes * i + call_place) 0)
    → ((i : ℕ) → i < n → get_or xs i 0 ≡ get_or us i 0) → ((i : ℕ) → i < n → get_or ys i 0 ≡ get_or vs i 0)
    → transcript records xs ys n ≡ transcript records' us vs n
unfolding transcript
transcript_same records records' xs ys us vs zero r a b = refl
transcript_same records records' xs ys us vs (suc n) r a b =
    rw (
      transcript_same records records' xs ys us vs n (λ i l. r i (omega arith)) (λ i l. a i (omega arith)) (λ i l. b i (omega arith)),
      r n (omega arith),
      a n (omega arith),
      b n (omega arith),
    )
    refl

-- the lines of the first n records, and those of the records behind them
transcript-append : (records xs ys us vs : List ℕ) (n m : ℕ) → length xs ≡ n → length ys ≡ n
    → transcript records (xs ++ us) (ys ++ vs) (n + m) ≡ transcript records xs ys n ++ transcript (drop (record_bytes * n) records) us vs m
unfolding transcript
transcript-append records xs ys us vs n zero ha hb =
    rw (add-zero, append-nil)
    (transcript_same records records (xs ++ us) (ys ++ vs) xs ys n (λ i l. refl) (λ i l. get_or-append xs us 0 i (omega arith)) (λ i l. get_or-append ys vs 0 i (omega arith)))
transcript-append records xs ys us vs n (suc m) ha hb =
    let place : record_bytes * (n + m) + call_place ≡ record_bytes * n + (record_bytes * m + call_place) = omega arith in
    let answer : get_or (xs ++ us) (n + m) 0 ≡ get_or us m 0 = rw (← ha) (get_or-append-add xs us m 0) in
    let byte : get_or (ys ++ vs) (n + m) 0 ≡ get_or vs m 0 = rw (← hb) (get_or-append-add ys vs m 0) in
    rw (add-suc, transcript-append records xs ys us vs n m ha hb, place, ← get_or-drop (record_bytes * n) records (record_bytes * m + call_place) 0, answer, byte)
    (append_assoc (transcript records xs ys n) (transcript (drop (record_bytes * n) records) us vs m) _)

-- An arrival

module _ (input chunk : List ℕ) where
  -- what the bytes so far left over, with those that arrive
  abbrev left : List ℕ
  left = drop (record_bytes * count input) input ++ chunk

  within : record_bytes * count input ≤ length input
  within = omega (arith, within_records input 0 (length input) (omega arith))

  behind : drop (record_bytes * count input) (input ++ chunk) ≡ left
  behind = drop-append-le (record_bytes * count input) input chunk within

  steps_all : all_steps (input ++ chunk) ≡ all_steps input ++ all_steps left
  steps_all = steps_append input chunk (count input) refl

  count_all : count (input ++ chunk) ≡ count input + count left
  count_all = ap length steps_all ∙ length-append (all_steps input) (all_steps left)

  place : record_bytes * count (input ++ chunk) ≡ record_bytes * count input + record_bytes * count left
  place = omega (arith, count_all)

  rest_all : drop (record_bytes * count (input ++ chunk)) (input ++ chunk) ≡ drop (record_bytes * count left) left
  rest_all = rw (place, ← drop-drop (record_bytes * count left) (record_bytes * count input) (input ++ chunk), behind) refl

  spoilt_all : spoilt (input ++ chunk) (record_bytes * count (input ++ chunk)) ≡ spoilt left (record_bytes * count left)
  spoilt_all = rw (place, ← spoilt_shift (input ++ chunk) (record_bytes * count input) (record_bytes * count left), behind) refl

  module _ (golden : List ℕ) (s : Store) where
    -- what the bytes so far come to
    abbrev before : Run
    before = obeyed golden s input

    reached_all : (obeyed golden s (input ++ chunk)).reached ≡ (obeyed golden before.reached left).reached
    reached_all = rw steps_all (reached_append golden s (all_steps input) (all_steps left))

    answered_all : answered golden s (input ++ chunk) ≡ answered golden s input ++ answered golden before.reached left
    answered_all =
        let after = obeyed golden before.reached left in
        rw (
          count_all,
          steps_all,
          answers_append golden s (all_steps input) (all_steps left),
          bytes_append golden s (all_steps input) (all_steps left),
          transcript-append (input ++ chunk) before.answers before.bytes after.answers after.bytes (count input) (count left)
              (length_answers golden s (all_steps input)) (length_bytes golden s (all_steps input)),
          behind,
          transcript_same (input ++ chunk) input before.answers before.bytes before.answers before.bytes (count input)
              (λ i l. get_or-append input chunk 0 (record_bytes * i + call_place) (omega (arith, within))) (λ i l. refl) (λ i l. refl),
        )
        refl

-- Bytes that begin no record hold no step

no_steps : (xs : List ℕ) → spoilt xs 0 ≡ true → (m : ℕ) → steps_from xs 0 m ≡ []
unfolding steps_from and_then
no_steps xs e zero = refl
no_steps xs e (suc m) = rw (spoilt_none xs 0 e) refl

spoilt_left : (input chunk : List ℕ) → spoilt input (record_bytes * count input) ≡ true → spoilt (left input chunk) 0 ≡ true
spoilt_left input chunk e =
    spoilt-append (drop (record_bytes * count input) input) chunk 0 (spoilt_shift input (record_bytes * count input) 0 ∙ rw add-zero e)

module _ (golden : List ℕ) (s₀ : Store) where
  -- a session is what its whole input comes to
  record Follows (input text : List ℕ) (session : Session) : Type 0 where
    store : session.store ≡ (obeyed golden s₀ input).reached
    rest : session.rest ≡ drop (record_bytes * count input) input
    number : session.number ≡ count input
    over : session.over ≡ spoilt input (record_bytes * count input)
    printed : text ≡ answered golden s₀ input ++ cond session.over (text_of (Bad (count input))) []

  follows_start : Follows [] [] (start s₀)
  unfolding steps_from run_by transcript spoilt step_of is_step
  follows_start = record { store = refl; rest = refl; number = refl; over = refl; printed = refl }

  follows_arrival : {input text : List ℕ} {session : Session} → Follows input text session → session.over ≡ false → (chunk : List ℕ)
      → Follows (input ++ chunk) (text ++ said golden session chunk) (heard golden session chunk)
  unfolding turned told
  follows_arrival {input} {text} {session} f going chunk =
      let same : session.rest ++ chunk ≡ left input chunk = rw f.rest refl in
      record {
        store = rw (same, f.store) (sym (reached_all input chunk golden s₀));
        rest = rw same (sym (rest_all input chunk));
        number = rw (same, f.number) (sym (count_all input chunk));
        over = rw same (sym (spoilt_all input chunk));
        printed = rw (same, f.printed, going, append-nil, f.store, f.number, ← count_all input chunk, answered_all input chunk golden s₀)
            (sym (append_assoc (answered golden s₀ input) (answered golden (obeyed golden s₀ input).reached (left input chunk)) _));
      }

  follows : {input text : List ℕ} {session : Session} → Reached golden s₀ input text session → Follows input text session
  follows started = follows_start
  follows (arrived r going chunk) = follows_arrival (follows r) going chunk

  whole_text : {input text : List ℕ} {session : Session} → Reached golden s₀ input text session → text ++ closing session ≡ output golden s₀ input
  unfolding closing output ending
  whole_text {input} {text} {session} r = go session.over refl where
    f : Follows input text session
    f = follows r

    go : (over : Bool) → session.over ≡ over → text ++ closing session ≡ output golden s₀ input
    go true e =
        let inside = spoilt_inside input (record_bytes * count input) (sym f.over ∙ e) in
        rw (f.printed, e, append-nil, lt-ltb 0 (length input - record_bytes * count input) (omega arith)) refl
    go false e = rw (f.printed, e, append-nil, f.rest, f.number, length-drop (record_bytes * count input) input) refl

  bad_is_last : {input text : List ℕ} {session : Session} → Reached golden s₀ input text session → session.over ≡ true → (more : List ℕ)
      → text ≡ output golden s₀ (input ++ more)
  unfolding output ending transcript
  bad_is_last {input} {text} {session} r e more =
      let f = follows r in
      let spoilt_here : spoilt input (record_bytes * count input) ≡ true = sym f.over ∙ e in
      let none : all_steps (left input more) ≡ [] = no_steps (left input more) (spoilt_left input more spoilt_here) (length (left input more)) in
      let same : count (input ++ more) ≡ count input = count_all input more ∙ rw none (add-zero (count input)) in
      let inside : 0 < length (input ++ more) - record_bytes * count input = omega (arith, length-append input more, spoilt_inside input (record_bytes * count input) spoilt_here) in
      rw (f.printed, e, answered_all input more golden s₀, same, none, append-nil, lt-ltb 0 (length (input ++ more) - record_bytes * count input) inside) refl

-- the theorem about the program's text
pub sizes_do_not_matter : Sizes-do-not-matter
sizes_do_not_matter golden s input text now r = record { all = whole_text golden s r; last = λ e more. bad_is_last golden s r e more }
