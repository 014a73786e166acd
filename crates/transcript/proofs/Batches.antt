-- What is printed of what has arrived: the lines of the records that the runner obeyed, and bad where it is due.
use mathlib.Core.Bool.{Bool, true, false, cond}
use mathlib.Core.List.{List, [], ◌++◌}
use mathlib.Core.Path.{◌≡◌, refl, sym, ◌∙◌, ap}
use Prim.Native.Nat.{ℕ, ◌+◌, ◌-◌, ◌*◌, ◌^◌, ◌≤◌, ◌<◌}
use native.Mathlib.Omega.{arith}
use lib.ListN.{length, get_or, take, drop, get_or-append, length-drop}
use lib.Seq.{length-take-le, get_or-take, take-append_seam}
use Rattle.std.specs.List.{copy_within}
use Rattle.std.proofs.lemmas.List.{drop-take}
use Rattle.words.specs.Lists.{put_list}
use Rattle.words.proofs.Lists.{length-put_list, put_list_between}
use Rattle.rules.specs.Store.{Store}
use Rattle.rules.proofs.Runs.{length_answers, length_bytes}
use Rattle.steps.specs.Records.{record_bytes, steps_in, all_steps, room, ran}
use Rattle.steps.specs.Spoilt.{spoilt}
use Rattle.steps.proofs.Arrivals.{steps_enough, left_over, step_behind}
use Rattle.steps.proofs.Decoding.{within_room, within_records}
use Rattle.lines.specs.declared.Line.TheVariants.{Bad}
use Rattle.lines.specs.Lines.{longest_line, fitting, text_of}
use Rattle.lines.specs.Stored.{Stored}
use Rattle.lines.proofs.Lines.{fitting-line, longest_bad}
use Rattle.lines.proofs.Stored.{stored_then}
use Rattle.transcript.specs.Needs.{Advance}
use Rattle.transcript.specs.Sessions.{obeyed, count, answered, session, failing, turned, told}
use Rattle.transcript.specs.Transcript.{transcript, batch}
use Rattle.transcript.proofs.Sessions.{transcript_same}

-- what stands in the front of an output, over which a list was stored
standing : (xs vs : List ℕ) (n : ℕ) → n ≡ length vs → n ≤ length xs → (i : ℕ) → i < n → get_or (take n (put_list xs 0 vs)) i 0 ≡ get_or vs i 0
standing xs vs n e h i l =
    rw (get_or-take n (put_list xs 0 vs) i 0 l, put_list_between xs 0 vs (omega arith)) (get_or-append vs (drop (0 + length vs) xs) 0 i (omega arith))

-- what the runner's promise says of a batch, for outputs of a batch's length
pub record Batched (golden : List ℕ) (s : Store) (records : List ℕ) (n : ℕ) (left : Store) (answers bytes : List ℕ) : Type 0 where
  pub counted : n ≡ count records
  pub few : n ≤ batch
  pub whole : record_bytes * n ≤ length records
  pub reached : left ≡ (obeyed golden s records).reached
  pub answers_length : length answers ≡ batch
  pub bytes_length : length bytes ≡ batch
  pub lines : transcript records (take n answers) (take n bytes) n ≡ answered golden s records

pub batched : (golden : List ℕ) (s : Store) (records answers₀ bytes₀ : List ℕ) → length answers₀ ≡ batch → length bytes₀ ≡ batch
    → length records ≤ record_bytes * batch → {n : ℕ} {left : Store} {answers bytes : List ℕ} → n ≡ length (steps_in records (room answers₀ bytes₀))
    → left ≡ (ran golden s records answers₀ bytes₀).reached
    → answers ≡ put_list answers₀ 0 (ran golden s records answers₀ bytes₀).answers
    → bytes ≡ put_list bytes₀ 0 (ran golden s records answers₀ bytes₀).bytes
    → Batched golden s records n left answers bytes
batched golden s records answers₀ bytes₀ full full' short {n} e l a b =
    let roomy : room answers₀ bytes₀ ≡ batch = omega arith in
    let all : steps_in records batch ≡ all_steps records = steps_enough records 0 batch (length records) (omega arith) (omega arith) in
    let counted = rw (roomy, all) at e in
    let few : n ≤ batch = omega (arith, rw all at (within_room records 0 batch)) in
    record {
      counted = counted;
      few = few;
      whole = omega (arith, within_records records 0 (length records) (omega arith));
      reached = rw (roomy, all) at l;
      answers_length = ap length a ∙ length-put_list answers₀ 0 _ ∙ full;
      bytes_length = ap length b ∙ length-put_list bytes₀ 0 _ ∙ full';
      lines = rw (a, b, roomy, all, ← counted)
          (transcript_same records records _ _ _ _ n
          (λ i l. refl)
          (standing answers₀ _ n (counted ∙ sym (length_answers golden s (all_steps records))) (omega arith))
          (standing bytes₀ _ n (counted ∙ sym (length_bytes golden s (all_steps records))) (omega arith)));
    }

-- a text that was stored in lent bytes, when they are back
pub stored_as : {xs ys zs vs : List ℕ} {a e : ℕ} → vs ≡ zs → Stored xs a ys zs e → Stored xs a ys vs e
stored_as same stored = rw same stored

pub ends_as : {zs vs : List ℕ} {e : ℕ} → vs ≡ zs → e ≤ length zs → e ≤ length vs
ends_as same inside = rw same inside

-- bad, where it is due

pub no_bad : (text : List ℕ) (end k : ℕ) {due : Bool} → due ≡ false → Stored text end (cond due (text_of (Bad k)) []) text end
unfolding put_list
no_bad text end k e = rw e (record { bytes = refl; end = omega arith })

pub a_bad : (text : List ℕ) (end k : ℕ) {due : Bool} → due ≡ true → {more : List ℕ} {place : ℕ} → Stored text end (text_of (Bad k)) more place
    → Stored text end (cond due (text_of (Bad k)) []) more place
a_bad text end k e stored = rw e stored

-- the line of a bad record, where the longest has room
pub bad_fits : (text : List ℕ) (end k : ℕ) → longest_line ≤ length text - end → {more : List ℕ} {place : ℕ}
    → Stored text end (fitting (length text - end) (Bad k)) more place → Stored text end (text_of (Bad k)) more place
bad_fits text end k room stored = rw (fitting-line (length text - end) (Bad k) room) at stored

-- the line of a bad record is no longer than the longest
pub bad_ends : (text : List ℕ) (end k : ℕ) → k < 2 ^ 64 → longest_line ≤ length text - end → {more : List ℕ} {place : ℕ}
    → Stored text end (fitting (length text - end) (Bad k)) more place → place ≤ length more
bad_ends text end k h r s =
    let e = rw (fitting-line (length text - end) (Bad k) r) at s.end in
    let n = ap length s.bytes ∙ length-put_list text end _ in
    omega (arith, longest_bad k h)

front : (xs ys : List ℕ) (n : ℕ) → length xs ≡ n → take n (xs ++ ys) ≡ xs
front xs ys n e = rw (← e) (take-append_seam xs ys)

-- the bytes from a place up to an end are moved to the front
pub moved_front : (input : List ℕ) (at end : ℕ) → at ≤ end → end ≤ length input → {moved : List ℕ} → moved ≡ copy_within input at end 0
    → take (end - at) moved ≡ drop at (take end input)
moved_front input at end h l e =
    let bytes = take (end - at) (drop at input) in
    let long : length bytes ≡ end - at = length-take-le (end - at) (drop at input) (omega (arith, length-drop at input)) in
    let whole : at + (end - at) ≡ end = omega arith in
    ap (take (end - at)) e ∙ front bytes _ (end - at) long ∙ sym (drop-take at (end - at) input) ∙ ap (λ k. drop at (take k input)) whole

-- An arrival: the first bytes of a buffer are obeyed, bad is said where it is due, and the rest is moved to the front

module _ (golden : List ℕ) (s : Store) (earlier : ℕ) (text₀ input : List ℕ) (filled : ℕ) where
  -- what has arrived
  abbrev bytes : List ℕ
  bytes = take filled input

  -- where bad is not due, less than a record is left
  short_rest : failing bytes ≡ false → length bytes < record_bytes * count bytes + record_bytes
  short_rest e = left_over bytes (record_bytes * count bytes) (step_behind bytes) e

  pub heard_all : filled ≤ length input → {n : ℕ} {left : Store} {text : List ℕ} {end : ℕ}
      → n ≡ count bytes → left ≡ (obeyed golden s bytes).reached → Stored text₀ 0 (answered golden s bytes) text end → (n ≤ batch) × (record_bytes * n ≤ length bytes)
      → {over : Bool} {more : List ℕ} {place : ℕ} → over ≡ spoilt bytes (record_bytes * n)
      → Stored text end (cond (spoilt bytes (record_bytes * n)) (text_of (Bad (earlier + n))) []) more place
      → (moved : List ℕ) → take (filled - record_bytes * n) moved ≡ drop (record_bytes * n) bytes
      → (session left (take (filled - record_bytes * n) moved) (earlier + n) over ≡ turned golden s earlier bytes)
      × (Stored text₀ 0 (told golden s earlier bytes) more place × Advance earlier filled (filled - record_bytes * n) (earlier + n) over)
  unfolding turned told
  heard_all h {n} e reached answers few spoils line moved front =
      let long = length-take-le filled input h in (
        rw (reached, front, spoils, e) refl,
        (
          stored_then text₀ 0 (answered golden s bytes) _ answers (rw e at line),
          record {
            few = omega arith;
            left = omega arith;
            bytes = omega arith;
            short = λ going. (let l = short_rest (rw (← e) (sym spoils ∙ going)) in omega arith);
          },
        ),
      )
