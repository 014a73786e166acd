-- The loop that adds line after line: each line fits, since none is longer than the longest.
use mathlib.Core.Bool.{Bool, true, false, cond, ◌&&◌}
use mathlib.Core.List.{List, ◌++◌}
use mathlib.Core.Path.{◌≡◌, refl}
use Prim.Native.Nat.{ℕ, ◌+◌, ◌-◌, ◌*◌, ◌^◌, ◌≤◌, ◌<◌}
use native.Mathlib.Numerals.{add-one}
use native.Mathlib.Omega.{arith}
use lib.Dec.{eqb}
use lib.ListN.{length, get_or}
use Rattle.words.specs.Lists.{put_list}
use Rattle.steps.specs.Records.{record_bytes, call_place}
use Rattle.lines.specs.declared.Line.{Line}
use Rattle.lines.specs.declared.Line.TheVariants.{Answer, AnswerWithByte}
use Rattle.lines.specs.Lines.{text_of, longest_line, fitting}
use Rattle.lines.specs.Stored.{Stored}
use Rattle.lines.proofs.Lines.{longest_answer, longest_answer_with_byte, fitting-line, stored_line}
use Rattle.lines.proofs.Stored.{stored_length}
use Rattle.transcript.specs.Transcript.{gives_byte, line_of, transcript}

longest : (call answer byte : ℕ) → call < 2 ^ 8 → answer < 2 ^ 32 → byte < 2 ^ 8 → length (text_of (line_of call answer byte)) ≤ longest_line
unfolding line_of
longest call answer byte hc ha hb = go (eqb answer 0 && gives_byte call) where
  go : (t : Bool) → length (text_of (cond t (AnswerWithByte call answer byte) (Answer call answer))) ≤ longest_line
  go true = longest_answer_with_byte call answer byte hc ha hb
  go false = longest_answer call answer hc ha

module _ (records answers bytes text₀ : List ℕ) (start : ℕ) where
  -- the lines of the first i records stand in the text, up to a place
  pub record Laying (i : ℕ) (text : List ℕ) (end : ℕ) : Type 0 where
    pub stored : Stored text₀ start (transcript records answers bytes i) text end
    pub few : end ≤ start + longest_line * i

  pub laying_starts : Laying 0 text₀ start
  unfolding transcript put_list
  laying_starts = record { stored = record { bytes = refl; end = omega arith }; few = omega arith }

  pub laying_turn : {i : ℕ} {text : List ℕ} {end : ℕ} → Laying i text end → start + longest_line * (i + 1) ≤ length text₀
      → get_or records (record_bytes * i + call_place) 0 < 2 ^ 8 → get_or answers i 0 < 2 ^ 32 → get_or bytes i 0 < 2 ^ 8
      → {l : Line} → l ≡ line_of (get_or records (record_bytes * i + call_place) 0) (get_or answers i 0) (get_or bytes i 0)
      → {more : List ℕ} {place : ℕ} → Stored text end (fitting (length text - end) l) more place → Laying (i + 1) more place
  unfolding transcript
  laying_turn {i} {text} {end} g h hc ha hb {l} e {more} {place} s =
      let n = stored_length text₀ start _ g.stored in
      let short = longest _ _ _ hc ha hb in
      let room : longest_line ≤ length text - end = (let f = g.few in omega arith) in
      let all : Stored text₀ start (transcript records answers bytes i ++ text_of l) more place = stored_line text₀ start (transcript records answers bytes i) l room g.stored s in
      let further = rw (fitting-line (length text - end) l room, e) at s.end in
      record { stored = rw add-one (rw e at all); few = (let f = g.few in omega arith) }
