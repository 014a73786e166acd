-- `lines::put_line` meets its contract: where the longest line fits, each line does, and its words are stored, each with the character after it.
use mathlib.Core.List.{[], ◌∷◌}
use mathlib.Core.Path.{refl}
use native.Mathlib.Omega.{arith}
use lib.ListN.{length-append}
use Rattle.lines.specs.Decimal.{decimal}
use Rattle.lines.specs.Lines.{space, bad, line, text_of}
use Rattle.lines.proofs.Lines.{stored_word, words_answer, words_answer_with_byte, length-bad, longest_bad}
use Rattle.lines.proofs.Stored.{stored_length}
use Rattle.lines.proofs.put_line.Goals as goal

pub put_number-after_call-requires : goal.put_number-after_call-requires
put_number-after_call-requires c =
    let l = c.in-Answer in
    rw c.from.ensures (omega (arith, words_answer l.call l.answer (omega arith) (omega arith)))

pub put_number-requires : goal.put_number-requires
put_number-requires c =
    let l = c.in-Answer in
    let s = rw c.from.ensures at c.put_number-after_call.ensures in
    rw c.from-in-Answer.ensures
    (omega (arith, words_answer l.call l.answer (omega arith) (omega arith), s.end, stored_length _ _ _ s, length-append (decimal l.call) (space ∷ [])))

pub put_number-after_call-requires-in-AnswerWithByte : goal.put_number-after_call-requires-in-AnswerWithByte
put_number-after_call-requires-in-AnswerWithByte c =
    let l = c.in-AnswerWithByte in
    rw c.from-in-AnswerWithByte.ensures (omega (arith, words_answer_with_byte l.call l.answer l.byte (omega arith) (omega arith) (omega arith)))

pub put_number-after_answer-requires : goal.put_number-after_answer-requires
put_number-after_answer-requires c =
    let l = c.in-AnswerWithByte in
    let s = rw c.from-in-AnswerWithByte.ensures at c.put_number-after_call-in-AnswerWithByte.ensures in
    rw c.from-in-AnswerWithByte-2.ensures
    (omega (
      arith,
      words_answer_with_byte l.call l.answer l.byte (omega arith) (omega arith) (omega arith),
      s.end,
      stored_length _ _ _ s,
      length-append (decimal l.call) (space ∷ []),
    ))

pub put_number-requires-in-AnswerWithByte : goal.put_number-requires-in-AnswerWithByte
put_number-requires-in-AnswerWithByte c =
    let l = c.in-AnswerWithByte in
    let s = rw c.from-in-AnswerWithByte.ensures at c.put_number-after_call-in-AnswerWithByte.ensures in
    let u = rw c.from-in-AnswerWithByte-2.ensures at c.put_number-after_answer.ensures in
    rw c.from-in-AnswerWithByte-3.ensures
    (omega (
      arith,
      words_answer_with_byte l.call l.answer l.byte (omega arith) (omega arith) (omega arith),
      s.end,
      stored_length _ _ _ s,
      length-append (decimal l.call) (space ∷ []),
      u.end,
      stored_length _ _ _ u,
      length-append (decimal l.answer) (space ∷ []),
    ))

pub put_bytes-requires : goal.put_bytes-requires
put_bytes-requires c = let l = c.in-Bad in omega (arith, length-bad l.obeyed, longest_bad l.obeyed (omega arith))

pub put_number-requires-in-Bad : goal.put_number-requires-in-Bad
put_number-requires-in-Bad c = let l = c.in-Bad in omega (arith, length-bad l.obeyed, longest_bad l.obeyed (omega arith))

pub returns-in-Answer : goal.returns-in-Answer
unfolding text_of line
returns-in-Answer c =
    let a = c.args in
    let l = c.in-Answer in
    rw l.is
    (stored_word a.text.now a.at (decimal l.call) (decimal l.answer) []
    (rw c.from.ensures at c.put_number-after_call.ensures)
    (rw c.from-in-Answer.ensures at c.put_number.ensures))

pub returns-in-AnswerWithByte : goal.returns-in-AnswerWithByte
unfolding text_of line
returns-in-AnswerWithByte c =
    let a = c.args in
    let l = c.in-AnswerWithByte in
    rw l.is
    (stored_word a.text.now a.at (decimal l.call) (decimal l.answer) (decimal l.byte ∷ [])
    (rw c.from-in-AnswerWithByte.ensures at c.put_number-after_call-in-AnswerWithByte.ensures)
    (stored_word _ _ (decimal l.answer) (decimal l.byte) []
    (rw c.from-in-AnswerWithByte-2.ensures at c.put_number-after_answer.ensures)
    (rw c.from-in-AnswerWithByte-3.ensures at c.put_number-in-AnswerWithByte.ensures)))

pub returns-in-Bad : goal.returns-in-Bad
unfolding text_of line
returns-in-Bad c =
    let a = c.args in
    let l = c.in-Bad in
    rw l.is
    (stored_word a.text.now a.at bad (decimal l.obeyed) [] (record { bytes = c.put_bytes.ensures; end = refl }) c.put_number-in-Bad.ensures)
