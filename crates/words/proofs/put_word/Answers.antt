-- `words::put_word` meets its contract: its four stores are those of the definition.
use native.Mathlib.Omega.{arith}
use native.Mathlib.Nat.{div-one}
use lib.ListN.{length-set}
use Rattle.words.specs.Words.{put_word}
use Rattle.words.proofs.put_word.Goals as goal

pub bounds-s-at-2 : goal.bounds-s-at-2
bounds-s-at-2 c = simp length-set (omega arith)

pub bounds-s-at-3 : goal.bounds-s-at-3
bounds-s-at-3 c = simp length-set (omega arith)

pub bounds-s-at-4 : goal.bounds-s-at-4
bounds-s-at-4 c = simp length-set (omega arith)

pub returns : goal.returns
unfolding put_word
returns c = rw (c.to_le_bytes.ensures, div-one c.args.v)
