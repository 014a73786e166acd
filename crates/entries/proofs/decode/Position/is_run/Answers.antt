-- `entries::decode::Position::is_run` meets its contract: the range is that of the definition, and its test the opposite.
use mathlib.Core.Path.{◌≡◌, refl, ◌∙◌}
use mathlib.Core.Bool.{Bool}
use Prim.Native.Nat.{ℕ, ◌+◌, ◌*◌, ◌/◌}
use native.Mathlib.Omega.{arith}
use lib.Dec.{eqb}
use borrow.Author.Tests.{tests}
use Rattle.std.proofs.Common.{rules}
use Rattle.std.proofs.lemmas.Iterator.{YieldsList-from_range}
use Rattle.std.proofs.lemmas.Iterator.Search.{all_from_yields_List}
use Rattle.words.specs.Bounded.{neqb}
use Rattle.words.specs.Words.{word}
use Rattle.words.proofs.Bounded.{all_range}
use Rattle.entries.specs.Entries.{run_words, run_word, is_run}
use Rattle.entries.proofs.decode.Position.is_run.Goals as goal

pub returns : goal.returns
unfolding is_run
returns c =
    let s = c.args.self in
    let w = word s.memory.now (4 * s.index) in
    let test : ℕ → Bool = λ k. eqb (word s.memory.now (4 * (s.index / 16 * 16 + k))) s.value in
    all_from_yields_List test _ _ _ c.all.ensures.ran (YieldsList-from_range 0 run_words run_words refl refl) (λ x b q k. search (rules, tests))
    ∙ all_range test (λ k. neqb (run_word s.memory.now s.index k) w) run_words 0 (λ k l. let at : s.index / 16 * 16 + (0 + k) ≡ run_words * (s.index / run_words) + k = omega arith in rw (s.is_word, at) refl)
