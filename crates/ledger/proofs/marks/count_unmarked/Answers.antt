use mathlib.Core.Bool.{Bool, not}
use Prim.Native.Nat.{ℕ, ◌+◌}
use native.Mathlib.Omega.{arith}
use lib.Dec.{eqb}
use Rattle.std.proofs.Common.{rules, tests}
use Rattle.words.specs.Bounded.{num}
use Rattle.words.proofs.Scans.{sum_below, sum_below_fits}
use Rattle.words.proofs.Sums.{count_most}
use Rattle.rules.specs.Store.{record_word, mark_word, mark_value}
use Rattle.ledger.proofs.marks.count_unmarked.Goals as goal

pub sum-requires-clause-fits : goal.sum-requires-clause-fits
sum-requires-clause-fits c =
    let p : ℕ → Bool = λ i. not (eqb (record_word c.args.ledger.now mark_word (c.args.b + i)) mark_value) in
    sum_below_fits (λ i. num (p i)) _ _ c.map.ensures.source c.map.ensures.closure (λ x b q k. search (rules, tests)) _ (omega (arith, count_most p c.args.m))

pub returns : goal.returns
returns c = sum_below _ _ _ c.map.ensures.source c.map.ensures.closure (λ x b q k. search (rules, tests)) _ c.sum.ensures.ran
