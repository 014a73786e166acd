-- Lists 7 to 12 and 14 to 16 hold of what every run leaves and hands out: from an accepted begin on, the run is one of the lists of the theorem.
use mathlib.Core.List.{List, [], ◌∷◌, ◌++◌}
use mathlib.Core.Option.{some, none-ne-some}
use mathlib.Core.Path.{◌≡◌}
use Prim.Native.Nat.{ℕ, zero, suc}
use lib.ListN.{drop, get_elem?}
use Rattle.rules.specs.Store.{Store}
use Rattle.rules.specs.Begin.{begin_outcome}
use Rattle.rules.specs.Steps.{Step, begins, obey, run, run_by}
use Rattle.rules.specs.Demand3.{store_at}
use Rattle.rules.specs.Upheld.{Upheld, Upholds}
use Rattle.rules.proofs.Demand3.{demand3, at_the_end}
use Rattle.rules.proofs.Runs.{reached_append, answers_append, bytes_append}

module _ (golden : List ℕ) where
  -- the steps behind an accepted begin are one of the lists of the theorem
  upheld : (s : Store) (kinds : List ℕ) (B : ℕ) (steps : List Step) → (begin_outcome s kinds B).answer ≡ 0
      → (let after = (begin_outcome s kinds B).after in let r = run golden after steps in Upheld golden kinds B after steps r.reached r.answers r.bytes)
  upheld s kinds B steps accepted =
      let d = demand3 golden s kinds B accepted steps in
      record { throughout = d; safe = at_the_end d; fetched = d.fetched; never = d.never }

  from_begin : (s : Store) (steps : List Step) (i : ℕ) (kinds : List ℕ) (B : ℕ) → get_elem? steps i ≡ some (begins kinds B) → get_elem? (run golden s steps).answers i ≡ some 0
      → (let r = run golden s steps in
      Upheld golden kinds B (store_at golden s steps (suc i)) (drop (suc i) steps) r.reached (drop (suc i) r.answers) (drop (suc i) r.bytes))
  unfolding run_by obey
  from_begin s [] zero kinds B e a = absurd (none-ne-some (begins kinds B) e)
  from_begin s [] (suc i) kinds B e a = absurd (none-ne-some (begins kinds B) e)
  from_begin s (step ∷ steps) zero kinds B e a =
      let is : step ≡ begins kinds B = cc in
      let accepted : (begin_outcome s kinds B).answer ≡ 0 = (let k = rw is at a in cc) in
      rw is (upheld s kinds B steps accepted)
  from_begin s (step ∷ steps) (suc i) kinds B e a = from_begin (obey golden s step).after steps i kinds B e a

  -- the named theorem: lists 7 to 12 and 14 to 16 of what every run leaves and hands out, over whatever was lent
  pub run_upholds_demand3 : (s : Store) (steps : List Step) → (let r = run golden s steps in Upholds golden s steps r.reached r.answers r.bytes)
  run_upholds_demand3 s steps start before reached i kinds B e a =
      let all = from_begin start (before ++ steps) i kinds B e in
      rw (reached, ← reached_append golden start before steps, ← answers_append golden start before steps, ← bytes_append golden start before steps)
      (all (rw (answers_append golden start before steps, ← reached) a))
