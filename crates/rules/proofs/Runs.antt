-- Laws of running a list: a list runs as its beginning and then its end from the store that the beginning reaches; every step has its answer
-- and its byte.
use mathlib.Core.List.{List, [], ◌∷◌, ◌++◌}
use mathlib.Core.Path.{◌≡◌, refl, ap}
use Prim.Native.Nat.{ℕ, suc}
use lib.ListN.{length}
use Rattle.rules.specs.Store.{Store}
use Rattle.rules.specs.Steps.{Step, obey, run, run_by}

module _ (golden : List ℕ) where
  pub length_answers : (s : Store) (steps : List Step) → length (run golden s steps).answers ≡ length steps
  unfolding run_by
  length_answers s [] = refl
  length_answers s (step ∷ steps) = ap suc (length_answers (obey golden s step).after steps)

  pub length_bytes : (s : Store) (steps : List Step) → length (run golden s steps).bytes ≡ length steps
  unfolding run_by
  length_bytes s [] = refl
  length_bytes s (step ∷ steps) = ap suc (length_bytes (obey golden s step).after steps)

  pub reached_append : (s : Store) (steps more : List Step) → (run golden s (steps ++ more)).reached ≡ (run golden (run golden s steps).reached more).reached
  unfolding run_by
  reached_append s [] more = refl
  reached_append s (step ∷ steps) more = reached_append (obey golden s step).after steps more

  pub answers_append : (s : Store) (steps more : List Step) → (run golden s (steps ++ more)).answers ≡ (run golden s steps).answers ++ (run golden (run golden s steps).reached more).answers
  unfolding run_by
  answers_append s [] more = refl
  answers_append s (step ∷ steps) more = ap (λ (ks : List ℕ). (obey golden s step).answer ∷ ks) (answers_append (obey golden s step).after steps more)

  pub bytes_append : (s : Store) (steps more : List Step) → (run golden s (steps ++ more)).bytes ≡ (run golden s steps).bytes ++ (run golden (run golden s steps).reached more).bytes
  unfolding run_by
  bytes_append s [] more = refl
  bytes_append s (step ∷ steps) more = ap (λ (bs : List ℕ). (obey golden s step).byte ∷ bs) (bytes_append (obey golden s step).after steps more)
