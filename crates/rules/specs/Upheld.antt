-- The claim about lists, of what a list of steps leaves and hands out (RULES: lists, runner).
use Rattle.std.specs.Prelude.{List, ◌++◌, ◌≢◌, ◌≡◌, ℕ, suc, take, drop}
use Rattle.std.proofs.Math.Option.{some}
use Rattle.std.proofs.Math.ListN.{get_elem?}
use Rattle.rules.specs.Store.{Store}
use Rattle.rules.specs.Guest.{fetches}
use Rattle.rules.specs.Steps.{Step, begins, accesses, run, begun, history}
use Rattle.rules.specs.Demand3.{Safe, Fetched, store_at, Demand3}

-- lists 13, runner 3: the claim about steps that run from store s, which a begin with these kinds and B left, and leave a store and hand out answers and bytes
pub record Upheld (golden kinds : List ℕ) (B : ℕ) (s : Store) (steps : List Step) (left : Store) (answers bytes : List ℕ) : Type 0 where
  -- lists 13: the claim, at every moment of the list
  pub throughout : Demand3 golden kinds B s steps
  -- lists 7, lists 8, lists 9, lists 14, lists 15: of the memory and ledger that are left, by the answers handed out
  pub safe : Safe (history (begun kinds B golden) steps answers) left
  -- lists 11: of the bytes handed out
  pub fetched : (i : ℕ) (registers : List ℕ) (addr byte : ℕ) → get_elem? steps i ≡ some (accesses fetches registers addr) → get_elem? answers i ≡ some 0 → get_elem? bytes i ≡ some byte
      → Fetched (history (begun kinds B golden) (take i steps) answers) (store_at golden s steps i) addr byte
  -- lists 12: of the answers handed out
  pub never : (i k : ℕ) → get_elem? answers i ≡ some k → (k ≢ 13) × (k ≢ 24)

-- lists 13, runner 3: this from every accepted begin on, among these steps or among those before, by which store s was reached under the same image
abbrev pub Upholds : List ℕ → Store → List Step → Store → List ℕ → List ℕ → Type 0
Upholds golden s steps left answers bytes =
    (start : Store) (before : List Step) → s ≡ (run golden start before).reached
    → (let all = before ++ steps in
    let said = (run golden start before).answers ++ answers in
    let given = (run golden start before).bytes ++ bytes in
    (i : ℕ) (kinds : List ℕ) (B : ℕ) → get_elem? all i ≡ some (begins kinds B) → get_elem? said i ≡ some 0
    → Upheld golden kinds B (store_at golden start all (suc i)) (drop (suc i) all) left (drop (suc i) said) (drop (suc i) given))
