-- Lists 7 to 12 and 14 to 16 hold of what the runner leaves and hands out (runner 3): it is what a run leaves and hands out.
use mathlib.Core.List.{List}
use mathlib.Core.Path.{◌≡◌, sym, ◌∙◌}
use Prim.Native.Nat.{ℕ, ◌+◌, ◌≤◌}
use native.Mathlib.Omega.{arith}
use lib.ListN.{length, take, drop}
use lib.Seq.{take-append_seam}
use Rattle.words.specs.Lists.{put_list}
use Rattle.words.proofs.Lists.{put_list_between}
use Rattle.rules.specs.Store.{Store}
use Rattle.rules.specs.Steps.{run}
use Rattle.rules.specs.Upheld.{Upholds}
use Rattle.rules.proofs.Runs.{length_answers, length_bytes}
use Rattle.rules.proofs.Upheld.{run_upholds_demand3}
use Rattle.steps.specs.Records.{steps_in, room, ran}
use Rattle.steps.proofs.Decoding.{within_room}
use Rattle.steps.proofs.Running.{Ended}

-- what stands in an output, over which a list was stored
standing : (xs vs : List ℕ) (n : ℕ) → n ≡ length vs → n ≤ length xs → take n (put_list xs 0 vs) ≡ vs
standing xs vs n e h = rw (put_list_between xs 0 vs (omega arith), e) (take-append_seam vs (drop (0 + length vs) xs))

-- runner 3: lists 7 to 12 and 14 to 16 of exactly the bytes that the runner leaves and hands out
pub runner_upholds_demand3 : (golden : List ℕ) (s : Store) (records answers₀ bytes₀ : List ℕ) {n : ℕ} {left : Store} {answers bytes : List ℕ}
    → n ≡ length (steps_in records (room answers₀ bytes₀))
    → left ≡ (ran golden s records answers₀ bytes₀).reached
    → answers ≡ put_list answers₀ 0 (ran golden s records answers₀ bytes₀).answers
    → bytes ≡ put_list bytes₀ 0 (ran golden s records answers₀ bytes₀).bytes
    → Upholds golden s (steps_in records (room answers₀ bytes₀)) left (take n answers) (take n bytes)
runner_upholds_demand3 golden s records answers₀ bytes₀ {n} {left} {answers} {bytes} e l a b =
    let steps = steps_in records (room answers₀ bytes₀) in
    let few = within_room records 0 (room answers₀ bytes₀) in
    let said : take n answers ≡ (run golden s steps).answers = rw a (standing answers₀ _ n (e ∙ sym (length_answers golden s steps)) (omega arith)) in
    let given : take n bytes ≡ (run golden s steps).bytes = rw b (standing bytes₀ _ n (e ∙ sym (length_bytes golden s steps)) (omega arith)) in
    rw (l, said, given) (run_upholds_demand3 golden s steps)

-- all that the runner promises, when its loop has ended
pub promised : (golden : List ℕ) (s : Store) (records answers₀ bytes₀ : List ℕ) {m i : ℕ} {left : Store} {answers bytes : List ℕ}
    → m ≡ room answers₀ bytes₀ → Ended golden records m s answers₀ bytes₀ i left answers bytes
    → record {
      value : i ≡ length (steps_in records (room answers₀ bytes₀));
      ledger_after : left ≡ (ran golden s records answers₀ bytes₀).reached;
      answers_after : answers ≡ put_list answers₀ 0 (ran golden s records answers₀ bytes₀).answers;
      bytes_after : bytes ≡ put_list bytes₀ 0 (ran golden s records answers₀ bytes₀).bytes;
      upholds : Upholds golden s (steps_in records (room answers₀ bytes₀)) left (take i answers) (take i bytes);
    }
promised golden s records answers₀ bytes₀ e ended =
    let (n, (l, (a, b))) = rw e at ended in
    record { value = n; ledger_after = l; answers_after = a; bytes_after = b; upholds = runner_upholds_demand3 golden s records answers₀ bytes₀ n l a b }
