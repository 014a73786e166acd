-- The runner's loop: what is done so far and what the records still left come to is what all of them come to.
use mathlib.Core.Bool.{true, false, false≢true}
use mathlib.Core.List.{List, [], ◌∷◌}
use mathlib.Core.Option.{Option, none, some}
use mathlib.Core.Path.{◌≡◌, refl, sym, ◌∙◌}
use Prim.Native.Nat.{ℕ, suc, ◌+◌, ◌-◌, ◌≤◌, ◌<◌}
use native.Mathlib.Numerals.{add-one}
use native.Mathlib.Omega.{arith}
use lib.ListN.{length, set, length-set}
use Rattle.words.specs.Lists.{put_list}
use Rattle.rules.specs.Store.{Store}
use Rattle.rules.specs.Steps.{Step, run, run_by}
use Rattle.steps.specs.Records.{record_bytes, step_at, and_then, steps_from}
use Rattle.steps.specs.Turns.{is_step, attempt}
use Rattle.steps.proofs.Decoding.{step_within}

module _ (golden records : List ℕ) (m : ℕ) (s₀ : Store) (answers₀ bytes₀ : List ℕ) where
  -- before turn i, at place p: the store and the outputs as they are
  pub record Going (i p : ℕ) (s : Store) (answers bytes : List ℕ) : Type 0 where
    pub turns : i ≤ m
    pub place : p ≤ length records
    pub answers_length : length answers ≡ length answers₀
    pub bytes_length : length bytes ≡ length bytes₀
    pub counted : length (steps_from records 0 m) ≡ i + length (steps_from records p (m - i))
    pub reaching : (run golden s₀ (steps_from records 0 m)).reached ≡ (run golden s (steps_from records p (m - i))).reached
    pub answering : put_list answers₀ 0 (run golden s₀ (steps_from records 0 m)).answers ≡ put_list answers i (run golden s (steps_from records p (m - i))).answers
    pub giving : put_list bytes₀ 0 (run golden s₀ (steps_from records 0 m)).bytes ≡ put_list bytes i (run golden s (steps_from records p (m - i))).bytes

  -- what all the records come to
  abbrev pub Ended : ℕ → Store → List ℕ → List ℕ → Type 0
  Ended i s answers bytes =
      (i ≡ length (steps_from records 0 m))
      × ((s ≡ (run golden s₀ (steps_from records 0 m)).reached)
      × ((answers ≡ put_list answers₀ 0 (run golden s₀ (steps_from records 0 m)).answers)
      × (bytes ≡ put_list bytes₀ 0 (run golden s₀ (steps_from records 0 m)).bytes)))

  -- the records from a place on, while there is room
  next : (i p : ℕ) → i < m → steps_from records p (m - i) ≡ and_then (step_at records p) (steps_from records (p + record_bytes) (m - (i + 1)))
  unfolding steps_from
  next i p h = let e : m - i ≡ suc (m - (i + 1)) = omega arith in rw e refl

  module _ {i p : ℕ} {s : Store} {answers bytes : List ℕ} where
    pub going_turn : Going i p s answers bytes → i < m → (o : Option Step) → o ≡ step_at records p → is_step o ≡ true
        → {after : Store} {answer byte : ℕ} → answer ≡ (attempt golden s o).answer → byte ≡ (attempt golden s o).byte → after ≡ (attempt golden s o).after
        → Going (i + 1) (p + record_bytes) after (set answers i answer) (set bytes i byte)
    unfolding is_step attempt and_then run_by put_list
    going_turn g h none e t a b r = absurd (false≢true t)
    going_turn g h (some step) e t a b r =
        let q : steps_from records p (m - i) ≡ step ∷ steps_from records (p + record_bytes) (m - (i + 1)) = next i p h ∙ rw (← e) refl in
        record {
          turns = omega arith;
          place = step_within records p step e;
          answers_length = length-set answers i _ ∙ g.answers_length;
          bytes_length = length-set bytes i _ ∙ g.bytes_length;
          counted = let n = rw q at g.counted in omega arith;
          reaching = rw r (rw q at g.reaching);
          answering = rw (a, r, add-one) (rw (q, add-one) at g.answering);
          giving = rw (b, r, add-one) (rw (q, add-one) at g.giving);
        }

    -- no record is left
    ended : Going i p s answers bytes → steps_from records p (m - i) ≡ [] → Ended i s answers bytes
    unfolding run_by put_list
    ended g e =
        let n = rw e at g.counted in
        (omega arith, (sym (rw e at g.reaching), (sym (rw e at g.answering), sym (rw e at g.giving))))

    pub going_full : Going i p s answers bytes → m ≤ i → Ended i s answers bytes
    unfolding steps_from
    going_full g h = let e : m - i ≡ 0 = omega arith in ended g (rw e refl)

    pub going_stops : Going i p s answers bytes → i < m → (o : Option Step) → o ≡ step_at records p → is_step o ≡ false
        → {after : Store} → after ≡ (attempt golden s o).after → Ended i after answers bytes
    unfolding is_step attempt and_then
    going_stops g h none e t r = rw r (ended g (next i p h ∙ rw (← e) refl))
    going_stops g h (some step) e t r = absurd (false≢true (sym t))
