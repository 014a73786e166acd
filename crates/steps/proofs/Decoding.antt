-- Laws of decoding: which records hold no step, and how many can hold one.
use mathlib.Core.Bool.{Bool, true, false, ◌||◌}
use mathlib.Core.List.{List}
use mathlib.Core.Option.{Option, none, some, none-ne-some}
use mathlib.Core.Path.{◌≡◌, refl, sym, ◌∙◌}
use Prim.Native.Nat.{ℕ, zero, suc, ◌+◌, ◌*◌, ◌<◌, ◌≤◌}
use native.Mathlib.Omega.{arith}
use lib.ListN.{length, get_or-eq_default}
use borrow.Author.Tests.{ltb-false}
use Rattle.words.proofs.Bounded.{or_false_left}
use Rattle.rules.specs.Steps.{Step}
use Rattle.steps.specs.Records.{calls, step_of, record_bytes, short, unmarked, step_at, and_then, steps_from}

pub unlisted : (call a b c d : ℕ) → (0 < call → 16 < call) → none ≡ step_of call a b c d
unfolding step_of
unlisted zero a b c d h = refl
unlisted (suc n) a b c d h =
    let l : 16 < suc n = h (omega arith) in
    sym (get_or-eq_default (calls a b c d) none {n = suc n} l)

-- a record that is neither short nor unmarked is whole
pub whole : (records : List ℕ) (p : ℕ) → (short records p || unmarked records p) ≡ false → p + record_bytes ≤ length records
whole records p e = ltb-false (length records) (p + record_bytes) (or_false_left (short records p) (unmarked records p) e)

-- where a step stands, there is a whole record
pub step_within : (records : List ℕ) (p : ℕ) (step : Step) → some step ≡ step_at records p → p + record_bytes ≤ length records
unfolding step_at
step_within records p step e = go (short records p || unmarked records p) refl where
  go : (t : Bool) → (short records p || unmarked records p) ≡ t → p + record_bytes ≤ length records
  go true q = absurd (none-ne-some step (sym (e ∙ rw q refl)))
  go false q = whole records p q

-- there are no more steps than there is room for
pub within_room : (records : List ℕ) (p m : ℕ) → length (steps_from records p m) ≤ m
unfolding steps_from and_then
within_room records p zero = omega arith
within_room records p (suc m) = go (step_at records p) (steps_from records (p + record_bytes) m) (within_room records (p + record_bytes) m) where
  go : (o : Option Step) (rest : List Step) → length rest ≤ m → length (and_then o rest) ≤ suc m
  go none rest l = omega arith
  go (some step) rest l = omega arith

-- each of the steps stands in a whole record
pub within_records : (records : List ℕ) (p m : ℕ) → p ≤ length records → p + record_bytes * length (steps_from records p m) ≤ length records
unfolding steps_from and_then
within_records records p zero h = omega arith
within_records records p (suc m) h = go (step_at records p) refl (steps_from records (p + record_bytes) m) (within_records records (p + record_bytes) m) where
  go : (o : Option Step) → o ≡ step_at records p → (rest : List Step) → (p + record_bytes ≤ length records → p + record_bytes + record_bytes * length rest ≤ length records)
      → p + record_bytes * length (and_then o rest) ≤ length records
  go none e rest l = omega arith
  go (some step) e rest l = omega (arith, l (step_within records p step e))
