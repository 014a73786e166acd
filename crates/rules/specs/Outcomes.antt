-- What a call answers, leaves and gives (RULES: calls, promises).
use Rattle.std.specs.Prelude.{List, ℕ, zero, suc}
use Rattle.rules.specs.Refusals.{Refusal, answer_of}
use Rattle.rules.specs.Store.{Store}

-- promises 1: all that is said of a call but what becomes of the fault registers: its answer, memory and ledger afterwards, the byte that it gives, and the
-- number of blocks hashed
pub record Outcome : Type 0 where
  pub answer : ℕ
  pub after : Store
  pub byte : ℕ
  pub hashed : ℕ

-- calls 4, calls 5, calls 8: what acceptance leaves and gives
pub record Accepted : Type 0 where
  pub store : Store
  pub byte : ℕ
  pub hashed : ℕ

-- calls 4, calls 5, calls 8: what a call leaves that gives neither a byte nor a number; 0 stands in their places
abbrev pub leaving : Store → Accepted
leaving s = record { store = s; byte = 0; hashed = 0 }

-- calls 2, calls 3, calls 4, calls 5, calls 8: answer 0 leaves and gives what acceptance does; with any other the store is as it was, byte and number are 0
unfoldable pub settle : ℕ → Store → Accepted → Outcome
settle zero old new = record { answer = 0; after = new.store; byte = new.byte; hashed = new.hashed }
settle (suc k) old new = record { answer = suc k; after = old; byte = 0; hashed = 0 }

-- calls 2, calls 3, calls 4, calls 5, calls 8: the outcome of a call on store s, by its list of refusals and what acceptance leaves and gives
abbrev pub call_outcome : List Refusal → Store → Accepted → Outcome
call_outcome refusals s new = settle (answer_of refusals) s new
