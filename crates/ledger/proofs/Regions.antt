-- Two stores that are the same have the same buffers.
use mathlib.Core.List.{List}
use mathlib.Core.Path.{◌≡◌, ap}
use Prim.Native.Nat.{ℕ}
use Rattle.rules.specs.Store.{Store, lent}

pub same_memory : {m n l k : List ℕ} → lent m l ≡ lent n k → m ≡ n
same_memory e = ap (λ (s : Store). s.memory) e

pub same_ledger : {m n l k : List ℕ} → lent m l ≡ lent n k → l ≡ k
same_ledger e = ap (λ (s : Store). s.ledger) e
