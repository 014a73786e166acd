-- The invariants: no digest before k agrees, and digest k agrees in its first j bytes.
use Rattle.std.proofs.Common.{◌≡◌, true, false}
use Rattle.words.specs.Bounded.{any}
use Rattle.signature.specs.Signed.{agrees, digest_bytes}
use Rattle.signature.proofs.golden.is_listed.Given as goal

abbrev pub invariant-loop-j : goal.invariant-loop-j
invariant-loop-j l = agrees l.digest l.golden l.k l.j ≡ true

abbrev pub invariant-search : goal.invariant-search
invariant-search l = (l.found ≡ false) × (any l.k (λ i. agrees l.digest l.golden i digest_bytes) ≡ false)
