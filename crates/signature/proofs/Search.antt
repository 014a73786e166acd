-- Laws of the search of a golden image: digests agree byte by byte, and a digest is listed where one agrees whole.
use Rattle.std.proofs.Common.{◌≡◌, ℕ, ◌+◌, ◌*◌, ◌/◌, ◌<◌, true, false, not, List, length, get_or, sym, ap, eq-eqb, ne_eqb}
use borrow.Author.Tests.{not-true}
use Rattle.words.proofs.Bounded.{any_step, any_hit}
use Rattle.signature.specs.Signed.{digest_bytes, agrees, listed}

module _ (d golden : List ℕ) (k : ℕ) where
  pub agrees_more : (j : ℕ) → agrees d golden k j ≡ true → get_or d j 0 ≡ get_or golden (digest_bytes * k + j) 0 → agrees d golden k (j + 1) ≡ true
  unfolding agrees
  agrees_more j p e = ap not (any_step _ j (not-true _ p) (ap not (eq-eqb _ _ e)))

  pub agrees_not : (n j : ℕ) → j < n → (get_or d j 0 ≡ get_or golden (digest_bytes * k + j) 0 → ⊥) → agrees d golden k n ≡ false
  unfolding agrees
  agrees_not n j h e = ap not (any_hit _ n j h (ap not (ne_eqb _ _ e)))

pub listed_at : (d golden : List ℕ) (k : ℕ) → k < length golden / digest_bytes → agrees d golden k digest_bytes ≡ true → true ≡ listed d golden
unfolding listed
listed_at d golden k h e = sym (any_hit _ _ k h e)
