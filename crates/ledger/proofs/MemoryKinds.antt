-- Laws of the memory kinds: two of them fill a word, whose bits say whether they are lawful, and they stand in the ledger behind B and active.
use mathlib.Core.Bool.{◌||◌}
use mathlib.Core.List.{List}
use mathlib.Core.Logic.{◌≢◌, ⊎_elim}
use mathlib.Core.Path.{◌≡◌, refl, sym, ◌∙◌, ap₂}
use Prim.Native.Nat.{ℕ, ◌+◌, ◌*◌, ◌/◌, ◌%◌, ◌^◌, ◌<◌, ◌≤◌}
use native.Mathlib.Omega.{arith}
use lib.ListN.{get_or}
use borrow.Author.Tests.{lt-ltb, le-ltb}
use Rattle.words.specs.Bounded.{above, neqb, any}
use Rattle.words.specs.Words.{bits, half, word}
use Rattle.words.proofs.Bounded.{below_or_above, any_same, any_pairs, same, differ}
use Rattle.words.proofs.Lists.{get_or-part}
use Rattle.words.proofs.Words.{Bytes}
use Rattle.rules.specs.Store.{greatest_kind, kind_count, kinds_bytes, kinds_place, kinds_of, kind_at, unlawful_kinds}
use Rattle.ledger.specs.Pieces.{unlawful_pair}

-- a kind is lawful if the bits of the word above its bit 6 are 0
module _ (w : ℕ) where
  lower : neqb (bits w 7 9) 0 ≡ above (w % 2 ^ 16) greatest_kind
  lower =
      ⊎_elim (λ (l : greatest_kind < w % 2 ^ 16). differ (bits w 7 9) 0 (λ z. omega arith) ∙ sym (lt-ltb greatest_kind (w % 2 ^ 16) l))
      (λ (l : w % 2 ^ 16 ≤ greatest_kind). same (bits w 7 9) 0 (omega arith) ∙ sym (le-ltb greatest_kind (w % 2 ^ 16) l))
      (below_or_above greatest_kind (w % 2 ^ 16))

  higher : w < 2 ^ 32 → neqb (bits w 23 9) 0 ≡ above (w / 2 ^ 16) greatest_kind
  higher h =
      ⊎_elim (λ (l : greatest_kind < w / 2 ^ 16). differ (bits w 23 9) 0 (λ z. omega arith) ∙ sym (lt-ltb greatest_kind (w / 2 ^ 16) l))
      (λ (l : w / 2 ^ 16 ≤ greatest_kind). same (bits w 23 9) 0 (omega arith) ∙ sym (le-ltb greatest_kind (w / 2 ^ 16) l))
      (below_or_above greatest_kind (w / 2 ^ 16))

  pub first_unlawful : {r : ℕ} → r ≡ bits w 7 9 → r ≢ 0 → neqb r 0 ≡ unlawful_pair w
  first_unlawful {r} is n = rw (← lower, ← is, differ r 0 n) refl

  pub second_decides : {r q : ℕ} → w < 2 ^ 32 → r ≡ bits w 7 9 → r ≡ 0 → q ≡ bits w 23 9 → neqb q 0 ≡ unlawful_pair w
  second_decides {r} {q} h is z second = rw (← lower, ← is, same r 0 z, second) (higher h)

-- two kinds are judged by the word that they fill
pair_judged : (kinds : List ℕ) → Bytes kinds → (i : ℕ)
    → unlawful_pair (word kinds (4 * i)) ≡ (above (kind_at kinds (2 * i)) greatest_kind || above (kind_at kinds (2 * i + 1)) greatest_kind)
unfolding word half kind_at
pair_judged kinds bytes i =
    let a = 4 * i in
    let b0 = bytes a in
    let b1 = bytes (a + 1) in
    let b2 = bytes (a + 2) in
    let b3 = bytes (a + 3) in
    let at0 : 2 * (2 * i) ≡ a = omega arith in
    let at2 : 2 * (2 * i + 1) ≡ a + 2 = omega arith in
    let at3 : a + 2 + 1 ≡ a + 3 = omega arith in
    let low : word kinds a % 2 ^ 16 ≡ get_or kinds a 0 + 2 ^ 8 * get_or kinds (a + 1) 0 = omega arith in
    let high : word kinds a / 2 ^ 16 ≡ get_or kinds (a + 2) 0 + 2 ^ 8 * get_or kinds (a + 3) 0 = omega arith in
    rw (at0, at2, at3) (ap₂ (λ (x y : ℕ). above x greatest_kind || above y greatest_kind) low high)

-- so the eight are by four words
pub unlawful_pairs : (kinds : List ℕ) → Bytes kinds → any 4 (λ i. unlawful_pair (word kinds (4 * i))) ≡ unlawful_kinds kinds
unfolding unlawful_kinds
unlawful_pairs kinds bytes = any_same _ _ 4 (λ i l. pair_judged kinds bytes i) ∙ any_pairs (λ k. above (kind_at kinds k) greatest_kind) 4

-- kind k of the ledger is read where it stands
pub kind_stored : (led : List ℕ) (k : ℕ) → k < kind_count → half led (kinds_place + 2 * k) ≡ kind_at (kinds_of led) k
unfolding half kind_at kinds_of
kind_stored led k l =
    let next : kinds_place + (2 * k + 1) ≡ kinds_place + 2 * k + 1 = omega arith in
    rw (get_or-part led kinds_place kinds_bytes (2 * k) (omega arith), get_or-part led kinds_place kinds_bytes (2 * k + 1) (omega arith), next) refl
