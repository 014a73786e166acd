-- Laws of what entries give: a gain is a count over entries, a fault gives nothing, and a part gives no more than the whole.
use mathlib.Core.Bool.{true, false, false≢true}
use mathlib.Core.Path.{◌≡◌, refl, sym, ◌∙◌, ap}
use Prim.Native.Nat.{ℕ, ◌+◌, ◌-◌, ◌<◌, ◌≤◌}
use native.Mathlib.Numerals.{add-one}
use native.Mathlib.Omega.{arith}
use borrow.Author.Tests.{lt-ltb}
use Rattle.words.specs.Bounded.{above, any, sum, num}
use Rattle.words.proofs.Bounded.{any_found, and_true, among_in, among_within}
use Rattle.words.proofs.Sums.{sum_same, sum_cut, sum_window, count_most, count_hit, count_none, count-any}
use Rattle.entries.specs.Entries.{Entry, fault, unaccepted, link, section, page, large, is_fault, is_link, rights, place_blocks, cover_first, cover_blocks, covers}
use Rattle.entries.specs.Rights.{allows}
use Rattle.entries.proofs.Covers.{cover_some}
use Rattle.rules.specs.Store.{Counter, writable, executable, linked}
use Rattle.rules.specs.Tables.{grants, gives, gain}

pub fault_is : (e : Entry) → is_fault e ≡ true → e ≡ fault
unfolding is_fault
fault_is fault h = refl
fault_is unaccepted h = absurd (false≢true h)
fault_is (link p) h = absurd (false≢true h)
fault_is (section b r) h = absurd (false≢true h)
fault_is (page b r) h = absurd (false≢true h)
fault_is (large b r) h = absurd (false≢true h)

pub gives_fault : (c : Counter) (p : ℕ) → gives c fault p ≡ false
unfolding gives grants allows rights is_link
gives_fault writable p = refl
gives_fault executable p = refl
gives_fault linked p = refl

-- a block that is given something is covered by the entry
pub gives_within : (c : Counter) (e : Entry) (p : ℕ) → gives c e p ≡ true → (grants c e ≡ true) × (cover_first e ≤ p) × (p < cover_first e + cover_blocks e)
unfolding gives covers
gives_within c e p h =
    let (g, t) = and_true (grants c e) (covers e p) h in let (lo, hi) = among_within (cover_first e) (cover_blocks e) p t in (g, lo, hi)

-- what gives something has a place, and covers a block
pub grants_place : (c : Counter) (e : Entry) → grants c e ≡ true → 0 < place_blocks e
unfolding grants allows rights is_link place_blocks
grants_place c (link p) h = omega arith
grants_place c (section b r) h = omega arith
grants_place c (page b r) h = omega arith
grants_place c (large b r) h = omega arith
grants_place writable fault h = absurd (false≢true h)
grants_place executable fault h = absurd (false≢true h)
grants_place linked fault h = absurd (false≢true h)
grants_place writable unaccepted h = absurd (false≢true h)
grants_place executable unaccepted h = absurd (false≢true h)
grants_place linked unaccepted h = absurd (false≢true h)

pub grants_cover : (c : Counter) (e : Entry) → grants c e ≡ true → 0 < cover_blocks e
grants_cover c e h = cover_some e (grants_place c e h)

-- a block that an entry covers that grants something is given it
pub gives_at : (c : Counter) (e : Entry) (b : ℕ) → grants c e ≡ true → cover_first e ≤ b → b < cover_first e + cover_blocks e → gives c e b ≡ true
unfolding gives covers
gives_at c e b g lo hi = rw (g, among_in (cover_first e) (cover_blocks e) b lo hi) refl

module _ (m : ℕ) (e : ℕ → Entry) (c : Counter) (p : ℕ) where
  pub gain-most : gain m e c p ≤ m
  unfolding gain
  gain-most = count_most (λ i. gives c (e i) p) m

  -- one entry more
  pub gain_more : gain (m + 1) e c p ≡ gain m e c p + num (gives c (e m) p)
  unfolding gain sum
  gain_more = rw (add-one m) refl

  -- some entry gives exactly if there is a gain
  pub gain-any : above (gain m e c p) 0 ≡ any m (λ i. gives c (e i) p)
  unfolding gain
  gain-any = count-any (λ i. gives c (e i) p) m

  pub gain_hit : (i : ℕ) → i < m → gives c (e i) p ≡ true → 0 < gain m e c p
  unfolding gain
  gain_hit = count_hit (λ i. gives c (e i) p) m

  pub gain_none : ((i : ℕ) → i < m → gives c (e i) p ≡ false) → gain m e c p ≡ 0
  unfolding gain
  gain_none = count_none (λ i. gives c (e i) p) m

  pub gain_found : 0 < gain m e c p → (i : ℕ) × (i < m) × (gives c (e i) p ≡ true)
  unfolding gain
  gain_found h = any_found (λ i. gives c (e i) p) m (sym gain-any ∙ lt-ltb 0 (gain m e c p) h)

  pub gain_same : (d : ℕ → Entry) → ((i : ℕ) → i < m → e i ≡ d i) → gain m e c p ≡ gain m d c p
  unfolding gain
  gain_same d h = sum_same (λ i. num (gives c (e i) p)) (λ i. num (gives c (d i) p)) m (λ i l. ap (λ (x : Entry). num (gives c x p)) (h i l))

  -- a window of the entries
  pub gain-part : (a k : ℕ) → a + k ≤ m → gain k (λ i. e (a + i)) c p ≤ gain m e c p
  unfolding gain
  gain-part a k h =
      let f : ℕ → ℕ = λ i. num (gives c (e i) p) in
      let n : m ≡ a + k + (m - (a + k)) = omega arith in
      rw n (omega (arith, sum_cut f (a + k) (m - (a + k)), sum_cut f a k))

  pub gain_window : (d : ℕ → Entry) (a k : ℕ) → a + k ≤ m → ((i : ℕ) → i < m → (a ≤ i → a + k ≤ i) → e i ≡ d i)
      → gain m e c p + gain k (λ i. d (a + i)) c p ≡ gain m d c p + gain k (λ i. e (a + i)) c p
  unfolding gain
  gain_window d a k h same =
      sum_window (λ i. num (gives c (e i) p)) (λ i. num (gives c (d i) p)) m a k h (λ i l o. ap (λ (x : Entry). num (gives c x p)) (same i l o))
