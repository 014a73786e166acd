-- Laws of parts of lists, of lists made by their elements, and of lists stored over others.
use mathlib.Core.Path.{◌≡◌, refl, sym, ◌∙◌}
use mathlib.Core.List.{List, [], ◌∷◌, ◌++◌}
use mathlib.Core.Logic.{⊎_elim}
use Prim.Native.Nat.{ℕ, zero, suc, ◌+◌, ◌<◌, ◌≤◌}
use native.Mathlib.Nat.{add-zero, add-suc, suc-add}
use native.Mathlib.Numerals.{add-one}
use native.Mathlib.Omega.{arith}
use lib.ListN.{length, get_or, take, drop, set, length-append, length-take, length-drop, length-set, replicate, length-replicate, get_or-append}
use lib.Seq.{get_or-take, get_or-drop, get_or_at, get_or-set_same, get_or-set_other, take-suc-set, take_all, take-suc, length-take-le, ext_get_or, sets, sets-eq}
use borrow.Rule.Slice.PartMut.{put_mid}
use Rattle.std.proofs.lemmas.Slice.{put_mid-paste}
use Rattle.std.proofs.lemmas.List.Edits.{paste_all}
use Rattle.std.proofs.Common.{append_assoc}
use Rattle.words.specs.Lists.{part, tabulate, put_list}
use Rattle.words.proofs.Bounded.{last_or_below}

module _ (f : ℕ → ℕ) where
  pub length-tabulate : (n : ℕ) → length (tabulate f n) ≡ n
  unfolding tabulate
  length-tabulate zero = refl
  length-tabulate (suc n) = length-append (tabulate f n) (f n ∷ []) ∙ (let e = length-tabulate n in omega arith)

  pub get_or-tabulate : (n i : ℕ) → i < n → get_or (tabulate f n) i 0 ≡ f i
  unfolding tabulate
  get_or-tabulate zero i h = let z : ⊥ = omega arith in absurd z
  get_or-tabulate (suc n) i h =
      ⊎_elim (λ (q : i ≡ n). rw q (get_or_at (tabulate f n) (f n) [] 0 n (length-tabulate n)))
      (λ (l : i < n). get_or-append (tabulate f n) (f n ∷ []) 0 i (let e = length-tabulate n in omega arith) ∙ get_or-tabulate n i l)
      (last_or_below h)

module _ (xs : List ℕ) (a m : ℕ) where
  length_part : a + m ≤ length xs → length (part xs a m) ≡ m
  unfolding part
  length_part h = simp (length-take, length-drop) (omega arith)

  pub get_or-part : (i : ℕ) → i < m → get_or (part xs a m) i 0 ≡ get_or xs (a + i) 0
  unfolding part
  get_or-part i h = get_or-take m (drop a xs) i 0 h ∙ get_or-drop a xs i 0

  -- a part, by its elements
  pub part-tabulate : a + m ≤ length xs → tabulate (λ i. get_or xs (a + i) 0) m ≡ part xs a m
  part-tabulate h =
      ext_get_or 0 (tabulate (λ i. get_or xs (a + i) 0) m) (part xs a m) (length-tabulate _ m ∙ sym (length_part h))
      (λ i l. let l' : i < m = (let e = length-tabulate (λ i. get_or xs (a + i) 0) m in omega arith) in get_or-tabulate _ m i l' ∙ sym (get_or-part i l'))

pub part_same : (xs ys : List ℕ) (a m : ℕ) → length xs ≡ length ys → ((i : ℕ) → i < m → get_or xs (a + i) 0 ≡ get_or ys (a + i) 0) → part xs a m ≡ part ys a m
unfolding part
part_same xs ys a m e h =
    ext_get_or 0 (part xs a m) (part ys a m) (simp (length-take, length-drop) (omega arith))
    (λ i l. let k : i < m = omega (arith, simp (length-take, length-drop) at l) in get_or-part xs a m i k ∙ h i k ∙ sym (get_or-part ys a m i k))

-- Storing a list over another

pub length-put_list : (xs : List ℕ) (a : ℕ) (ys : List ℕ) → length (put_list xs a ys) ≡ length xs
unfolding put_list
length-put_list xs a [] = refl
length-put_list xs a (y ∷ ys) = length-put_list (set xs a y) (suc a) ys ∙ length-set xs a y

-- two lists stored one behind the other are one list stored
pub put_list-append : (xs : List ℕ) (a : ℕ) (ys zs : List ℕ) → put_list (put_list xs a ys) (a + length ys) zs ≡ put_list xs a (ys ++ zs)
unfolding put_list
put_list-append xs a [] zs = rw add-zero refl
put_list-append xs a (y ∷ ys) zs = rw (add-suc, ← suc-add) (put_list-append (set xs a y) (suc a) ys zs)

-- the turn of a loop that stores element after element
pub put_list_turn : (xs : List ℕ) (a : ℕ) (ys : List ℕ) (i : ℕ) {zs : List ℕ} → i < length ys → zs ≡ put_list xs a (take i ys)
    → set zs (a + i) (get_or ys i 0) ≡ put_list xs a (take (i + 1) ys)
unfolding put_list
put_list_turn xs a ys i h e =
    let l = length-take-le i ys (omega arith) in
    rw (e, add-one, take-suc ys i 0 h) (rw l at (put_list-append xs a (take i ys) (get_or ys i 0 ∷ [])))

-- the library's run of stores
stores : (xs : List ℕ) (a : ℕ) (ys : List ℕ) → put_list xs a ys ≡ sets xs a ys
unfolding put_list
stores xs a [] = refl
stores xs a (y ∷ ys) = stores (set xs a y) (suc a) ys

-- what is stored, between what stands before and behind it
pub put_list_between : (xs : List ℕ) (a : ℕ) (ys : List ℕ) → a + length ys ≤ length xs → put_list xs a ys ≡ take a xs ++ ys ++ drop (a + length ys) xs
put_list_between xs a ys h = stores xs a ys ∙ sets-eq ys xs a h

-- a part of a slice that holds other elements now
pub put_mid-list : (xs : List ℕ) (a k : ℕ) (ys : List ℕ) {zs : List ℕ} → zs ≡ ys → k ≡ length ys → a + length ys ≤ length xs → put_mid a k xs zs ≡ put_list xs a ys
put_mid-list xs a k ys {zs} e n h =
    put_mid-paste a k xs zs ys (length ys) e (sym n) refl ∙ paste_all xs a ys (length ys) refl ∙ sym (append_assoc (take a xs) ys (drop (a + length ys) xs))
    ∙ sym (put_list_between xs a ys h)

-- an element that is not stored over
pub get_or-put_list_other : (xs : List ℕ) (a : ℕ) (ys : List ℕ) (i : ℕ) → (a ≤ i → a + length ys ≤ i) → get_or (put_list xs a ys) i 0 ≡ get_or xs i 0
unfolding put_list
get_or-put_list_other xs a [] i o = refl
get_or-put_list_other xs a (y ∷ ys) i o = get_or-put_list_other (set xs a y) (suc a) ys i (λ h. omega (arith, o (omega arith))) ∙ get_or-set_other xs a i y 0 (λ q. omega (arith, o (omega arith)))

-- an element that is
pub get_or-put_list_in : (xs : List ℕ) (a : ℕ) (ys : List ℕ) (i : ℕ) → a + length ys ≤ length xs → i < length ys → get_or (put_list xs a ys) (a + i) 0 ≡ get_or ys i 0
unfolding put_list
get_or-put_list_in xs a [] i h l = let z : ⊥ = omega arith in absurd z
get_or-put_list_in xs a (y ∷ ys) zero h l =
    rw (add-zero a) (get_or-put_list_other (set xs a y) (suc a) ys a (λ g. omega arith) ∙ get_or-set_same xs a y 0 (omega arith))
get_or-put_list_in xs a (y ∷ ys) (suc i) h l =
    rw (add-suc a i, ← suc-add a i) (get_or-put_list_in (set xs a y) (suc a) ys i (rw (length-set xs a y) (omega arith)) (omega arith))

-- the part that was stored
pub part-put_list : (xs : List ℕ) (a : ℕ) (ys : List ℕ) → a + length ys ≤ length xs → part (put_list xs a ys) a (length ys) ≡ ys
part-put_list xs a ys h =
    let long : length (part (put_list xs a ys) a (length ys)) ≡ length ys = length_part (put_list xs a ys) a (length ys) (rw (length-put_list xs a ys) h) in
    ext_get_or 0 (part (put_list xs a ys) a (length ys)) ys long
    (λ i l. let l' : i < length ys = rw long at l in get_or-part (put_list xs a ys) a (length ys) i l' ∙ get_or-put_list_in xs a ys i h l')

-- A loop that fills an array of n elements

-- before its turn t, the array w has the elements of f t in front
abbrev pub Filling : (ℕ → List ℕ) → ℕ → List ℕ → ℕ → Type 0
Filling f n w t = (t ≤ n) × (length w ≡ n) × (take t w ≡ f t)

pub filling_starts : (g : ℕ → ℕ) (n : ℕ) → Filling (tabulate g) n (replicate n 0) 0
unfolding tabulate
filling_starts g n = (omega arith, length-replicate n 0, refl)

pub filling_turn : (g : ℕ → ℕ) (n : ℕ) (w : List ℕ) (t : ℕ) {v : ℕ} → Filling (tabulate g) n w t → t < n → v ≡ g t
    → Filling (tabulate g) n (set w t v) (t + 1)
unfolding tabulate
filling_turn g n w t {v} i h e =
    (omega arith, simp length-set i.1, rw (add-one, take-suc-set w t v (omega arith)) (let p = i.2 in cc))

pub filling_ends : (f : ℕ → List ℕ) {n : ℕ} (w : List ℕ) (t : ℕ) → Filling f n w t → n ≤ t → w ≡ f n
filling_ends f {n} w t i h =
    let e : t ≡ n = omega arith in
    let p : take n w ≡ f n = rw e at i.2 in
    sym (take_all n w (omega arith)) ∙ p
