-- Laws of the computation of FIPS 180-4, 6.2.2: what one turn of each of its loops adds.
use Rattle.std.proofs.Common.{◌≡◌, ℕ, zero, suc, ◌+◌, ◌-◌, ◌*◌, ◌<◌, ◌≤◌, cond, ltb, List, get_or, take, set, refl, add-zero, add_assoc, add-suc, zero-add, add-one, arith, length-set, get_or-take, take-suc-set, le-ltb, lt-ltb}
use Rattle.words.specs.Lists.{part}
use Rattle.words.proofs.Lists.{Filling}
use Rattle.signature.specs.Sha256.{◌⊞◌, σ₀, σ₁, K, block_word, next_word, schedule, round, rounds, compress, hashes}

-- an array of n words that is filled with the schedule, with the next word stored at t
schedule_turn : (b w : List ℕ) (n t : ℕ) {v : ℕ} → Filling (schedule b) n w t → t < n
    → v ≡ cond (ltb t 16) (block_word b t) (next_word (schedule b t) t) → Filling (schedule b) n (set w t v) (t + 1)
unfolding schedule
schedule_turn b w n t {v} i h e =
    (omega arith, simp length-set i.1, rw (add-one, take-suc-set w t v (omega arith)) (let p = i.2 in cc))

pub schedule_turn_block : (b w : List ℕ) (n t : ℕ) {v : ℕ} → t < 16 → Filling (schedule b) n w t → t < n → v ≡ block_word b t
    → Filling (schedule b) n (set w t v) (t + 1)
schedule_turn_block b w n t l i h e = schedule_turn b w n t i h (rw (lt-ltb t 16 l) e)

pub schedule_turn_next : (b w : List ℕ) (n t : ℕ) {v : ℕ} → 16 ≤ t → Filling (schedule b) n w t → t < n
    → v ≡ σ₁ (get_or w (t - 2) 0) ⊞ get_or w (t - 7) 0 ⊞ σ₀ (get_or w (t - 15) 0) ⊞ get_or w (t - 16) 0
    → Filling (schedule b) n (set w t v) (t + 1)
unfolding next_word
schedule_turn_next b w n t l i h e =
    let at : (k : ℕ) → t - k < t → get_or (take t w) (t - k) 0 ≡ get_or w (t - k) 0 = λ k. get_or-take t w (t - k) 0 in
    schedule_turn b w n t i h
    (rw (le-ltb t 16 l, ← i.2, at 2 (omega arith), at 7 (omega arith), at 15 (omega arith), at 16 (omega arith)) e)

pub rounds_more : (s w : List ℕ) (t n : ℕ) {k v r : List ℕ} → k ≡ K → v ≡ rounds s w t n → r ≡ round v (get_or k (t + n) 0) (get_or w (t + n) 0)
    → r ≡ rounds s w t (n + 1)
unfolding rounds
rounds_more s w t n p q e = rw add-one (cc)

rounds_add : (s w : List ℕ) (t n m : ℕ) → rounds (rounds s w t n) w (t + n) m ≡ rounds s w t (n + m)
unfolding rounds
rounds_add s w t n zero = rw add-zero refl
rounds_add s w t n (suc m) = rw (add-suc, add_assoc, rounds_add s w t n m) refl

pub rounds_turn : (h w : List ℕ) (i : ℕ) {s r : List ℕ} → s ≡ rounds h w 0 (8 * i) → r ≡ rounds s w (8 * i) 8 → r ≡ rounds h w 0 (8 * (i + 1))
rounds_turn h w i p q =
    let e : 8 * (i + 1) ≡ 8 * i + 8 = omega arith in
    rw (e, ← (rounds_add h w 0 (8 * i) 8), zero-add) (cc)

pub hashes_turn : (m : List ℕ) (i : ℕ) {h w s : List ℕ} → h ≡ hashes m i → w ≡ schedule (part m (64 * i) 64) 64 → s ≡ compress h w
    → s ≡ hashes m (i + 1)
unfolding hashes
hashes_turn m i p q e = rw add-one (cc)
