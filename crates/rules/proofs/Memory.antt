-- Laws of the memory: a store changes the contents of its own block only, and words elsewhere keep their entries.
use mathlib.Core.List.{List}
use mathlib.Core.Logic.{◌⊎◌, ⊎_elim, inl, inr}
use mathlib.Core.Path.{◌≡◌, refl, sym, ◌∙◌, ap, ap₂}
use Prim.Native.Nat.{ℕ, zero, suc, ◌+◌, ◌-◌, ◌*◌, ◌/◌, ◌%◌, ◌^◌, ◌<◌, ◌≤◌}
use native.Mathlib.Omega.{arith}
use lib.ListN.{length, get_or, set, length-set}
use lib.Seq.{get_or-set_other}
use Rattle.words.specs.Words.{word, put_word}
use Rattle.words.proofs.Bounded.{last_or_below, below_or_above, window_or_outside}
use Rattle.words.proofs.Lists.{get_or-part, part_same}
use Rattle.words.proofs.Words.{length-put_word, get_or-put_word_other, word_cong, word-put_word_same, word-put_word_other}
use Rattle.entries.specs.Entries.{Entry, Level, entry_at, run_words}
use Rattle.entries.specs.Written.{word_of}
use Rattle.entries.proofs.Decoding.{Lone, entry_at_beside, entry_at_cong}
use Rattle.entries.proofs.RoundTrip.{written_bound, written_reads_back, Encodable}
use Rattle.rules.specs.Store.{block_bytes, block_words, fill}
use Rattle.rules.specs.Signature.{contents, signed_block}

-- the words w over the m words from word j on

module _ (mem : List ℕ) (j : ℕ) (w : ℕ → ℕ) where
  pub length-fill : (m : ℕ) → length (fill mem j m w) ≡ length mem
  unfolding fill
  length-fill zero = refl
  length-fill (suc m) = length-put_word (fill mem j m w) (4 * (j + m)) (w m) ∙ length-fill m

  -- a byte outside the words that are filled
  get_or-fill_other : (m i : ℕ) → (4 * j ≤ i → 4 * (j + m) ≤ i) → get_or (fill mem j m w) i 0 ≡ get_or mem i 0
  unfolding fill
  get_or-fill_other zero i o = refl
  get_or-fill_other (suc m) i o =
      get_or-put_word_other (fill mem j m w) (4 * (j + m)) (w m) i (λ h. omega (arith, o (omega arith))) ∙ get_or-fill_other m i (λ h. omega (arith, o h))

  -- a word outside
  pub word-fill_other : (m i : ℕ) → (j ≤ i → j + m ≤ i) → word (fill mem j m w) (4 * i) ≡ word mem (4 * i)
  word-fill_other m i o = word_cong (fill mem j m w) mem (4 * i) (λ k lo hi. get_or-fill_other m k (λ h. away k lo hi h)) where
    away : (k : ℕ) → 4 * i ≤ k → k < 4 * i + 4 → 4 * j ≤ k → 4 * (j + m) ≤ k
    away k lo hi h = ⊎_elim (λ (l : i < j). let z : ⊥ = omega arith in absurd z) (λ (l : j ≤ i). omega (arith, o l)) (below_or_above i j)

  -- a word of the window
  word-fill : (m : ℕ) → ((k : ℕ) → k < m → w k < 2 ^ 32) → 4 * (j + m) ≤ length mem → (i : ℕ) → i < m → word (fill mem j m w) (4 * (j + i)) ≡ w i
  unfolding fill
  word-fill zero small h i l = let z : ⊥ = omega arith in absurd z
  word-fill (suc m) small h i l =
      ⊎_elim
      (λ (q : i ≡ m). rw q (word-put_word_same (fill mem j m w) (4 * (j + m)) (w m) (rw (length-fill m) (omega arith)) (small m (omega arith))))
      (λ (s : i < m). word-put_word_other (fill mem j m w) (4 * (j + m)) (w m) (4 * (j + i)) (λ t. omega arith) ∙ word-fill m (λ k l. small k (omega arith)) (omega arith) i s)
      (last_or_below l)

  -- an entry outside, whose aligned sixteen words lie outside too, or have lone words in the window before and after
  pub entry_at-fill_other : (v : Level) (m i : ℕ) → (j ≤ i → j + m ≤ i)
      → ((k : ℕ) → k < m → (j + k) / run_words ≡ i / run_words → Lone v (word mem (4 * (j + k))) × Lone v (word (fill mem j m w) (4 * (j + k))))
      → entry_at v (fill mem j m w) i ≡ entry_at v mem i
  entry_at-fill_other v m i o lone = entry_at_beside v (fill mem j m w) mem i (word-fill_other m i o) (λ a near. go a near (window_or_outside a j m)) where
    go : (a : ℕ) → a / run_words ≡ i / run_words → ((j ≤ a) × (a < j + m)) ⊎ (j ≤ a → j + m ≤ a)
        → (word (fill mem j m w) (4 * a) ≡ word mem (4 * a)) ⊎ (Lone v (word (fill mem j m w) (4 * a)) × Lone v (word mem (4 * a)))
    go a near (inl (lo, hi)) =
        let at : j + (a - j) ≡ a = omega arith in
        let (before, after) = rw at at (lone (a - j) (omega arith) (ap (λ (n : ℕ). n / run_words) at ∙ near)) in
        inr (after, before)
    go a near (inr out) = inl (word-fill_other m a out)

-- the same words stored
pub fill_same : (mem : List ℕ) (j m : ℕ) (v w : ℕ → ℕ) → ((k : ℕ) → k < m → v k ≡ w k) → fill mem j m v ≡ fill mem j m w
unfolding fill
fill_same mem j zero v w h = refl
fill_same mem j (suc m) v w h = ap₂ (λ (xs : List ℕ) (x : ℕ). put_word xs (4 * (j + m)) x) (fill_same mem j m v w (λ k l. h k (omega arith))) (h m (omega arith))

-- the words of a window of entries: what is written reads back
pub entry_at-fill : (v : Level) (mem : List ℕ) (j kind : ℕ) (e : ℕ → Entry) (m : ℕ) → Encodable v j m e → 4 * (j + m) ≤ length mem
    → (i : ℕ) → i < m → entry_at v (fill mem j m (λ k. word_of kind (e k))) (j + i) ≡ e i
entry_at-fill v mem j kind e m x h =
    written_reads_back kind (fill mem j m (λ k. word_of kind (e k))) x (word-fill mem j (λ k. word_of kind (e k)) m (written_bound kind x) h)

-- Blocks

-- two memories of one length with the same bytes in block b have the same contents there
contents_same : (mem mem' : List ℕ) (b : ℕ) → length mem ≡ length mem'
    → ((i : ℕ) → block_bytes * b ≤ i → i < block_bytes * b + block_bytes → get_or mem i 0 ≡ get_or mem' i 0) → contents mem b ≡ contents mem' b
contents_same mem mem' b e h = part_same mem mem' (block_bytes * b) block_bytes e (λ i l. h (block_bytes * b + i) (omega arith) (omega arith))

-- and the same contents have the same bytes, and the same entries
contents_byte : (mem mem' : List ℕ) (b i : ℕ) → contents mem b ≡ contents mem' b → i / block_bytes ≡ b → get_or mem i 0 ≡ get_or mem' i 0
contents_byte mem mem' b i e in_block =
    let at : block_bytes * b + i % block_bytes ≡ i = omega arith in
    let byte : (m : List ℕ) → get_or (contents m b) (i % block_bytes) 0 ≡ get_or m (block_bytes * b + i % block_bytes) 0 = λ m. get_or-part m (block_bytes * b) block_bytes (i % block_bytes) (omega arith) in
    rw at at (sym (byte mem) ∙ ap (λ (xs : List ℕ). get_or xs (i % block_bytes) 0) e ∙ byte mem')

pub contents_entry : (v : Level) (mem mem' : List ℕ) (b j : ℕ) → contents mem b ≡ contents mem' b → j / block_words ≡ b → entry_at v mem j ≡ entry_at v mem' j
contents_entry v mem mem' b j e in_block =
    entry_at_cong v mem mem' j (λ k near. word_cong mem mem' (4 * k) (λ i lo hi. contents_byte mem mem' b i e (omega arith)))

pub contents-fill : (mem : List ℕ) (j : ℕ) (w : ℕ → ℕ) (m b : ℕ) → (4 * j < block_bytes * b + block_bytes → 4 * (j + m) ≤ block_bytes * b) → contents (fill mem j m w) b ≡ contents mem b
contents-fill mem j w m b o =
    contents_same (fill mem j m w) mem b (length-fill mem j w m) (λ i lo hi. get_or-fill_other mem j w m i (λ h. omega (arith, o (omega arith))))

pub contents-set : (mem : List ℕ) (j v b : ℕ) → (j < block_bytes * b + block_bytes → j < block_bytes * b) → contents (set mem j v) b ≡ contents mem b
contents-set mem j v b o =
    contents_same (set mem j v) mem b (length-set mem j v) (λ i lo hi. get_or-set_other mem j i v 0 (λ e. omega (arith, o (omega arith))))

-- a block with the same contents is signed as before
pub signed_block_same : (golden : List ℕ) (B : ℕ) (mem mem' : List ℕ) (b : ℕ) → contents mem b ≡ contents mem' b → signed_block golden B mem (B + b) ≡ signed_block golden B mem' (B + b)
unfolding signed_block
signed_block_same golden B mem mem' b e =
    let q : B + b - B ≡ b = omega arith in
    rw (q, e) refl
