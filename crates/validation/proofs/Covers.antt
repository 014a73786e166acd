-- Laws of the blocks that entries cover: where they lie, what is recorded of them, and when two covers overlap.
use mathlib.Core.Bool.{Bool, true, false, ◌||◌}
use mathlib.Core.List.{List}
use mathlib.Core.Logic.{⊎_elim}
use mathlib.Core.Path.{◌≡◌, refl, ◌∙◌, ap}
use Prim.Native.Nat.{ℕ, ◌+◌, ◌<◌, ◌≤◌}
use native.Mathlib.Omega.{arith}
use lib.Dec.{ltb}
use borrow.Author.Tests.{lt-ltb, ltb-true}
use Rattle.words.specs.Bounded.{neqb, among, any}
use Rattle.words.specs.Words.{word}
use Rattle.words.proofs.Bounded.{both_ways, and_true, or_false_left, below_or_above, any_or, among_in, among_within}
use Rattle.entries.specs.Entries.{Entry, Level, l1, l2, cover_first, cover_blocks}
use Rattle.rules.specs.Store.{base_place, Store, blocks, base, record_word, Counter, writable, type_of, some_block, misfit_stored}
use Rattle.rules.specs.Tables.{type_d, table_blocks, grants, gives, astray}
use Rattle.rules.specs.Create.{unfit_link, unfit_write, misplaced}
use Rattle.rules.proofs.Gains.{gives_within, grants_place, grants_cover}
use Rattle.rules.proofs.State.{some_block_hit, some_block_found}
use Rattle.rules.proofs.Walk.{cover_within}
use Rattle.ledger.specs.Needs.{EntryRecorded, record_of}
use Rattle.ledger.proofs.Blocks.{some_block_records}
use Rattle.ledger.proofs.Counting.{recorded_inside, entry_inside}
use Rattle.validation.specs.Needs.{CoverRecorded}
use Rattle.validation.specs.Tests.{some_covered, overlap}

-- 10 does not apply to an entry's place: a block that is given something is in the region
pub given_inside : (B n : ℕ) (c : Counter) (e : Entry) (b : ℕ) → astray B n e ≡ false → gives c e b ≡ true → (B ≤ b) × (b < B + n)
given_inside B n c e b placed g =
    let (grant, lo, hi) = gives_within c e b g in
    let (low, high) = cover_within B n e (grants_place c e grant) placed in
    (omega arith, omega arith)

-- and has a record, if 1 does not apply either
pub entry_recorded : (s : Store) (e : Entry) → misfit_stored s ≡ false → astray (base s) (blocks s) e ≡ false → EntryRecorded s.ledger e
entry_recorded s e fit placed = recorded_inside s e (cover_first e) (cover_blocks e) fit (entry_inside s e placed)

-- a scan of the records of the blocks that an entry covers
pub scan_covered : (ledger : List ℕ) (k : ℕ) (e : Entry) (q : ℕ → Bool) → CoverRecorded ledger e
    → any (cover_blocks e) (λ i. q (record_word ledger k (record_of ledger (cover_first e) + i))) ≡ some_covered ledger k e q
scan_covered ledger k e q recorded = some_block_records (word ledger base_place) (cover_first e) (cover_blocks e) (λ x. q (record_word ledger k x)) recorded.0

-- m blocks from p on and n blocks from q on
module _ (p m q n : ℕ) where
  -- overlap exactly if they have a block in common
  overlap_at : (b : ℕ) → p ≤ b → b < p + m → q ≤ b → b < q + n → overlap p m q n ≡ true
  overlap_at b lo hi lo' hi' = rw (lt-ltb p (q + n) (omega arith), lt-ltb q (p + m) (omega arith)) refl

  overlap_found : 0 < m → 0 < n → overlap p m q n ≡ true → (b : ℕ) × (p ≤ b) × (b < p + m) × (q ≤ b) × (b < q + n)
  overlap_found some-m some-n o =
      let (under, over) = and_true (ltb p (q + n)) (ltb q (p + m)) o in
      let under = ltb-true p (q + n) under in
      let over = ltb-true q (p + m) over in
      ⊎_elim (λ (l : p < q). (q, omega arith, omega arith, omega arith, omega arith)) (λ (l : q ≤ p). (p, omega arith, omega arith, omega arith, omega arith)) (below_or_above p q)

  overlap_is : 0 < m → 0 < n → some_block p m (among q n) ≡ overlap p m q n
  overlap_is some-m some-n =
      both_ways (some_block p m (among q n)) (overlap p m q n)
      (λ h. let (b, lo, hi, t) = some_block_found p m (among q n) h in let (lo', hi') = among_within q n b t in overlap_at b lo hi lo' hi')
      (λ h. let (b, lo, hi, lo', hi') = overlap_found some-m some-n h in some_block_hit p m (among q n) b lo hi (among_in q n b lo' hi'))

some_block_or : (f m : ℕ) (q r : ℕ → Bool) → some_block f m (λ b. q b || r b) ≡ (some_block f m q || some_block f m r)
unfolding some_block
some_block_or f m q r = any_or m (λ k. q (f + k)) (λ k. r (f + k))

-- create 10, of an entry that writes: some block has another type, or the entry's blocks and the new table's overlap
pub unfit_write_is : (v : Level) (s : Store) (p : ℕ) (e : Entry) → grants writable e ≡ true
    → unfit_write v s p e ≡ (some_block (cover_first e) (cover_blocks e) (λ b. neqb (type_of s b) type_d) || overlap (cover_first e) (cover_blocks e) p (table_blocks v))
unfolding unfit_write
unfit_write_is v s p e g =
    rw g
    (some_block_or (cover_first e) (cover_blocks e) (λ b. neqb (type_of s b) type_d) (λ b. among p (table_blocks v) b)
    ∙ ap (λ (t : Bool). some_block (cover_first e) (cover_blocks e) (λ b. neqb (type_of s b) type_d) || t) (overlap_is (cover_first e) (cover_blocks e) p (table_blocks v) (grants_cover writable e g) (some_blocks v))) where
      some_blocks : (v : Level) → 0 < table_blocks v
      some_blocks l1 = omega arith
      some_blocks l2 = omega arith

-- 10 does not apply: the entry's place is in the region
pub misplaced-astray : (v : Level) (s : Store) (p : ℕ) (e : Entry) → misplaced v s p e ≡ false → astray (base s) (blocks s) e ≡ false
unfolding misplaced
misplaced-astray v s p e none =
    let stray = astray (base s) (blocks s) e in
    or_false_left stray (unfit_link s e) (or_false_left (stray || unfit_link s e) (unfit_write v s p e) none)
