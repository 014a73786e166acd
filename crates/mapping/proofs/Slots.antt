-- What the tests of a table and an index say of the words.
use mathlib.Core.Bool.{false}
use mathlib.Core.Path.{◌≡◌}
use Prim.Native.Nat.{ℕ, ◌+◌, ◌-◌, ◌*◌, ◌/◌, ◌%◌, ◌<◌, ◌≤◌}
use native.Mathlib.Omega.{arith}
use borrow.Author.Tests.{leb-false}
use Rattle.entries.specs.Entries.{Level}
use Rattle.rules.specs.Store.{block_words, Store, base, blocks}
use Rattle.rules.specs.Tables.{table_blocks, table_entries, word_index, Form, sections, pages, larges, level, mapping_words}
use Rattle.rules.specs.General.{misaligned, holder}
use Rattle.rules.proofs.Edits.{words_in_block}
use Rattle.rules.proofs.State.{Fit, fits_stored, within}
use Rattle.ledger.specs.Needs.{InLedger}
use Rattle.mapping.specs.Needs.{InTable, Slot}

pub record Bounds (v : Level) (s : Store) (p i : ℕ) : Type 0 where
  pub fit : Fit (base s) (blocks s) s
  pub low : base s ≤ p
  pub high : p + table_blocks v ≤ base s + blocks s
  pub small : i < block_words * table_blocks v
  pub holder_in : i / block_words < table_blocks v

pub bounds : {v : Level} {s : Store} {p i : ℕ} → InTable v s p i → Bounds v s p i
bounds {v} {s} {p} {i} t =
    let (lo, hi) = within (base s) (blocks s) p (table_blocks v) t.inside in
    let l = leb-false (table_entries v) i t.in_table in
    record { fit = fits_stored s t.fits; low = lo; high = hi; small = l; holder_in = omega arith }

-- words that lie in one block
pub slot : {v : Level} {s : Store} {p i : ℕ} (m : ℕ) → 0 < m → i % block_words + m ≤ block_words → InTable v s p i → Slot s p i m
slot m some whole t = let b = bounds t in let f = b.fit in record { fits = t.fits; low = b.low; positive = some; holds = omega arith }

some_words : (f : Form) → 0 < mapping_words f
some_words sections = omega arith
some_words pages = omega arith
some_words larges = omega arith

-- the words of a mapping, whose number divides the index of the first
pub mapping_slot : (f : Form) {s : Store} {p i : ℕ} → misaligned i (mapping_words f) ≡ false → InTable (level f) s p i → Slot s p i (mapping_words f)
mapping_slot f {i = i} aligned t = slot (mapping_words f) (some_words f) (words_in_block f i aligned) t

-- the holder of the first word has a record, and the number of the word gives its number
pub slot_record : {s : Store} {p i m : ℕ} → Slot s p i m → (word_index s p i / block_words ≡ holder p i - base s) × InLedger s.ledger (holder p i - base s + 1)
slot_record {s} sl = let f = fits_stored s sl.fits in let low = sl.low in (omega arith, omega arith)
