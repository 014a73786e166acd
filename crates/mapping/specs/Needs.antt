-- What functions require and promise of each other: where the words of a mapping stand, and on which blocks it counts (RULES: refusal, unmap).
use Rattle.std.specs.Prelude.{true, false, not, ◌≡◌, ℕ, ◌+◌, ◌*◌, ◌≤◌, ◌<◌, length}
use Rattle.words.specs.Bounded.{any}
use Rattle.entries.specs.Entries.{Entry, Level, place_first, place_blocks}
use Rattle.rules.specs.Store.{Store, base, blocks, misfit_stored, outside}
use Rattle.rules.specs.Tables.{Form, mapping_words, takes, word_index, astray}
use Rattle.rules.specs.General.{table_outside, beyond_table}
use Rattle.ledger.specs.Counters.{Spreads}

-- r is v, above 0 and below m
pub record Positive (v m r : ℕ) : Type 0 where
  pub is : r ≡ v
  pub positive : 0 < r
  pub below : r < m

-- refusal 1, refusal 2, refusal 4: none of these applies to index i of a table at block p
pub record InTable (v : Level) (s : Store) (p i : ℕ) : Type 0 where
  pub fits : misfit_stored s ≡ false
  pub inside : table_outside v s p ≡ false
  pub in_table : beyond_table v i ≡ false

-- calls 1, refusal 1: 1 does not apply, and the memory has the m words from index i of the table at block p on, at least one
pub record Slot (s : Store) (p i m : ℕ) : Type 0 where
  pub fits : misfit_stored s ≡ false
  pub low : base s ≤ p
  pub positive : 0 < m
  pub holds : 4 * (word_index s p i + m) ≤ length s.memory

-- refusal 1, map 10: 1 does not apply, and the m blocks from t on lie in the region
pub record InRegion (s : Store) (t m : ℕ) : Type 0 where
  pub fits : misfit_stored s ≡ false
  pub inside : outside (base s) (blocks s) t m ≡ false

-- unmap 8, unmap 10, refusal 13: of the words that a mapping of the form takes, with the entries x, the first entry e speaks for all
pub record SpeaksFor (f : Form) (e : Entry) (x : ℕ → Entry) : Type 0 where
  pub taken : any (mapping_words f) (λ k. not (takes f (x k))) ≡ not (takes f e)
  pub placed : takes f e ≡ true → (B n : ℕ) → any (mapping_words f) (λ k. astray B n (x k)) ≡ astray B n e
  pub spreads : takes f e ≡ true → Spreads (mapping_words f) x e (place_first e) (place_blocks e)
