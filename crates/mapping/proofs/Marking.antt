-- The marks that map sets when it has changed tables and counters are those of the rules: the region is as it was.
use mathlib.Core.Bool.{false}
use mathlib.Core.List.{List}
use mathlib.Core.Path.{◌≡◌, ◌∙◌, ap}
use Prim.Native.Nat.{ℕ, ◌+◌}
use native.Mathlib.Omega.{arith}
use lib.ListN.{length}
use Rattle.words.specs.Words.{word}
use Rattle.entries.specs.Entries.{Entry}
use Rattle.rules.specs.Store.{base_place, Store, lent, base, blocks, kinds_of, clear_mark, mark_blocks, fill, misfit, misfit_stored}
use Rattle.rules.specs.Tables.{executed}
use Rattle.rules.specs.General.{Change, recounted}
use Rattle.rules.proofs.Changes.{length-recounted, head_recounted, kinds_recounted}
use Rattle.rules.proofs.Ledger.{marks_clear}
use Rattle.rules.proofs.Memory.{length-fill}
use Rattle.ledger.specs.Needs.{GrantsInside}

-- a store of the same region: the lengths and B are the same
pub record SameRegion (s after : Store) : Type 0 where
  pub memory_length : length after.memory ≡ length s.memory
  pub ledger_length : length after.ledger ≡ length s.ledger
  pub base_is : base after ≡ base s
  pub kinds_are : kinds_of after.ledger ≡ kinds_of s.ledger

-- so is one in which words were stored, counters changed, and a mark cleared
pub edited_region : (d : Change) (s : Store) (j m l b : ℕ) (w : ℕ → ℕ) (x : ℕ → Entry) {memory ledger : List ℕ}
    → memory ≡ fill s.memory j m w → ledger ≡ clear_mark (recounted d s l x) b → SameRegion s (lent memory ledger)
edited_region d s j m l b w x words counters =
    let o = marks_clear (recounted d s l x) b in
    record {
      memory_length = ap length words ∙ length-fill s.memory j w m;
      ledger_length = ap length counters ∙ o.length_is ∙ length-recounted d s l x;
      base_is = ap (λ (led : List ℕ). word led base_place) counters ∙ o.head_is base_place (omega arith) ∙ head_recounted d s l x base_place (omega arith);
      kinds_are = ap kinds_of counters ∙ o.kinds_are ∙ kinds_recounted d s l x;
    }

module _ {s after : Store} (same : SameRegion s after) where
  pub region_fits : misfit_stored s ≡ false → misfit_stored after ≡ false
  unfolding misfit misfit_stored
  region_fits t1 = rw (same.memory_length, same.ledger_length, same.base_is, same.kinds_are) t1

  pub region_grants : (e : Entry) (p m : ℕ) → GrantsInside s.memory s.ledger e p m → GrantsInside after.memory after.ledger e p m
  region_grants e p m inside c g = rw (same.memory_length, same.base_is) (inside c g)

  pub region_marks : (n : ℕ) (x : ℕ → Entry) {led : List ℕ} → led ≡ mark_blocks after.ledger (blocks after) (λ b. executed n x (base after + b))
      → led ≡ mark_blocks after.ledger (blocks s) (λ b. executed n x (base s + b))
  region_marks n x marks = rw (same.memory_length, same.base_is) at marks
