-- On any store, no step but a begin writes the memory kinds (lists 15).
use mathlib.Core.Bool.{Bool}
use mathlib.Core.List.{List}
use mathlib.Core.Logic.{◌≢◌, inl}
use mathlib.Core.Path.{◌≡◌, refl, ◌∙◌}
use Prim.Native.Nat.{ℕ, zero, suc, ◌-◌}
use native.Mathlib.Omega.{arith}
use Rattle.entries.specs.Entries.{Entry, Level}
use Rattle.rules.specs.Store.{Store, base, active_place, kinds_of, clear_mark, mark_blocks}
use Rattle.rules.specs.Outcomes.{Accepted, settle}
use Rattle.rules.specs.Tables.{table_blocks, table_entries, table_entry}
use Rattle.rules.specs.General.{Change, added, removed, type_after, recounted, retyped}
use Rattle.rules.specs.Guest.{Access, reads, writes, fetches, unmarked, guest_outcome}
use Rattle.rules.specs.Registers.{acknowledge_outcome}
use Rattle.rules.specs.Create.{create_outcome}
use Rattle.rules.specs.Free.{free_outcome}
use Rattle.rules.specs.Map.{map_outcome}
use Rattle.rules.specs.Link.{link_outcome}
use Rattle.rules.specs.Unmap.{unmap_outcome}
use Rattle.rules.specs.Switch.{switch_outcome}
use Rattle.rules.specs.Forget.{forget_outcome}
use Rattle.rules.specs.Steps.{Step, begins, creates, frees, maps, links, unmaps, switches, accesses, acknowledges, forgets, obey}
use Rattle.rules.proofs.Ledger.{kinds_put_word, kinds_retype, marks_clear, marks_clear_all, marks_set}
use Rattle.rules.proofs.Changes.{kinds_recounted}

module _ (s : Store) where
  abbrev Kept : List ℕ → Type 0
  Kept ledger = kinds_of ledger ≡ kinds_of s.ledger

  -- a call keeps them if acceptance does
  settled : (k : ℕ) (new : Accepted) → Kept new.store.ledger → Kept (settle k s new).after.ledger
  unfolding settle
  settled zero new kept = kept
  settled (suc k) new kept = refl

  retyped_keeps : (d : Change) (v : Level) (p : ℕ) → Kept (retyped d v s p).ledger
  retyped_keeps d v p = kinds_retype _ (p - base s) (table_blocks v) (type_after d v) ∙ kinds_recounted d s (table_entries v) (table_entry v s p)

  cleared_keeps : (d : Change) (m : ℕ) (e : ℕ → Entry) (b : ℕ) → Kept (clear_mark (recounted d s m e) b)
  cleared_keeps d m e b = (marks_clear _ b).kinds_are ∙ kinds_recounted d s m e

  marked_keeps : (ledger : List ℕ) (n : ℕ) (q : ℕ → Bool) → Kept ledger → Kept (mark_blocks ledger n q)
  marked_keeps ledger n q kept = (marks_set ledger q n).kinds_are ∙ kept

  access_keeps : (a : Access) (j : ℕ) → Kept (unmarked a s.ledger j)
  unfolding unmarked
  access_keeps reads j = refl
  access_keeps fetches j = refl
  access_keeps (writes v) j = (marks_clear s.ledger _).kinds_are

  pub kinds_stay : (golden : List ℕ) (step : Step) → ((kinds : List ℕ) (B : ℕ) → step ≢ begins kinds B) → Kept (obey golden s step).after.ledger
  unfolding obey create_outcome free_outcome map_outcome link_outcome unmap_outcome switch_outcome guest_outcome acknowledge_outcome forget_outcome
  kinds_stay golden (begins kinds B) other = absurd (other kinds B refl)
  kinds_stay golden (creates v p) other = settled _ _ (marked_keeps _ _ _ (retyped_keeps added v p))
  kinds_stay golden (frees v p) other = settled _ _ (retyped_keeps removed v p)
  kinds_stay golden (maps f p i t r k) other = settled _ _ (marked_keeps _ _ _ (cleared_keeps added _ _ _))
  kinds_stay golden (links p i t j) other = settled _ _ (cleared_keeps added _ _ _)
  kinds_stay golden (unmaps f p i) other = settled _ _ (cleared_keeps removed _ _ _)
  kinds_stay golden (switches p) other = settled _ _ (kinds_put_word s.ledger active_place p (inl (omega arith)))
  kinds_stay golden (accesses a registers addr) other = settled _ _ (access_keeps a _)
  kinds_stay golden (acknowledges registers) other = settled _ _ refl
  kinds_stay golden (forgets p m) other = settled _ _ (marks_clear_all s.ledger (p - base s) m).kinds_are
