-- The last step of a create: the marks of what the new table executes, in the ledger that has its types and counts already.
use mathlib.Core.List.{List}
use mathlib.Core.Path.{◌≡◌, refl, ◌∙◌}
use Prim.Native.Nat.{ℕ, ◌+◌, ◌-◌}
use native.Mathlib.Omega.{arith}
use Rattle.words.specs.Bounded.{count}
use Rattle.words.proofs.Sums.{sum_same}
use Rattle.entries.specs.Entries.{Level}
use Rattle.rules.specs.Store.{Store, blocks, base, record_word, mark_word, mark_blocks}
use Rattle.rules.specs.Tables.{table_blocks, table_entries, table_entry}
use Rattle.rules.specs.General.{added, retyped, recounted, type_after, hashed_blocks}
use Rattle.rules.specs.Create.{create_accepted}
use Rattle.rules.proofs.Ledger.{mark_retype}
use Rattle.rules.proofs.Changes.{mark_recounted}
use Rattle.ledger.proofs.Marking.{mark_same}
use Rattle.validation.specs.Sets.{member, member_hashed, Admitted}

module _ (v : Level) (s : Store) (p : ℕ) (members : List ℕ) {k : ℕ} (ready : Admitted s (table_entries v) (table_entry v s p) members k) where
  -- where the marks are the same, so is the number of blocks that are not marked
  pub hashed_as_before : (led : List ℕ) → ((b : ℕ) → record_word led mark_word b ≡ record_word s.ledger mark_word b) → k ≡ count (blocks s) (member_hashed led members)
  unfolding hashed_blocks member_hashed
  hashed_as_before led same =
      ready.counted ∙ sum_same _ _ (blocks s) (λ b l.
      let is : base s + b - base s ≡ b = omega arith in
      rw (ready.gathered b l, same b, is) refl)

  module _ {led : List ℕ} (typed : led ≡ (retyped added v s p).ledger) where
    -- types and counts leave the marks
    pub still_hashed : k ≡ count (blocks s) (member_hashed led members)
    still_hashed = hashed_as_before led (λ b.
        let e = table_entry v s p in
        rw typed (mark_retype (recounted added s (table_entries v) e) (p - base s) (table_blocks v) (type_after added v) b ∙ mark_recounted added s (table_entries v) e b))

    pub admitted_ledger : {after : List ℕ} → after ≡ mark_blocks led (blocks s) (member members) → after ≡ (create_accepted v s p).store.ledger
    admitted_ledger h = h ∙ mark_same led (blocks s) _ _ ready.gathered ∙ rw typed refl
