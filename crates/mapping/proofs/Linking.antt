-- What the tests of a link say: it takes one word, and counts on the one block that its table is in.
use mathlib.Core.List.{List, ◌∷◌, ◌++◌}
use mathlib.Core.Path.{◌≡◌}
use Prim.Native.Nat.{ℕ, ◌+◌, ◌*◌, ◌/◌, ◌<◌}
use native.Mathlib.Omega.{arith}
use lib.Dec.{leb}
use borrow.Author.Tests.{leb-false}
use Rattle.words.specs.Bounded.{sum}
use Rattle.entries.specs.Entries.{l1, place_first, place_blocks, cover_first, cover_blocks, covers, block_tables}
use Rattle.entries.specs.Needs.{IsTablePlace}
use Rattle.rules.specs.Refusals.{Refusal, ◌if◌, answer_of}
use Rattle.rules.specs.Store.{Store, base, blocks, Counter, misfit_stored}
use Rattle.rules.specs.Tables.{table_blocks, gives, gain}
use Rattle.rules.specs.General.{table_outside, misaligned, beyond_table, occupied, added}
use Rattle.rules.specs.Link.{link_to, link_refusals}
use Rattle.rules.proofs.Refusals.{Passed, passed, now, rest}
use Rattle.rules.proofs.State.{fits_stored, within}
use Rattle.ledger.specs.Counters.{Spreads}
use Rattle.ledger.specs.Needs.{GrantsInside, Countable}
use Rattle.ledger.proofs.Counting.{countable}
use Rattle.ledger.proofs.Judge.{Decides, decides}
use Rattle.mapping.specs.Pieces.{holder_refusals, link_target_refusals}
use Rattle.mapping.specs.Needs.{Slot}
use Rattle.mapping.proofs.Slots.{slot}

-- a link gives its target what it grants
pub link_spreads : (t j : ℕ) → j < block_tables → Spreads 1 (λ k. link_to t j) (link_to t j) t 1
unfolding gain sum gives covers cover_first cover_blocks place_first place_blocks
link_spreads t j h = let is : (block_tables * t + j) / block_tables ≡ t = omega arith in record { gains = λ c q. rw is (omega arith) }

module _ (s : Store) (p i t j : ℕ) where
  -- the list by its pieces
  abbrev pub pieces : List Refusal
  pieces =
      1 if misfit_stored s ∷ 2 if table_outside l1 s p ∷ 3 if misaligned p (table_blocks l1) ∷ 4 if beyond_table l1 i ∷ 4 if leb block_tables j
      ∷ (holder_refusals l1 s p i ++ (8 if occupied l1 s p i 1 ∷ link_target_refusals s t j))

  pub link_judged : {a : ℕ} → Decides pieces a → a ≡ answer_of (link_refusals s p i t j)
  link_judged d = decides d

  module _ (accepted : answer_of (link_refusals s p i t j) ≡ 0) where
    all_passed : Passed (link_refusals s p i t j)
    all_passed = passed (link_refusals s p i t j) (omega arith) accepted

    pub link_table : j < block_tables
    link_table = leb-false block_tables j (now (rest (rest (rest (rest all_passed)))))

    from10 : Passed (link_target_refusals s t j)
    from10 = rest (rest (rest (rest (rest (rest (rest (rest all_passed)))))))

    pub link_place : IsTablePlace (block_tables * t + j)
    link_place = let fit = fits_stored s (now all_passed) in let (lo, hi) = within (base s) (blocks s) t 1 (now from10) in omega (arith, link_table)

    pub link_ready : Slot s p i 1 × (GrantsInside s.memory s.ledger (link_to t j) t 1 × ((c : Counter) → Countable added s.ledger c (link_to t j) t 1))
    link_ready =
        let t1 = now all_passed in
        let t4 = rest (rest (rest all_passed)) in (
          slot {v = l1} 1 (omega arith) (omega arith) (record { fits = t1; inside = now (rest all_passed); in_table = now t4 }),
          ((λ c g. now from10), countable added s (link_to t j) t 1 (link_spreads t j link_table) t1 (λ c g. now from10) (now (rest (rest from10)))),
        )
