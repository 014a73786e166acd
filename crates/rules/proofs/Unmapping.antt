-- Unmap runs on: a window of a table's entries is removed, from a block that cannot be executed.
use mathlib.Core.Bool.{Bool, false, not, ◌||◌}
use mathlib.Core.Path.{◌≡◌, refl}
use Prim.Native.Nat.{ℕ, ◌+◌}
use native.Mathlib.Omega.{arith}
use borrow.Author.Tests.{not-false}
use Rattle.words.specs.Bounded.{any}
use Rattle.words.proofs.Bounded.{or_left, any_none}
use Rattle.entries.specs.Entries.{Entry, fault, l1, l2, is_fault, is_link, is_section, is_page}
use Rattle.entries.proofs.Covers.{page_alone}
use Rattle.entries.specs.Written.{kindless}
use Rattle.entries.proofs.RoundTrip.{singly, a_fault}
use Rattle.rules.specs.Store.{Store}
use Rattle.rules.specs.Tables.{Form, sections, pages, larges, level, mapping_words, takes, word_index, table_entry}
use Rattle.rules.specs.General.{misaligned, removed, end_value, some_overrun}
use Rattle.rules.specs.Unmap.{unmap_refusals, unmap_after, unmap_outcome}
use Rattle.rules.specs.Steps.{unmaps, Told, after_accepted}
use Rattle.rules.specs.Outcomes.{leaving}
use Rattle.rules.specs.Box.{grants_write}
use Rattle.rules.proofs.Refusals.{Passed, front, now, rest}
use Rattle.rules.proofs.State.{Running, Goes, Next, next_13}
use Rattle.rules.proofs.Edits.{Apart, as_run, as_singles, slot, words_in_block, edits}
use Rattle.rules.proofs.Changes.{removes}
use Rattle.rules.proofs.Mapping.{word_aligned}

-- what an unmap takes is an aligned run, or stands by itself, and so do the faults in its place
taken_apart : (f : Form) (s : Store) (p i : ℕ) → misaligned i (mapping_words f) ≡ false → any (mapping_words f) (λ k. not (takes f (table_entry (level f) s p (i + k)))) ≡ false
    → Apart (word_index s p i) (mapping_words f) (λ k. table_entry (level f) s p (i + k)) (λ k. fault)
unfolding takes is_fault
taken_apart sections s p i aligned t =
    let e : ℕ → Entry = λ k. table_entry l1 s p (i + k) in
    let taken : ℕ → Bool = λ k. is_fault (e k) || is_section (e k) || is_link (e k) in
    as_singles (λ k l. (or_left (taken k) (is_page (e k)) (not-false (taken k) (any_none (λ k. not (taken k)) 1 t k l)), refl))
taken_apart pages s p i aligned t =
    let e : ℕ → Entry = λ k. table_entry l2 s p (i + k) in
    let taken : ℕ → Bool = λ k. is_fault (e k) || is_page (e k) in
    as_singles (λ k l. (page_alone (e k) (not-false (taken k) (any_none (λ k. not (taken k)) 1 t k l)), refl))
taken_apart larges s p i aligned t = as_run (word_aligned larges s p i aligned) refl

module _ (f : Form) (p i : ℕ) {h : Told} {s : Store} (r : Running h s) where
  entry : ℕ → Entry
  entry k = table_entry (level f) s p (i + k)

  unmapped : Passed (front (unmap_refusals f s p i)) → (some_overrun removed s (mapping_words f) entry ≡ false) × Goes (grants_write s (unmaps f p i)) h s (unmap_after f s p i)
  unfolding entry end_value grants_write
  unmapped t1 =
      let t2 = rest t1 in
      let t3 = rest (rest t2) in
      let t4 = rest t3 in
      let t5 = rest t4 in
      let t7 = rest t5 in
      let v = level f in
      let m = mapping_words f in
      let sl = slot r v p i m (words_in_block f i (now t3)) (now t2) (now t4) (now t5) (now t7) in
      removes r (edits r v p i m sl kindless removed entry (singly (λ k l. a_fault)) (λ k l. refl) (taken_apart f s p i (now t3) (now (rest t7))) (omega (arith, sl.unexecuted)))

  pub unmap_next : Next h s (unmaps f p i) (unmap_outcome f s p i)
  unfolding unmap_outcome after_accepted entry
  unmap_next = next_13 (unmaps f p i) (leaving (unmap_after f s p i)) (unmap_refusals f s p i) r (omega arith) (omega arith) (omega arith) unmapped
