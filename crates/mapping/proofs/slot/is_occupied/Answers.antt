use mathlib.Core.Bool.{Bool, not}
use mathlib.Core.Path.{◌≡◌, ◌∙◌, ap}
use Prim.Native.Nat.{ℕ, ◌+◌, ◌-◌, ◌*◌}
use native.Mathlib.Nat.{add_assoc}
use native.Mathlib.Omega.{arith}
use Rattle.words.proofs.Bounded.{scan_start, scan_next, scan_found, scan_end}
use Rattle.entries.specs.Entries.{Level, entry_at, is_fault}
use Rattle.rules.specs.Store.{Store, base, block_words}
use Rattle.rules.specs.Tables.{table_entry}
use Rattle.rules.proofs.State.{fits_stored}
use Rattle.mapping.proofs.slot.is_occupied.Goals as goal

-- the entry that is looked at
looked_at : (v : Level) (s : Store) (p i k : ℕ) {j : ℕ} {t : Bool} → j ≡ block_words * (p - base s) + i → t ≡ is_fault (entry_at v s.memory (j + k)) → t ≡ is_fault (table_entry v s p (i + k))
looked_at v s p i k at is = is ∙ ap (λ (x : ℕ). is_fault (entry_at v s.memory x)) (ap (λ (x : ℕ). x + k) at ∙ add_assoc (block_words * (p - base s)) i k)

pub word_index-j-requires : goal.word_index-j-requires
word_index-j-requires c = let sl = c.requires in let f = fits_stored _ sl.fits in (omega arith, sl.low, omega arith)

pub loop-k-init : goal.loop-k-init
loop-k-init c = λ v. scan_start _ _

pub returns-then-not-is_fault_at : goal.returns-then-not-is_fault_at
returns-then-not-is_fault_at c = λ v.
    let fault_is = looked_at v _ c.args.window.block c.args.window.index c.loop-k.k c.word_index-j.ensures (c.is_fault_at.ensures v) in
    scan_found _ _ c.loop-k.k (omega arith) (ap not (rw fault_is at c.if-not-is_fault_at.true))

pub loop-k-preserved : goal.loop-k-preserved
loop-k-preserved c = λ v.
    let at = c.loop-k in
    let fault_is = looked_at v _ c.args.window.block c.args.window.index at.k c.word_index-j.ensures (c.is_fault_at.ensures v) in
    scan_next _ _ _ (at.invariant v) (omega arith) (ap not (rw fault_is at c.if-not-is_fault_at.false))

pub returns : goal.returns
returns c = λ v. scan_end _ _ _ (c.loop-k.invariant v) (omega arith)
