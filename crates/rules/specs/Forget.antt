-- Forget: marks are cleared (RULES: forget, refusal).
use Rattle.std.specs.Prelude.{Bool, ◌&&◌, List, [], ◌∷◌, ℕ, ◌-◌}
use Rattle.words.specs.Bounded.{above}
use Rattle.rules.specs.Refusals.{Refusal, ◌if◌}
use Rattle.rules.specs.Store.{Store, blocks, base, clear_marks, outside, misfit_stored}
use Rattle.rules.specs.Outcomes.{Outcome, leaving, call_outcome}

-- forget 2: there are blocks, and one of them lies outside the region
unfoldable pub stray_blocks : Store → ℕ → ℕ → Bool
stray_blocks s p m = above m 0 && outside (base s) (blocks s) p m

-- forget list: 1 and 2
abbrev pub forget_refusals : Store → ℕ → ℕ → List Refusal
forget_refusals s p m =
    1 if misfit_stored s
    ∷ 2 if stray_blocks s p m
    ∷ []

-- forget leaves: the marks of the m blocks from p on are 0; the memory as it was
abbrev pub forget_after : Store → ℕ → ℕ → Store
forget_after s p m = record { memory = s.memory; ledger = clear_marks s.ledger (p - base s) m }

-- forget list, forget leaves: what forget answers and leaves
unfoldable pub forget_outcome : Store → ℕ → ℕ → Outcome
forget_outcome s p m = call_outcome (forget_refusals s p m) s (leaving (forget_after s p m))
