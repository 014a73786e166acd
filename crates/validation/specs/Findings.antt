-- What one look at a table finds: the greatest of what is found of its entries (RULES: create, free).
use Rattle.std.specs.Prelude.{Bool, false, cond, ℕ, ltb}
use Rattle.words.specs.Bounded.{any}
use Rattle.entries.specs.Entries.{Entry, Level, is_unaccepted}
use Rattle.rules.specs.Create.{misplaced}
use Rattle.rules.specs.Store.{Store, executable}
use Rattle.rules.specs.Tables.{grants, astray}
use Rattle.validation.specs.Tests.{unfit, meets_count}
use Rattle.validation.specs.declared.finding.Finding as found
use Rattle.validation.specs.declared.finding.Finding.TheVariants.{Fine, Executes, MeetsCount, Misplaced, Unaccepted}

-- create 8, create 10, create 11, free 8, free 10: the number that stands for a finding
abbrev pub finding_of : found.Finding → ℕ
finding_of Fine = 0
finding_of Executes = 1
finding_of MeetsCount = 2
finding_of Misplaced = 3
finding_of Unaccepted = 4

-- the greater of two numbers
abbrev pub greater : ℕ → ℕ → ℕ
greater x y = cond (ltb x y) y x

-- create 8, create 10, create 11, free 8, free 10: 4 for 8, 3 for 10, 2 for 11 by a count of the ledger;
-- 1 for something that executes, on which 11 and 12 are still to be judged; else 0
unfoldable pub finding : Bool → Bool → Bool → Bool → ℕ
finding is_bad isMisplaced meets executes = cond is_bad 4 (cond isMisplaced 3 (cond meets 2 (cond executes 1 0)))

-- create 8, create 10, create 11: the finding for one entry of a table that is created at block p
abbrev pub entry_finding : Level → Store → ℕ → Entry → ℕ
entry_finding v s p e = finding (is_unaccepted e) (misplaced v s p e) (meets_count s.ledger e) (grants executable e)

-- create 10, create 11: the finding for an accepted entry with its place in the region, in a table that is created at block p
abbrev pub target_finding : Level → Store → ℕ → Entry → ℕ
target_finding v s p e = finding false (unfit v s p e) (meets_count s.ledger e) (grants executable e)

-- create 8, create 10, create 11: the finding for the m entries e of a table that is created at block p
abbrev pub new_finding : Level → Store → ℕ → ℕ → (ℕ → Entry) → ℕ
new_finding v s p m e =
    finding (any m (λ i. is_unaccepted (e i))) (any m (λ i. misplaced v s p (e i))) (any m (λ i. meets_count s.ledger (e i))) (any m (λ i. grants executable (e i)))

-- free 8, free 10: the finding for one entry of a table that is freed, in a region of n blocks from B on
abbrev pub place_finding : ℕ → ℕ → Entry → ℕ
place_finding B n e = finding (is_unaccepted e) (astray B n e) false false

-- free 8, free 10: the finding for the m entries e of a table that is freed, in a region of n blocks from B on
abbrev pub old_finding : ℕ → ℕ → ℕ → (ℕ → Entry) → ℕ
old_finding B n m e = finding (any m (λ i. is_unaccepted (e i))) (any m (λ i. astray B n (e i))) false false
