-- Where every block of the set is marked, marking them would change nothing.
use mathlib.Core.Path.{sym, ◌∙◌}
use native.Mathlib.Omega.{arith}
use Rattle.words.proofs.Words.{Bytes}
use Rattle.validation.proofs.Clashes.{mark_idle}
use Rattle.validation.proofs.executed.admit_members.Goals as goal

pub returns-else-hashed-ne0 : goal.returns-else-hashed-ne0
returns-else-hashed-ne0 c =
    let start = c in
    let bytes : Bytes start.args.ledger.now = λ i. omega (arith, c.slice_known-1.given i) in
    mark_idle _ _ bytes _ (sym c.if-hashed-ne0.false ∙ start.requires.hashed_value)
