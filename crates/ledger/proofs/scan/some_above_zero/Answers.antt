-- A number is above 0 exactly if it differs from 0.
use mathlib.Core.Path.{sym, ◌∙◌}
use Prim.Native.Nat.{◌+◌}
use Rattle.words.proofs.Bounded.{any_same, above_zero}
use Rattle.rules.specs.Store.{record_word}
use Rattle.ledger.specs.Layout.{field_word}
use Rattle.ledger.proofs.scan.some_above_zero.Goals as goal

pub returns : goal.returns
returns c =
    let a = c.args in
    c.some_differs.ensures ∙ any_same _ _ a.m (λ i l. sym (above_zero (record_word a.ledger.now (field_word a.field) (a.b + i))))
