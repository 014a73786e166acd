-- What a function owes that adds to a text (RULES: program).
use Rattle.std.specs.Prelude.{List, ℕ}
use Rattle.lines.specs.declared.Text.{Text}
use Rattle.lines.specs.Stored.{Stored}

-- program 4, program 5: ys are stored behind a text, which then ends behind them
abbrev pub Added : Text → Text → List ℕ → Type 0
Added before after ys = Stored before.bytes.now before.end ys after.bytes.now after.end
