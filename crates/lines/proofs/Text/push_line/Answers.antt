-- `lines::Text::push_line` meets its contract: where the longest line fits, the line is stored; elsewhere nothing is.
use mathlib.Core.Path.{refl}
use native.Mathlib.Omega.{arith}
use Rattle.lines.proofs.Lines.{stored_fitting, stored_none}
use Rattle.lines.proofs.Text.push_line.Goals as goal

pub returns-then-saturating_sub-ge-LONGEST_LINE-clause-added : goal.returns-then-saturating_sub-ge-LONGEST_LINE-clause-added
returns-then-saturating_sub-ge-LONGEST_LINE-clause-added c =
    let a = c.args.self.now in
    stored_fitting a.bytes.now a.end (omega arith) refl c.put_line-self.ensures

pub returns-else-saturating_sub-ge-LONGEST_LINE-clause-added : goal.returns-else-saturating_sub-ge-LONGEST_LINE-clause-added
returns-else-saturating_sub-ge-LONGEST_LINE-clause-added c =
    let a = c.args.self.now in
    stored_none a.bytes.now a.end c.args.line (omega arith)
