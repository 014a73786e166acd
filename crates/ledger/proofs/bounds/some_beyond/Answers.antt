use Rattle.std.proofs.Common.{rules, tests}
use Rattle.ledger.proofs.bounds.some_beyond.Goals as goal

pub returns : goal.returns
returns c = c.some_below.ensures _ (λ i b l k. search (rules, tests))
