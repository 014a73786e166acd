-- Bad is due where bytes are left over.
use native.Mathlib.Omega.{arith}
use borrow.Author.Tests.{lt-ltb, le-ltb}
use Rattle.std.proofs.Common.{rules}
use Rattle.transcript.specs.Sessions.{ending}
use Rattle.transcript.proofs.Batches.{no_bad, a_bad, bad_fits, bad_ends, stored_as, ends_as}
use Rattle.transcript.proofs.close.Goals as goal

pub returns-then-kept-eq0-clause-stored : goal.returns-then-kept-eq0-clause-stored
unfolding ending
returns-then-kept-eq0-clause-stored c = no_bad _ _ _ (le-ltb 0 c.args.kept (omega arith))

pub returns-clause-stored : goal.returns-clause-stored
unfolding ending
returns-clause-stored c =
    let a = c.args in
    stored_as (search rules) (a_bad _ _ _ (lt-ltb 0 a.kept (omega arith)) (bad_fits _ _ _ (omega arith) c.push_line.ensures.added))

pub returns-clause-upper_bound : goal.returns-clause-upper_bound
returns-clause-upper_bound c = ends_as (search rules) (bad_ends _ _ _ (omega arith) (omega arith) c.push_line.ensures.added)
