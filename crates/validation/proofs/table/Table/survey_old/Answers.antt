-- The region is the one in which the entries' places lie.
use native.Mathlib.Omega.{arith}
use Rattle.validation.proofs.table.Table.survey_old.Goals as goal

pub survey_old-requires : goal.survey_old-requires
survey_old-requires c = (c.args.self.now.holds_words, omega (arith, c.blocks-n.ensures.bound))

pub returns : goal.returns
returns c = rw (c.base-first.ensures, c.blocks-n.ensures.value) at c.survey_old.ensures
