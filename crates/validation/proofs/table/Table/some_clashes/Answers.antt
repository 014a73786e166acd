-- Where no entry writes, none writes a block of the set.
use mathlib.Core.Path.{refl, sym, ◌∙◌}
use Rattle.words.proofs.Bounded.{any_none, any_avoids}
use Rattle.validation.specs.Sets.{meets_members}
use Rattle.validation.proofs.table.Table.some_clashes.Goals as goal

pub returns-else-writes : goal.returns-else-writes
unfolding meets_members
returns-else-writes c =
    let start = c in
    let none = start.requires.silent c.if-writes.false in
    c.if-writes.false ∙ sym (any_avoids _ start.args.self.now.entries (λ i l. rw (any_none _ start.args.self.now.entries none i l) refl))
