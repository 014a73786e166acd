-- An entry gives what it grants to the blocks that it covers.
use Rattle.rules.specs.Store.{lent}
use Rattle.ledger.proofs.Counting.{entry_spreads, entry_inside}
use Rattle.ledger.proofs.counters.change_entry.Goals as goal

pub change_blocks-requires : goal.change_blocks-requires
change_blocks-requires c =
    let start = c.before.before.before.before.before in
    let a = start.args in
    rw (c.cover_first.ensures, c.cover_blocks.ensures)
    (record { fits = (start.requires.fits, entry_inside (lent a.memory.now a.ledger.now) _ start.requires.e_value); countable = start.requires.countable })

pub returns : goal.returns
returns c =
    (rw (c.cover_first.ensures, c.cover_blocks.ensures) at c.change_blocks.ensures)
    1 _ (entry_spreads _)
