-- The counters change, then the holder's mark, and then the words of the memory.
use native.Mathlib.Omega.{arith}
use Rattle.rules.proofs.State.{fits_stored}
use Rattle.mapping.proofs.Slots.{slot_record}
use Rattle.mapping.proofs.slot.write_entries.Goals as goal

pub word_index-j-requires : goal.word_index-j-requires
word_index-j-requires c = let sl = c.requires.slot in let f = fits_stored _ sl.fits in (omega arith, sl.low, omega arith)

pub clear_mark-requires : goal.clear_mark-requires
clear_mark-requires c = let (is, inside) = slot_record c.requires.slot in omega (arith, is, inside, c.word_index-j.ensures)
