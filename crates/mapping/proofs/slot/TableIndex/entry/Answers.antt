-- The word read is that of the index.
use native.Mathlib.Omega.{arith}
use Rattle.mapping.proofs.Slots.{bounds}
use Rattle.mapping.proofs.slot.TableIndex.entry.Goals as goal

pub word_index-j-requires : goal.word_index-j-requires
word_index-j-requires c = let b = bounds c.args.self.now.in_table in let f = b.fit in (omega arith, omega arith, omega arith)

pub entry_at-requires : goal.entry_at-requires
entry_at-requires c = let b = bounds c.args.self.now.in_table in let f = b.fit in rw c.word_index-j.ensures (omega arith)
