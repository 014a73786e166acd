-- A block of the region has a number that fits a word.
use native.Mathlib.Omega.{arith}
use Rattle.mapping.proofs.Slots.{bounds}
use Rattle.mapping.proofs.slot.TableIndex.holder.Goals as goal

pub overflow_add-result : goal.overflow_add-result
overflow_add-result c = let b = bounds c.args.self.now.in_table in let f = b.fit in omega arith
