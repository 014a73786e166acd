-- The walk goes on only from a link into the region, so the entry of its L2 table lies in the memory.
use native.Mathlib.Omega.{arith}
use Rattle.guest.proofs.Walking.{table_inside}
use Rattle.guest.proofs.walk.Blocks.through_link.Goals as goal

pub overflow_sub-table : goal.overflow_sub-table
overflow_sub-table c = let i = table_inside _ _ _ c.in_ok-check_entry.ensures in omega arith

pub l2_entry_at-e-requires : goal.l2_entry_at-e-requires
l2_entry_at-e-requires c = let i = table_inside _ _ _ c.in_ok-check_entry.ensures in omega arith
