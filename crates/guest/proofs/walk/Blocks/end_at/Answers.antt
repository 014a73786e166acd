-- A walk goes on only from an entry whose place is in the region, so its place has blocks, with numbers that fit a word.
use Prim.Native.Nat.{◌/◌, ◌<◌}
use native.Mathlib.Nat.{mod-lt}
use native.Mathlib.Omega.{arith}
use Rattle.rules.specs.Store.{block_bytes}
use Rattle.guest.proofs.Walking.{goes_on_inside}
use Rattle.guest.proofs.walk.Blocks.end_at.Goals as goal

pub nonzero_rem-result : goal.nonzero_rem-result
nonzero_rem-result c = let i = goes_on_inside _ _ _ _ c.in_ok-check_entry.ensures in omega arith

pub overflow_add-result : goal.overflow_add-result
overflow_add-result c =
    let i = goes_on_inside _ _ _ _ c.in_ok-check_entry.ensures in
    let some : 0 < c.cover_blocks.result = omega arith in
    let physical = c.args.self.now.physical in omega (arith, mod-lt (c.args.address / block_bytes) some)
