-- A walk that stopped has its number and level; at the end of another the right decides.
use Rattle.guest.specs.Meaning.{count_of}
use Rattle.guest.proofs.Walking.{InRegion, walk_in_region}
use Rattle.guest.proofs.access.locate.Goals as goal

pub overflow_sub-result : goal.overflow_sub-result
unfolding InRegion
overflow_sub-result c =
    let b = c.args.blocks.now in
    (rw (← c.in_ok-end.ensures) at (walk_in_region b.first (count_of b) c.args.address b.memory.now c.args.table)).0
