-- Each counter is changed if the entry grants it, and the other two are not touched.
use native.Mathlib.Omega.{arith}
use Rattle.ledger.proofs.Counting.{recorded_inside, second_ready, third_ready, all_changed}
use Rattle.ledger.proofs.counters.change_blocks.Goals as goal

pub change_counter-requires : goal.change_counter-requires
change_counter-requires c =
    let start = c.before.before.before in
    (recorded_inside _ _ _ _ start.requires.fits.0 start.requires.fits.1, start.requires.countable _)

pub change_counter-requires-2 : goal.change_counter-requires-2
change_counter-requires-2 c =
    let start = c.before.before.before.before.before.before.before in
    second_ready _ _ _ _ _ start.requires.fits.0 start.requires.fits.1 (λ i. omega (arith, c.slice_known-1.given i)) start.requires.countable c.change_counter.ensures

pub change_counter-requires-3 : goal.change_counter-requires-3
change_counter-requires-3 c =
    let start = c.before.before.before.before.before.before.before.before.before.before.before in
    third_ready _ _ _ _ _ start.requires.fits.0 start.requires.fits.1 (λ i. omega (arith, c.slice_known-1.given i)) start.requires.countable c.change_counter.ensures c.change_counter-2.ensures

pub returns : goal.returns
returns c =
    let start = c.before.before.before.before.before.before.before.before.before.before.before.before.before.before in
    all_changed _ _ _ _ _ start.requires.fits.0 start.requires.fits.1 (λ i. omega (arith, c.slice_known-1.given i)) start.requires.countable c.change_counter.ensures c.change_counter-2.ensures c.change_counter-3.ensures
