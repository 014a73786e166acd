-- The roots are computed, and are the numbers of the table.
use Rattle.std.proofs.Common.{refl}
use Rattle.words.specs.Bounded.{any}
use Rattle.signature.specs.Sha256.{H⁰, primes, primes_below, is_prime, root_fraction, root_from}
use Rattle.signature.proofs.constants.initial_hash.Goals as goal

pub returns : goal.returns
unfolding H⁰ primes primes_below is_prime any root_fraction root_from
returns c = refl
