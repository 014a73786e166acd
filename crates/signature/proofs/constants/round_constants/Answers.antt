-- The roots are computed, and are the numbers of the table.
use Rattle.std.proofs.Common.{refl}
use Rattle.words.specs.Bounded.{any}
use Rattle.signature.specs.Sha256.{K, primes, primes_below, is_prime, root_fraction, root_from}
use Rattle.signature.proofs.constants.round_constants.Goals as goal

pub returns : goal.returns
unfolding K primes primes_below is_prime any root_fraction root_from
returns c = refl
