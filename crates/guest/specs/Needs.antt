-- What an inner function requires (RULES: guest).
use Rattle.guest.specs.declared.access.Access as access
use Rattle.guest.specs.declared.access.Access.TheVariants.{Read, Fetch, Write}

-- guest byte: an access that gives a byte
abbrev pub Loads : access.Access → Type 0
Loads Read = Unit {0}
Loads Fetch = Unit {0}
Loads (Write v) = ⊥
