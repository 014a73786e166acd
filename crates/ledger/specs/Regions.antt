-- The region that a value of the code stands for (RULES: calls).
use Rattle.rules.specs.Store.{Store, lent}
use Rattle.ledger.specs.declared.region.Region as region

-- calls 1: the store of a region's two buffers
abbrev pub store_of : region.Region → Store
store_of r = lent r.memory.now r.ledger.now
