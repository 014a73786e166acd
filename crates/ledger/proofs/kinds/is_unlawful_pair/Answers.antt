-- The nine bits from bit 7 on, and those from bit 23 on, are the bits above bit 6 of the two kinds.
use native.Mathlib.Omega.{arith}
use Rattle.ledger.proofs.MemoryKinds.{first_unlawful, second_decides}
use Rattle.ledger.proofs.kinds.is_unlawful_pair.Goals as goal

pub returns-then-bits-ne0 : goal.returns-then-bits-ne0
returns-then-bits-ne0 c = first_unlawful _ c.bits.ensures c.if-bits-ne0.true

pub returns-else-bits-ne0 : goal.returns-else-bits-ne0
returns-else-bits-ne0 c = second_decides _ (omega arith) c.bits.ensures c.if-bits-ne0.false c.bits-else-bits-ne0.ensures
