-- `entries::decode::is_fault_at` meets its contract: bits 1..0 tell a fault at both levels.
use Rattle.entries.proofs.Decoding.{is_fault-bits}
use Rattle.entries.proofs.decode.is_fault_at.Goals as goal

pub returns : goal.returns
returns c = λ v. rw (c.bits.ensures, c.word.ensures) (is_fault-bits v _ _)
