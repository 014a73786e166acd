-- The answers of the calls, as values of the code (RULES: calls).
use Rattle.std.specs.Prelude.{ℕ, Result, Ok, Err}
use Rattle.std.specs.Result.{result_unwrap_or}
use Rattle.ledger.specs.declared.refusals.Refusal as refusals
use Rattle.ledger.specs.declared.refusals.Refusal.TheVariants.{Misfit, OutsideRegion, Misaligned, BeyondTable, WrongType, InUse, ExecutableHolder, WrongEntry, UnlawfulRights, UnfitTarget, Clash, Unsigned, Overrun, NoActiveTable, FaultEntry, RightLacking, BrokenWalk}

-- calls 2: the number of a refusal
abbrev pub number_of : refusals.Refusal → ℕ
number_of Misfit = 1
number_of OutsideRegion = 2
number_of Misaligned = 3
number_of BeyondTable = 4
number_of WrongType = 5
number_of InUse = 6
number_of ExecutableHolder = 7
number_of WrongEntry = 8
number_of UnlawfulRights = 9
number_of UnfitTarget = 10
number_of Clash = 11
number_of Unsigned = 12
number_of Overrun = 13
number_of NoActiveTable = 21
number_of FaultEntry = 22
number_of RightLacking = 23
number_of BrokenWalk = 24

-- calls 2: the answer of a call: the number of its refusal, and 0 where it is accepted
abbrev pub answered : {A : Type 0} → Result A refusals.Refusal → ℕ
answered (Ok x) = 0
answered (Err r) = number_of r

-- calls 5, calls 8: the byte or the number that a call gives: with a refusal it is 0
abbrev pub given : Result ℕ refusals.Refusal → ℕ
given r = result_unwrap_or r 0
