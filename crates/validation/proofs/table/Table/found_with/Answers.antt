-- A fault leaves what was found, and gathers nothing.
use mathlib.Core.Path.{◌∙◌, ap}
use Rattle.words.proofs.Bounded.{told}
use Rattle.validation.specs.Findings.{finding_of, greater}
use Rattle.validation.proofs.Surveys.{found_fault, fault_gathers, greater_second, greater_max}
use Rattle.validation.proofs.table.Table.found_with.Goals as goal

pub returns-then-is_fault : goal.returns-then-is_fault
returns-then-is_fault c =
    let fault = told c.is_fault.ensures c.if-is_fault.true in
    record { value = found_fault _ _ _ _ _ fault; gathered = λ z. fault_gathers _ _ _ fault }

pub returns : goal.returns
returns c =
    let value = ap finding_of c.max.ensures ∙ greater_max _ _ in
    record { value = value ∙ ap (greater (finding_of c.args.found)) c.entry_finding-one.ensures.value; gathered = λ z. c.entry_finding-one.ensures.gathered (greater_second _ _ 2 (rw value at z)) }
