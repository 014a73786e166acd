-- `entries::decode::word_code` meets its contract: the table has the page rights of a page's bits 9..0, and low bits tell the rest.
use mathlib.Core.Path.{sym, ◌∙◌}
use Prim.Native.Nat.{◌<◌}
use native.Mathlib.Omega.{arith}
use Rattle.words.proofs.Fields.{bits_low}
use Rattle.entries.proofs.Decoding.{page_bit, word_code_fault, word_code_large, page_code-word, rights_of_bound}
use Rattle.entries.proofs.decode.word_code.Goals as goal
use Rattle.entries.proofs.decode.word_code.Goals.{After-rights}

small : (c : After-rights) → c.rights.result < 8
small c = rw c.rights.ensures (rights_of_bound _ _)

pub returns-then-form-eq-FAULT_FORM : goal.returns-then-form-eq-FAULT_FORM
returns-then-form-eq-FAULT_FORM c = sym (word_code_fault c.args.w (sym c.bits-form.ensures ∙ c.if-form-eq-FAULT_FORM.true))

pub page_rights_at-requires : goal.page_rights_at-requires
page_rights_at-requires c =
    let w = c.args.w in
    let form = c.bits-form.ensures in
    let e = c.bits.ensures in
    (omega arith, rw e (bits_low w 1 1 10 (omega arith) ∙ page_bit w (λ z. c.if-form-eq-FAULT_FORM.false (form ∙ z)) (λ z. c.if-form.true (form ∙ z))))

pub returns-then-form : goal.returns-then-form
returns-then-form c =
    let w = c.args.w in
    let form = c.bits-form.ensures in
    let one = page_bit w (λ z. c.if-form-eq-FAULT_FORM.false (form ∙ z)) (λ z. c.if-form.true (form ∙ z)) in
    rw c.bits.ensures at c.page_rights_at.ensures ∙ page_code-word w one

pub overflow_cast-result : goal.overflow_cast-result
overflow_cast-result c = omega (arith, small c)

pub overflow_add-result : goal.overflow_add-result
overflow_add-result c = omega (arith, small c)

pub returns-then-is_large_form : goal.returns-then-is_large_form
returns-then-is_large_form c =
    let w = c.args.w in
    let form = sym c.is_large_form.ensures ∙ c.if-is_large_form.true in
    omega (arith, c.rights.ensures, rw form at (word_code_large w (sym c.bits-form.ensures ∙ c.if-form.false)))

pub returns-else-is_large_form : goal.returns-else-is_large_form
returns-else-is_large_form c =
    let w = c.args.w in
    let none = sym c.is_large_form.ensures ∙ c.if-is_large_form.false in
    sym (rw none at (word_code_large w (sym c.bits-form.ensures ∙ c.if-form.false)))
