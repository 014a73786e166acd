-- `entries::decode::page_mapping` meets its contract: the table has the number of a page's bits 9..0, which is 8 and its rights.
use mathlib.Core.Path.{◌≡◌, ◌∙◌}
use Prim.Native.Nat.{◌+◌}
use native.Mathlib.Omega.{arith}
use Rattle.words.proofs.Fields.{bits_low}
use Rattle.entries.specs.Rights.{rights_of}
use Rattle.entries.specs.Entries.{page_ap, page_xn}
use Rattle.entries.proofs.Decoding.{page_form_bit, page_code-word, word_code_page_form}
use Rattle.entries.proofs.decode.page_mapping.Goals as goal
use Rattle.entries.proofs.decode.page_mapping.Goals.{After-page_rights_at-code}

number : (c : After-page_rights_at-code) → c.page_rights_at-code.result ≡ 8 + rights_of (page_ap c.args.w) (page_xn c.args.w)
number c = rw c.bits.ensures at c.page_rights_at-code.ensures ∙ (page_code-word c.args.w (page_form_bit c.args.w c.requires) ∙ word_code_page_form c.args.w c.requires)

pub page_rights_at-code-requires : goal.page_rights_at-code-requires
page_rights_at-code-requires c =
    let w = c.args.w in
    let e = c.bits.ensures in
    (omega arith, rw e (bits_low w 1 1 10 (omega arith) ∙ page_form_bit w c.requires))

pub overflow_sub-code : goal.overflow_sub-code
overflow_sub-code c = let e = number c.before in omega arith

pub returns : goal.returns
returns c = (c.bits-2.ensures, let e = number c.before.before in omega arith)
