-- Each case is a law of the padded message.
use Rattle.std.proofs.Common.{◌≡◌, length, sym, ◌∙◌, arith}
use Rattle.signature.specs.Message.{joined}
use Rattle.signature.proofs.Padded.{length-padded, padded_message, padded_one, padded_zero, padded-length}
use Rattle.signature.proofs.padding.Message.padded_byte.Goals as goal

pub returns-then-i-n : goal.returns-then-i-n
returns-then-i-n c =
    let a = c.args in
    c.byte.ensures ∙ sym (padded_message (joined a.self) a.i (omega arith))

pub returns-then-i-n-2 : goal.returns-then-i-n-2
returns-then-i-n-2 c =
    let a = c.args in
    let e : a.i ≡ length (joined a.self) = omega arith in
    rw e (sym (padded_one (joined a.self)))

pub returns-then-i-e : goal.returns-then-i-e
returns-then-i-e c =
    let a = c.args in
    sym (padded_zero (joined a.self) a.i (omega arith) (omega arith))

pub length_byte-requires : goal.length_byte-requires
length_byte-requires c = omega (arith, length-padded (joined c.args.self))

pub returns : goal.returns
returns c =
    let a = c.args in
    rw (c.len-n.ensures, c.zeros.ensures.value) at c.length_byte.ensures ∙ sym (padded-length (joined a.self) a.i (omega arith))
