-- What a write took stands behind what was written before. The first answer is needed by the control of first_byte_not_written.
use Rattle.std.proofs.Common.{arith}
use Rattle.std.proofs.lemmas.Grind.{common_steps}
use Rattle.pagemon.proofs.Exchange.{nothing_written, rest_taken, written_more}
use Rattle.pagemon.proofs.output.write_text.Goals as goal

pub loop-rest-init : goal.loop-rest-init
loop-rest-init g c = nothing_written _ c.args.text.now (grind (arith, common_steps))

pub loop-rest-preserved-in-Ok : goal.loop-rest-preserved-in-Ok
loop-rest-preserved-in-Ok g c =
    let rest = c.loop-rest.rest.now in
    let before = c.loop-rest.invariant in
    written_more _ _ _ c.args.text.now rest c.in-Ok.n c.in-Ok.ensures.bound before.0 before.1 before.2 c.in-Ok.ensures.bytes (rest_taken c.in-Ok.n rest)
