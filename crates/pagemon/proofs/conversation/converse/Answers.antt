-- Each turn ends the program with what was read and written by then, or goes on with it.
use Rattle.std.proofs.Common.{◌≡◌, refl, false, true, arith, rules, ◌∙◌}
use Rattle.pagemon.specs.Conversation.{is_open}
use Rattle.pagemon.proofs.Exchange.{starts, carried, exchange_breaks_off, exchange_concludes, exchange_stays_open, runs_out, ends}
use Rattle.pagemon.proofs.conversation.converse.Goals as goal

pub loop-session-init : goal.loop-session-init
loop-session-init g c = (refl, refl, omega arith, omega arith, starts _ _ c.requires)

pub returns-in-Err : goal.returns-in-Err
returns-in-Err g c =
    let r = c.receive-arrival.ensures in
    let a = c.answer-turn.ensures in
    let x = carried r.same_session c.loop-session.invariant.4 in
    ends (search rules) (search rules) (exchange_breaks_off _ _ _ _ _ _ x r.taken a.answered a.end_in_bounds c.in-Err.error c.in-Err.ensures.part)

pub returns-then-not-is_open : goal.returns-then-not-is_open
returns-then-not-is_open g c =
    let r = c.receive-arrival.ensures in
    let a = c.answer-turn.ensures in
    let closed : is_open c.answer-turn.result.state ≡ false = search rules in
    let x = carried r.same_session c.loop-session.invariant.4 in
    ends (search rules) (search rules) (exchange_concludes _ _ _ _ _ _ x r.taken a.answered a.end_in_bounds closed r.end c.in_default.ensures.written)

pub loop-session-preserved : goal.loop-session-preserved
loop-session-preserved g c =
    let r = c.receive-arrival.ensures in
    let a = c.answer-turn.ensures in
    let going : is_open c.answer-turn.result.state ≡ true = search rules in
    let more = a.advanced going in
    let x = carried r.same_session c.loop-session.invariant.4 in (
      a.same_memory ∙ r.same_memory ∙ c.loop-session.invariant.0,
      a.same_ledger ∙ r.same_ledger ∙ c.loop-session.invariant.1,
      more.short,
      omega arith,
      exchange_stays_open _ _ _ _ _ _ x r.taken a.answered a.end_in_bounds going c.in_default.ensures.written,
    )

pub returns : goal.returns
returns g c =
    ends (search rules) (search rules) (runs_out c.loop-session.invariant.4 (omega arith))
