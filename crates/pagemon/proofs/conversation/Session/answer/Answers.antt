-- Each case of what a read came to: bytes come behind those that are kept, and without any the session stays as it was.
use native.Mathlib.Omega.{arith}
use Rattle.pagemon.proofs.Turns.{arrived_turn, ended_turn, failed_turn, bad_over}
use Rattle.pagemon.proofs.conversation.Session.answer.Goals as goal

pub returns-in-Bytes-clause-answered : goal.returns-in-Bytes-clause-answered
returns-in-Bytes-clause-answered c =
    let s = c.args.self.now in
    let h = c.hear-heard.ensures in
    rw (bad_over _ c.after.ensures) (arrived_turn _ s.input s.kept s.obeyed _ c.in-Bytes.is h.is_over_after h.stored c.after.ensures)

pub returns-in-End-clause-answered : goal.returns-in-End-clause-answered
returns-in-End-clause-answered c =
    let s = c.args.self.now in
    ended_turn _ s.input s.kept s.obeyed c.in-End.is (omega arith) c.close.ensures.stored

pub returns-in-Later-clause-answered : goal.returns-in-Later-clause-answered
returns-in-Later-clause-answered c = let s = c.args.self.now in failed_turn _ s.input s.kept s.obeyed c.in-Later.is

pub returns-in-Later-2-clause-answered : goal.returns-in-Later-2-clause-answered
returns-in-Later-2-clause-answered c = let s = c.args.self.now in failed_turn _ s.input s.kept s.obeyed c.in-Later.is
