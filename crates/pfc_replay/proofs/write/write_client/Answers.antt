use Rattle.std.proofs.Common.{◌<◌, [], length, arith, sym}
use Rattle.std.proofs.lemmas.Bool.Decides.{nat_tests}
use Rattle.pfc_client.specs.Replies.{head_text}
use Rattle.pfc_replay.proofs.Fronts.{front-of_part, nothing-more, front-empty, client_text-some, client_text-at, client_text-all}
use Rattle.pfc_replay.proofs.write.write_client.Goals as goal

pub returns-in_err-write_head-clause-front : goal.returns-in_err-write_head-clause-front
returns-in_err-write_head-clause-front g c =
    let some : 0 < length c.args.replies.now = grind (arith, nat_tests, c.is_empty.ensures, c.if-is_empty.false) in
    front-of_part _ _ (g.S.Sink.written c.args.out.now) _ [] (head_text c.args.number) _ _ (client_text-some c.args.number c.args.replies.now some) (nothing-more _ _) c.in_err-write_head.ensures.front

pub returns-in_err-write_reply-clause-front : goal.returns-in_err-write_reply-clause-front
returns-in_err-write_reply-clause-front g c =
    let some : 0 < length c.args.replies.now = omega (arith, c.loop-reply-test.true) in
    front-of_part _ _ _ _ _ _ _ _ (client_text-at c.args.number c.loop-reply.reply-index c.args.replies.now c.reply-item.result some c.loop-reply-test.true (sym c.reply-item.is))
    c.loop-reply.invariant.written c.in_err-write_reply.ensures.front

pub returns-clause-front : goal.returns-clause-front
returns-clause-front g c =
    let some : 0 < length c.args.replies.now = grind (arith, nat_tests, c.is_empty.ensures, c.if-is_empty.false) in
    front-of_part _ _ _ _ _ _ _ _ (client_text-all c.args.number c.loop-reply.reply-index c.args.replies.now some c.loop-reply-test.false) c.loop-reply.invariant.written (front-empty _ _)
