use Rattle.std.proofs.Common.{[], ◌∷◌, ◌++◌, refl, sym, ap, ◌∙◌}
use Rattle.pfc_span.specs.Pieces.{pieces_in, total_of}
use Rattle.pfc_client.specs.declared.reply.Reply.{Reply}
use Rattle.pfc_client.specs.Replies.{reply_with}
use Rattle.pfc_actor.proofs.Ending.{served_step, unserved_step, its_reply, its_fetch, none_of}
use Rattle.pfc_actor.proofs.Calm.{calm_ended}
use Rattle.pfc_actor.proofs.reading.finish.Goals as goal

pub of_bytes-requires : goal.of_bytes-requires
of_bytes-requires g c = let answer = c.in-Bytes.ensures.answer in
    answer.3.long ∙ (λ i. total_of (sym answer.2 i) (pieces_in (sym answer.1 i)))

pub reply-requires-clause-permitted : goal.reply-requires-clause-permitted
reply-requires-clause-permitted g c κs within line at = let goes = c.requires.work.0 in let answer = c.in-Bytes.ensures.answer in
    rw (goes.reads.asked.next.is line at, c.of_bytes.ensures, answer.1, answer.2) (its_reply c.args.book.now.stays g.W.World.told g.W.World.files goes.number c.args.op goes.stay c.in-Bytes.bytes.items c.in-Bytes.served goes.reads.is_open goes.path_is goes.size_is goes.reads.short
    c.keeps.ensures.right answer.3)

pub reply-requires-in-Fetch-clause-permitted : goal.reply-requires-in-Fetch-clause-permitted
reply-requires-in-Fetch-clause-permitted g c κs within line at = let goes = c.requires.work.0 in
    rw (goes.reads.asked.next.is line at) (its_fetch c.args.book.now.stays g.W.World.told g.W.World.files goes.number c.args.op goes.stay goes.reads.is_open goes.path_is goes.size_is goes.reads.short c.keeps.ensures.right c.in-Fetch.ensures.answer.1)

pub returns-in-Bytes-clause-step : goal.returns-in-Bytes-clause-step
returns-in-Bytes-clause-step g c = let goes = c.requires.work.0 in let answer = c.in-Bytes.ensures.answer in
    let told = c.of_bytes.ensures ∙ (λ i. reply_with (answer.1 i) (answer.2 i) c.in-Bytes.bytes.items) in
    let answered = c.reply.ensures ∙ ap (λ (x : Reply). record c.args.book.now { replies = c.args.book.now.replies ++ x ∷ [] }) told in
    served_step g.W.World.told g.W.World.files c.args.book.now c.reply.new.self c.args.line.now c.args.op c.args.core.now c.finish.new.core goes.number c.in-Bytes.bytes.items c.in-Bytes.served goes.reads.asked.next answered c.requires.knows c.requires.here c.requires.work.1
    goes.client_is c.in-Bytes.ensures.core answer.3
    (none_of c.args.op.failed (λ some. c.keeps.ensures.hurt some answer.0))

pub returns-in-Fetch-clause-step : goal.returns-in-Fetch-clause-step
returns-in-Fetch-clause-step g c = let goes = c.requires.work.0 in
    unserved_step _ _ _ _ _ _ goes.number _ goes.reads.asked.next c.reply-in-Fetch.ensures c.requires.knows c.requires.here c.requires.work.1 goes.client_is c.in-Fetch.ensures.core refl refl refl refl c.keeps.ensures.few

pub returns-in-Memory-clause-step : goal.returns-in-Memory-clause-step
returns-in-Memory-clause-step g c = let goes = c.requires.work.0 in
    unserved_step _ _ _ _ _ _ goes.number _ goes.reads.asked.next c.reply-in-Memory.ensures c.requires.knows c.requires.here c.requires.work.1 goes.client_is c.in-Memory.ensures.core refl refl refl refl c.keeps.ensures.few

pub returns-in-Bytes-clause-calm : goal.returns-in-Bytes-clause-calm
returns-in-Bytes-clause-calm g c = calm_ended _ _ _ _ c.in-Bytes.ensures.core

pub returns-in-Fetch-clause-calm : goal.returns-in-Fetch-clause-calm
returns-in-Fetch-clause-calm g c = calm_ended _ _ _ _ c.in-Fetch.ensures.core

pub returns-in-Memory-clause-calm : goal.returns-in-Memory-clause-calm
returns-in-Memory-clause-calm g c = calm_ended _ _ _ _ c.in-Memory.ensures.core
