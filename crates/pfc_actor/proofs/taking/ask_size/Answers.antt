use Rattle.std.proofs.Common.{refl, sym, arith}
use Rattle.pfc_client.proofs.Permitting.{open-fetch}
use Rattle.pfc_actor.specs.Books.{file_in}
use Rattle.pfc_actor.proofs.Steps.{own_told}
use Rattle.pfc_actor.proofs.taking.ask_size.Goals as goal

pub returns-then-not-is_free-clause-step : goal.returns-then-not-is_free-clause-step
returns-then-not-is_free-clause-step g c = own_told _ _ _ _ _ _ 0 c.reply.ensures c.requires.work.next refl refl refl refl (omega arith) (omega arith) refl

pub reply-requires-in-Err-clause-permitted : goal.reply-requires-in-Err-clause-permitted
reply-requires-in-Err-clause-permitted g c κs within line at =
    rw (c.requires.work.next.is line at) (open-fetch file_in c.args.book.now.stays g.W.World.told g.W.World.files c.args.number c.args.path.now (sym c.if-not-is_free.ensures))

pub returns-in-Err-clause-step : goal.returns-in-Err-clause-step
returns-in-Err-clause-step g c = own_told _ _ _ _ _ _ 1 c.reply-in-Err.ensures c.requires.work.next refl refl refl c.stat.ensures.number c.stat.ensures.calls (rw c.in-Err.is at c.stat.ensures.cause).0 refl

pub returns-in-Ok-None-clause-step : goal.returns-in-Ok-None-clause-step
returns-in-Ok-None-clause-step g c = own_told _ _ _ _ _ _ 1 c.reply-in-Ok-None.ensures c.requires.work.next refl refl refl c.stat.ensures.number c.stat.ensures.calls (rw c.in-Ok-None.is at c.stat.ensures.cause) refl
