use Rattle.std.proofs.Common.{◌<◌, refl, sym, ap, ◌∙◌, arith}
use Rattle.std.specs.Prelude.{is_some}
use Rattle.pfc_span.specs.Pieces.{pieces_in, asked_of}
use Rattle.pfc_core.specs.Marks.{Mark}
use Rattle.pfc_client.specs.Permitted.{most_bytes}
use Rattle.pfc_client.specs.Session.{place_at}
use Rattle.pfc_client.proofs.Permitting.{is_some-map, read-unopened, read-too-long}
use Rattle.pfc_actor.specs.Books.{file_in}
use Rattle.pfc_actor.proofs.Steps.{own_told}
use Rattle.pfc_actor.proofs.taking.see_read.Goals as goal

pub returns-then-is_none-clause-step : goal.returns-then-is_none-clause-step
returns-then-is_none-clause-step g c = own_told _ _ _ _ _ _ 0 c.reply.ensures c.requires.work.next refl refl refl refl (omega arith) (omega arith) refl

pub reply-requires-clause-permitted : goal.reply-requires-clause-permitted
reply-requires-clause-permitted g c κs within line at =
    let none = sym (is_some-map (λ (m : Mark). m.instance) (place_at c.args.book.now.stays c.args.number)) ∙ ap is_some (sym c.instance_at.ensures) ∙ c.if-is_none.ensures in
    rw (c.requires.work.next.is line at) (read-unopened file_in c.args.book.now.stays g.W.World.told g.W.World.files c.args.number c.args.pieces none)

pub reply-requires-then-asked-gt-READ_LIMIT-clause-permitted : goal.reply-requires-then-asked-gt-READ_LIMIT-clause-permitted
reply-requires-then-asked-gt-READ_LIMIT-clause-permitted g c κs within line at =
    let some = sym (is_some-map (λ (m : Mark). m.instance) (place_at c.args.book.now.stays c.args.number)) ∙ ap is_some (sym c.instance_at.ensures) ∙ c.if-is_none.ensures in
    let long : most_bytes < asked_of (pieces_in c.args.pieces) = omega (arith, c.asked.ensures, ap asked_of c.as_slice.ensures.all, c.if-asked-gt-READ_LIMIT.true) in
    rw (c.requires.work.next.is line at) (read-too-long file_in c.args.book.now.stays g.W.World.told g.W.World.files c.args.number c.args.pieces some long)

pub returns-then-asked-gt-READ_LIMIT-clause-step : goal.returns-then-asked-gt-READ_LIMIT-clause-step
returns-then-asked-gt-READ_LIMIT-clause-step g c = own_told _ _ _ _ _ _ 0 c.reply-then-asked-gt-READ_LIMIT.ensures c.requires.work.next refl refl refl refl (omega arith) (omega arith) refl
