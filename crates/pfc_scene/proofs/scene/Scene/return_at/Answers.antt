use Rattle.std.proofs.Common.{sym, subst}
use Rattle.std.specs.Prelude.{List, slice_index_or}
use Rattle.pfc_actor.specs.Clients.{ClientView}
use Rattle.pfc_actor.specs.Stages.{Here}
use Rattle.pfc_scene.proofs.Moving.{moves_on}
use Rattle.pfc_scene.proofs.scene.Scene.return_at.Goals as goal

pub returned-requires-clause-here : goal.returned-requires-clause-here
returned-requires-clause-here g c κs within d e =
    subst (λ (cs : List ClientView). Here (slice_index_or cs c.args.j d).book (slice_index_or cs c.args.j d).stage (slice_index_or c.give.new.self.cores c.args.i e)) (sym c.give.ensures.clients)
    (c.requires.here d (slice_index_or c.give.new.self.cores c.args.i e) (c.give.ensures.here e))

pub returns-then-give : goal.returns-then-give
returns-then-give g c = moves_on _ _ _ c.give.ensures.moves c.returned.ensures
