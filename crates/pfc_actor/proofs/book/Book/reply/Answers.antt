use Rattle.std.proofs.Common.{◌≡◌, ◌<◌, ℕ, List, length, arith, ap, sym, subst, ◌∙◌}
use Rattle.std.specs.Prelude.{Some, slice_get}
use Rattle.pfc_client.specs.Requests.{request_of}
use Rattle.pfc_client.specs.Permitted.{Permits}
use Rattle.pfc_actor.specs.Books.{BookView, table}
use Rattle.pfc_actor.proofs.Books.{replied}
use Rattle.pfc_actor.proofs.book.Book.reply.Goals as goal

pub invariant_of-self : goal.invariant_of-self
invariant_of-self g c =
    replied _ _ _ _ _ _ _ _ _ _ _ _ c.self.invariant c.push_reserved.ensures.items (omega (arith, c.push_reserved.ensures.capacity))
    (ap (λ (v : BookView). v.shut) c.self.view_is ∙ c.requires.going)
    (subst (λ (v : BookView). length v.replies < length v.asked) (sym c.self.view_is) c.requires.asked)
    (subst (λ (v : BookView). (line : List ℕ) → slice_get v.asked (length v.replies) ≡ Some line → Permits g.W.World.told g.W.World.files (table v) (request_of line) c.args.reply (table v)) (sym c.self.view_is) c.requires.permitted)
    c.self.invariant.stays
