use Rattle.std.proofs.Common.{arith, ap, sym, subst, ◌∙◌}
use Rattle.std.specs.Prelude.{Ok}
use Rattle.pfc_client.specs.declared.request.Request.TheVariants as q
use Rattle.pfc_client.specs.Session.{is_free}
use Rattle.pfc_actor.specs.Books.{BookView, IsNext, IsStay}
use Rattle.pfc_actor.proofs.Books.{opened}
use Rattle.pfc_actor.proofs.book.Book.opened.Goals as goal

pub invariant_of-self : goal.invariant_of-self
invariant_of-self g c =
    opened _ _ _ _ _ _ _ _ _ _ _ _ _ _ c.self.invariant c.push_reserved.ensures.items (omega (arith, c.push_reserved.ensures.capacity))
    (ap (λ (v : BookView). v.shut) c.self.view_is ∙ c.requires.going)
    (subst (λ (v : BookView). IsNext v (Ok (q.Open c.args.number c.args.stay.path))) (sym c.self.view_is) c.requires.next).some
    (subst (λ (v : BookView). IsNext v (Ok (q.Open c.args.number c.args.stay.path))) (sym c.self.view_is) c.requires.next).is
    (ap (λ (v : BookView). is_free v.stays c.args.number) c.self.view_is ∙ c.requires.free)
    c.in-Ok.ensures.put.1 c.requires.size c.requires.right
    (subst (λ (v : BookView). IsStay v.number c.args.stay) (sym c.self.view_is) c.requires.mine)
