use Rattle.std.proofs.Common.{arith, ap, sym, subst, ◌∙◌}
use Rattle.std.specs.Prelude.{Ok, IsSome}
use Rattle.pfc_client.specs.declared.request.Request.TheVariants as q
use Rattle.pfc_client.specs.Session.{place_at}
use Rattle.pfc_actor.specs.Books.{BookView, IsNext}
use Rattle.pfc_actor.proofs.Books.{closed}
use Rattle.pfc_actor.proofs.book.Book.closed.Goals as goal

pub invariant_of-self : goal.invariant_of-self
invariant_of-self g c =
    closed _ _ _ _ _ _ _ _ _ _ _ _ c.self.invariant c.push_reserved.ensures.items (omega (arith, c.push_reserved.ensures.capacity))
    (ap (λ (v : BookView). v.shut) c.self.view_is ∙ c.requires.going)
    (subst (λ (v : BookView). IsNext v (Ok (q.Close c.args.number))) (sym c.self.view_is) c.requires.next).some
    (subst (λ (v : BookView). IsNext v (Ok (q.Close c.args.number))) (sym c.self.view_is) c.requires.next).is
    (subst (λ (v : BookView). IsSome (place_at v.stays c.args.number)) (sym c.self.view_is) c.requires.is)
    c.take.ensures.free
