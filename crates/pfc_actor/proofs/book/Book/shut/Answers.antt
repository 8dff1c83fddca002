use Rattle.pfc_actor.proofs.Books.{shut}
use Rattle.pfc_actor.proofs.book.Book.shut.Goals as goal

pub invariant_of-self : goal.invariant_of-self
invariant_of-self g c = shut _ _ _ _ _ _ _ _ _ _ c.self.invariant c.take.ensures.free
