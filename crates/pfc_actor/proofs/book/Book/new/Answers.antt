use Rattle.pfc_actor.proofs.Books.{made}
use Rattle.pfc_actor.proofs.book.Book.new.Goals as goal

pub invariant_of-result : goal.invariant_of-result
invariant_of-result g c = rw (c.new-2.ensures.items, c.new-3.ensures.items, c.in_ok-stays.ensures) (made _ _ _ _)
