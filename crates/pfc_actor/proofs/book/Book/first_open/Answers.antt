use Rattle.std.proofs.Common.{arith}
use Rattle.pfc_actor.proofs.Books.{none_left}
use Rattle.pfc_actor.proofs.book.Book.first_open.Goals as goal

pub returns-clause-none : goal.returns-clause-none
returns-clause-none g c =
    rw (← c.self.view_is) (none_left c.self.inside.stays (λ j low. c.loop-number.invariant j (omega (arith, low, c.sixteen.ensures, c.loop-number-test.false))))
