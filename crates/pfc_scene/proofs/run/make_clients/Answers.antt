use Rattle.std.proofs.Common.{◌≡◌, ◌∙◌, arith, ap, sym, subst, length}
use Rattle.std.specs.Prelude.{All}
use Rattle.std.proofs.lemmas.List.{length_push}
use Rattle.std.proofs.lemmas.List.Elements.{All-push}
use Rattle.pfc_actor.specs.Books.{BookView}
use Rattle.pfc_actor.specs.Clients.{ClientView, IsFresh}
use Rattle.pfc_scene.specs.Ends.{fresh_book}
use Rattle.pfc_scene.proofs.Beginning.{rows_pop, all_front, numbers_pop}
use Rattle.pfc_scene.proofs.run.make_clients.Goals as goal

pub loop-book-preserved : goal.loop-book-preserved
loop-book-preserved g c =
    let number : c.new.result.book.number ≡ c.in-Some.book.number = ap (λ (b : BookView). b.number) c.new.ensures.book_is in
    let fresh : IsFresh c.new.result.book.number c.new.result = subst (λ n. IsFresh n c.new.result) (sym number) c.new.ensures in
    record {
      rows = rows_pop _ _ _ _ _ _ _ _ _ _ c.in-Some-pop.ensures.items c.in-Some.ensures.items c.loop-book.invariant.rows;
      books = all_front (λ (b : BookView). b ≡ fresh_book b.number) _ _ _ c.in-Some.ensures.items c.loop-book.invariant.books;
      clients = subst (All (λ (a : ClientView). IsFresh a.book.number a)) (sym c.push_reserved.ensures.items) (All-push (λ (a : ClientView). IsFresh a.book.number a) _ _ c.loop-book.invariant.clients fresh);
      numbers = numbers_pop (λ (b : BookView). b.number) _ _ _ _ _ _ _ c.push_reserved.ensures.items c.in-Some.ensures.items number c.loop-book.invariant.numbers;
      room =
          let one = ap length c.push_reserved.ensures.items in let two = ap length c.in-Some.ensures.items in
          omega (arith, one, two, length_push c.loop-book.clients.items c.new.result, length_push c.pop.new.self.items c.in-Some.book, c.loop-book.invariant.room, c.push_reserved.ensures.capacity);
      capacity = c.in-Some-pop.ensures.capacity ∙ c.loop-book.invariant.capacity;
    }
