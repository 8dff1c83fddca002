use Rattle.std.proofs.Common.{ap, sym}
use Rattle.pfc_actor.specs.Books.{BookView}
use Rattle.pfc_actor.specs.Clients.{ClientView}
use Rattle.pfc_actor.specs.Seen.{seen}
use Rattle.pfc_actor.proofs.Asking.{client_longer, moves_longer}
use Rattle.pfc_actor.proofs.client.Client.ask.Goals as goal

pub invariant_of-self-2 : goal.invariant_of-self-2
invariant_of-self-2 g c = client_longer _ _ _ c.args.line.now _ (sym c.if-is_shut.ensures) c.in_ok-ask.ensures.ok c.self.invariant

pub returns-clause-moves : goal.returns-clause-moves
returns-clause-moves g c = let s = c.self.inside in
    let was : ClientView = record { book = s.book; line = s.line; stage = seen s.stage; moment = s.moment } in
    rw (← c.self.view_is) (moves_longer was (record was { book = c.ask.new.self }) c.args.line.now c.keeps.ensures (ap (λ (v : BookView). record was { book = v }) c.in_ok-ask.ensures.ok))
