use Rattle.std.proofs.Common.{arith, map}
use Rattle.pfc_read.proofs.Asked.{asked-turned}
use Rattle.pfc_read.proofs.draft.Draft.ask_all.Goals as goal

pub returns : goal.returns
returns g c =
    let is = c.ask_each-met.ensures in
    let turned = c.turn.ensures in
    record {
      number = is.number;
      within = is.within;
      asked = asked-turned c.args.core.now c.args.n (map (λ x. x.1) c.args.parts.now) is.number c.ask_each-met.new.self c.turn.new.self c.ask_each-met.new.core turned is.asked;
      all = is.all;
      met_is = is.met_is;
      pending_room = let r = turned.room.pendings in let p = is.pending_room in omega (arith, r, p);
      owed_room = let r = turned.room.owed in let p = is.owed_room in omega (arith, r, p);
    }
