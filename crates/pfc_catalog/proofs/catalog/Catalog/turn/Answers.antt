use Rattle.std.proofs.Common.{sym, ◌∙◌, ◌≡◌, Some}
use Rattle.std.specs.Prelude.{slice_get}
use Rattle.pfc_catalog.specs.Moves.{moved}
use Rattle.pfc_catalog.proofs.Turning.{turns}
use Rattle.pfc_catalog.proofs.catalog.Catalog.turn.Goals as goal

pub returns : goal.returns
returns c =
    let there : slice_get c.args.self.now.entries c.in-Some.place ≡ Some (c.args.path.now, c.in-Some.was) = rw (← c.self.view_is) c.in-Some.ensures.place in
    turns (moved c.args.call) c.args.self.now c.put.new.self c.args.path.now c.in-Some.place c.in-Some.was c.in-Some-moved.entry c.put.ensures.distinct there
    (sym c.moved.ensures.moved ∙ c.in-Some-moved.is) c.put.ensures.set
