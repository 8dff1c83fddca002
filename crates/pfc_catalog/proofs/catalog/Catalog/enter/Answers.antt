use Rattle.pfc_catalog.proofs.Turning.{enters-new}
use Rattle.pfc_catalog.proofs.catalog.Catalog.enter.Goals as goal

pub returns : goal.returns
returns c = enters-new c.args.self.now c.put.new.self c.args.path.now c.args.place c.args.was c.args.shell c.draw-instance.result
    (rw (c.draw-instance.ensures.drawn) at c.put.ensures.distinct) c.requires.there c.requires.home c.requires.low c.requires.free c.draw-instance.ensures.number
    (rw (c.draw-instance.ensures.drawn, c.with.ensures) at c.put.ensures.set)
