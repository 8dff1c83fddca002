use Rattle.pfc_core.proofs.Outs.{nothing_out, complete_of}
use Rattle.pfc_core.proofs.file.FileCore.ends.Goals as goal

pub returns : goal.returns
returns g c = let s = c.self.inside in let was = c.self.invariant in
    rw (← c.self.view_is) (λ none. let no = nothing_out _ _ _ _ s.stays.list s.readings.list s.pins.list s.disks.list s.loan s.shelf.slots was.held none in complete_of _ _ _ s.shelf.slots s.pins.list s.stays.list was.held was.guests no.5 no.0)
