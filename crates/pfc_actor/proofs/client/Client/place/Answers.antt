use Rattle.std.proofs.Common.{refl}
use Rattle.pfc_actor.proofs.client.Client.place.Goals as goal

pub returns-in-Wanted : goal.returns-in-Wanted
returns-in-Wanted g c = rw (← c.self.view_is, c.in-Wanted.is) (c.in-Wanted.field-0.path, refl)

pub returns-in-Making : goal.returns-in-Making
returns-in-Making g c = rw (← c.self.view_is, c.in-Making.is) (c.in-Making.field-0.path, refl)

pub returns-in-Joining : goal.returns-in-Joining
returns-in-Joining g c = rw (← c.self.view_is, c.in-Joining.is) (c.in-Joining.field-0.path, refl)
