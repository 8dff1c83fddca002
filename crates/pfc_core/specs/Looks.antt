-- What has become of a pin's flight.
use Rattle.std.specs.Prelude.{◌≡◌, ◌≢◌, ◌<◌, IsTrue}
use Rattle.pfc_base.specs.declared.block.Part.{Part}
use Rattle.pfc_log.specs.declared.entry.Entry.TheVariants.{Direct}
use Rattle.pfc_log.specs.declared.entry.Way.TheVariants as way
use Rattle.pfc_log.specs.Views.{place, times, is_failed}
use Rattle.pfc_core.specs.declared.look.Look.{Look}
use Rattle.pfc_core.specs.declared.look.Look.TheVariants.{Flying, Ready, Lost, Own, Stray}
use Rattle.pfc_core.specs.Leave.{LeaveView, leave_of}
use Rattle.pfc_core.specs.Leaves.{is_here_at, is_flying_at, tickets_on}
use Rattle.pfc_core.specs.Marks.{Mark, listed, Loses}
use Rattle.pfc_core.specs.View.{CoreView, entered}

-- the flight is out, and so is its ticket; the pin comes back
pub record StillFlies (old : CoreView) (pin back : Mark) (new : CoreView) : Type 0 where
  pub back_is : back ≡ pin
  pub held : 0 < listed pin old.out
  pub flying : IsTrue (is_flying_at pin.flight (place pin.block old.entries))
  pub ticket : 0 < tickets_on pin.block pin.flight old.out
  pub unchanged : new ≡ old

-- the block is in memory; the pin comes back
pub record IsThere (old : CoreView) (pin back : Mark) (new : CoreView) : Type 0 where
  pub back_is : back ≡ pin
  pub held : 0 < listed pin old.out
  pub here : IsTrue (is_here_at pin.flight (place pin.block old.entries))
  pub unchanged : new ≡ old

-- the flight of another client failed; a leave comes in the place of the pin, with an entry
pub record LeavesFor (old : CoreView) (pin : Mark) (part : Part) (leave : LeaveView) (new : CoreView) : Type 0 where
  pub held : 0 < listed pin old.out
  pub failed : 0 < times (is_failed pin.flight) old.entries
  pub other : pin.owner ≢ pin.client
  pub leave_is : leave ≡ leave_of pin part
  pub loses : Loses old.out pin new.out
  pub enters : new ≡ entered old (Direct pin.block pin.client (way.Lost pin.flight)) new.out

-- the client's own flight failed; the pin comes back
pub record FailedItself (old : CoreView) (pin back : Mark) (new : CoreView) : Type 0 where
  pub back_is : back ≡ pin
  pub held : 0 < listed pin old.out
  pub failed : 0 < times (is_failed pin.flight) old.entries
  pub own : pin.owner ≡ pin.client
  pub unchanged : new ≡ old

-- the core's list has no such pin; a leave comes in its place, and nothing is entered
pub record IsStranger (old : CoreView) (pin : Mark) (part : Part) (leave : LeaveView) (new : CoreView) : Type 0 where
  pub unlisted : listed pin old.out ≡ 0
  pub leave_is : leave ≡ leave_of pin part
  pub unchanged : new ≡ old

abbrev pub Looks : {W : Type 0} → CoreView → Mark → Part → Look W → CoreView → Type 0
Looks old pin part (Flying back) new = StillFlies old pin back new
Looks old pin part (Ready back) new = IsThere old pin back new
Looks old pin part (Lost leave) new = LeavesFor old pin part leave new
Looks old pin part (Own back) new = FailedItself old pin back new
Looks old pin part (Stray leave) new = IsStranger old pin part leave new

-- the fact holds where the block was there
abbrev pub IfReady : {W : Type 0} → Look W → Type 0 → Type 0
IfReady (Ready back) P = P
IfReady _ P = Unit {0}
