-- How the right to read a block from disk ends.
use Rattle.std.specs.Prelude.{◌≡◌, ◌<◌}
use Rattle.pfc_base.specs.declared.block.Part.{Part}
use Rattle.pfc_log.specs.declared.entry.Entry.TheVariants.{Direct}
use Rattle.pfc_log.specs.declared.entry.Way.TheVariants.{Device}
use Rattle.pfc_core.specs.Leave.{LeaveView, leave_of}
use Rattle.pfc_core.specs.Marks.{Mark, listed, Loses}
use Rattle.pfc_core.specs.View.{CoreView, entered}

-- with no entry
pub record EndsDisk (old : CoreView) (disk : Mark) (new : CoreView) : Type 0 where
  pub loses : Loses old.out disk new.out
  pub rest : new ≡ record old { out = new.out }

-- the client goes to the origin, since the disk failed
pub record GoesBroken (old : CoreView) (disk : Mark) (new : CoreView) : Type 0 where
  pub loses : Loses old.out disk new.out
  pub enters : new ≡ entered old (Direct disk.block disk.client Device) new.out

-- a leave comes in the token's place; nothing is entered for one that the core's list doesn't have
pub record LeavesBroken (old : CoreView) (disk : Mark) (part : Part) (leave : LeaveView) (new : CoreView) : Type 0 where
  pub leave_is : leave ≡ leave_of disk part
  pub known : 0 < listed disk old.out → GoesBroken old disk new
  pub strange : listed disk old.out ≡ 0 → new ≡ old
