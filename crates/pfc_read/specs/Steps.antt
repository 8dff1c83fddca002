-- What each call of a read does.
use Rattle.std.specs.Prelude.{◌≡◌, ◌<◌, ◌+◌, ◌⊎◌, []}
use Rattle.pfc_base.specs.Block.{IsPartOf}
use Rattle.pfc_base.specs.declared.block.Part.{Part}
use Rattle.pfc_core.specs.Leave.{LeaveView}
use Rattle.pfc_core.specs.Marks.{Kind, TicketKind, PinKind, DiskKind, Mark, Loses}
use Rattle.pfc_read.specs.declared.action.Action.{Action}
use Rattle.pfc_read.specs.declared.action.Action.TheVariants.{Run, Direct, Look, Disk, Finish}
use Rattle.pfc_read.specs.declared.action.Done.{Done}
use Rattle.pfc_read.specs.declared.action.Done.TheVariants.{Landed, Failed}
use Rattle.pfc_read.specs.OpView.{Nothing, ToRun, ToFill, ToLook, ToRead, ToEnd, OpView, first_met}

-- a token of this kind for the client and the file of a reading
pub record IsTokenOf (reading : Mark) (kind : Kind) (m : Mark) : Type 0 where
  pub kind_is : m.kind ≡ kind
  pub instance_is : m.instance ≡ reading.instance
  pub path_is : m.path ≡ reading.path
  pub size_is : m.size ≡ reading.size
  pub block_size_is : m.block_size ≡ reading.block_size
  pub client_is : m.client ≡ reading.client

-- a leave for the client and the file of a reading
pub record IsLeaveOf (reading : Mark) (leave : LeaveView) : Type 0 where
  pub client_is : leave.client ≡ reading.client
  pub path_is : leave.path ≡ reading.path
  pub size_is : leave.size ≡ reading.size
  pub block_size_is : leave.block_size ≡ reading.block_size

-- a pin for a part of its block
pub record IsPinFor (reading : Mark) (part : Part) (pin : Mark) : Type 0 where
  pub token : IsTokenOf reading PinKind pin
  pub block_is : pin.block ≡ part.block

-- the right to read a part of its block from disk
pub record IsDiskFor (reading : Mark) (part : Part) (disk : Mark) : Type 0 where
  pub token : IsTokenOf reading DiskKind disk
  pub block_is : disk.block ≡ part.block

-- a ticket comes first
pub record GivesTicket (old : OpView) (ticket : Mark) (new : OpView) : Type 0 where
  pub token : IsTokenOf old.reading TicketKind ticket
  pub loses : Loses old.tickets ticket new.tickets
  pub rest : new ≡ record old { tickets = new.tickets; given = ToRun }

-- then a leave
pub record GivesLeave (old : OpView) (leave : LeaveView) (new : OpView) : Type 0 where
  pub flown : old.tickets ≡ []
  pub leave_of : IsLeaveOf old.reading leave
  pub one : old.leaves ≡ new.leaves + 1
  pub rest : new ≡ record old { leaves = new.leaves; given = ToFill leave.part }

-- then a pin to look at, while no flight of its own failed
pub record GivesPin (old : OpView) (pin : Mark) (part : Part) (new : OpView) : Type 0 where
  pub flown : old.tickets ≡ []
  pub filled : old.leaves ≡ 0
  pub whole : old.failed ≡ 0
  pub pin_for : IsPinFor old.reading part pin
  pub loses : Loses old.pins pin new.pins
  pub one : old.looks ≡ new.looks + 1
  pub rest : new ≡ record old { pins = new.pins; looks = new.looks; given = ToLook part }

-- then a part of its block to read from disk
pub record GivesDisk (old : OpView) (disk : Mark) (part : Part) (new : OpView) : Type 0 where
  pub flown : old.tickets ≡ []
  pub filled : old.leaves ≡ 0
  pub looked : old.looks ≡ 0
  pub whole : old.failed ≡ 0
  pub disk_for : IsDiskFor old.reading part disk
  pub part_of : IsPartOf disk.size disk.block_size part
  pub loses : Loses old.disks disk new.disks
  pub rest : new ≡ record old { disks = new.disks; given = ToRead part }

-- and then the end
pub record GivesEnd (old new : OpView) : Type 0 where
  pub flown : old.tickets ≡ []
  pub filled : old.leaves ≡ 0
  pub looked : ((old.looks ≡ 0) × (old.disks ≡ [])) ⊎ (0 < old.failed)
  pub rest : new ≡ record old { given = ToEnd }

abbrev pub Gives : {W : Type 0} → OpView → Action W → OpView → Type 0
Gives old (Run ticket) new = GivesTicket old ticket new
Gives old (Direct leave) new = GivesLeave old leave new
Gives old (Look pin part) new = GivesPin old pin part new
Gives old (Disk disk part) new = GivesDisk old disk part new
Gives old Finish new = GivesEnd old new

-- a flight of its own ended
abbrev pub Supplies : OpView → Done → OpView → Type 0
Supplies old Landed new = new ≡ record old { given = Nothing }
Supplies old (Failed why) new = new ≡ record old { failed = old.failed + 1; met = first_met old.met why; given = Nothing }
