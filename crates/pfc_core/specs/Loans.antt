-- What contracts see of a loan, and what its calls do.
use Rattle.std.specs.Prelude.{◌≡◌, ◌≤◌, ℕ, Bool, Result, Ok, Err, Option, Some, None, OnOk, IsTrue, List}
use Rattle.pfc_world.specs.Disk.{Disk}
use Rattle.pfc_base.specs.Cinfo.{Head}
use Rattle.pfc_store.specs.Claims.{Says}
use Rattle.pfc_world.specs.Info.{Info, IsMain}
use Rattle.pfc_world.specs.Run.{Run}
use Rattle.pfc_world.specs.Files.{Files}
use Rattle.pfc_store.specs.declared.broken.Put.{Put}
use Rattle.pfc_store.specs.declared.broken.Put.TheVariants as put
use Rattle.pfc_store.specs.declared.broken.ReadRefusal.{ReadRefusal}
use Rattle.pfc_store.specs.declared.broken.WriteRefusal.{WriteRefusal}
use Rattle.pfc_store.specs.declared.broken.WriteRefusal.TheVariants as writing
use Rattle.pfc_store.specs.declared.broken.SyncRefusal.{SyncRefusal}
use Rattle.pfc_store.specs.declared.broken.SyncRefusal.TheVariants as syncing
use Rattle.pfc_store.specs.declared.broken.InfoPutRefusal.{InfoPutRefusal}
use Rattle.pfc_store.specs.declared.broken.InfoPutRefusal.TheVariants as putting
use Rattle.pfc_store.specs.Data.{Reads, Writes, Syncs}
use Rattle.pfc_store.specs.Info.{Puts}
use Rattle.pfc_store.specs.Moments.{StaysSound}
use Rattle.pfc_store.specs.Store.{data_side, info_side, with_data, with_info}
use Rattle.pfc_store.specs.Views.{StoreView}
use Rattle.pfc_core.specs.declared.loan.Did.{Did}
use Rattle.pfc_core.specs.declared.loan.Did.TheVariants as did
use Rattle.pfc_core.specs.declared.loan.Purpose.{Purpose}
use Rattle.pfc_core.specs.declared.loan.Purpose.TheVariants as purpose
use Rattle.pfc_core.specs.declared.loan.Turn.{Turn}
use Rattle.pfc_core.specs.declared.loan.Turn.TheVariants as turn
use Rattle.pfc_core.specs.Marks.{Mark}

-- what a loan is for: reads and one write, a sync, or the put of a cinfo with this head
pub data Aim : Type 0 where
  ForBlocks : Aim
  ForSync : Aim
  ForPut : (head : Head) → Aim

abbrev pub aim_of : Purpose → Aim
aim_of purpose.Blocks = ForBlocks
aim_of purpose.Sync = ForSync
aim_of (purpose.Put head) = ForPut head

abbrev pub turn_of : Aim → Option Turn
turn_of ForBlocks = None
turn_of ForSync = Some turn.Data
turn_of (ForPut head) = Some turn.Info

abbrev pub IsSync : Aim → Type 0
IsSync ForSync = Unit {0}
IsSync _ = ⊥

abbrev pub IsPut : Aim → Type 0
IsPut (ForPut head) = Unit {0}
IsPut _ = ⊥

-- the loan's mark, the store, what it is for, and what it did that is to be entered
pub record LoanView (D I : Type 0) : Type 0 where
  pub mark : Mark
  pub store : StoreView D I
  pub aim : Aim
  pub did : Did

-- whether it was lent for a turn, as the mark says
abbrev pub IsForTurn : Mark → Type 0
IsForTurn m = m.owner ≡ 1

-- a sync and a put are of a turn's loan
abbrev pub IsAimed : Mark → Aim → Type 0
IsAimed m ForBlocks = Unit {0}
IsAimed m ForSync = IsForTurn m
IsAimed m (ForPut head) = IsForTurn m

abbrev pub IsOfTurn : Mark → Did → Type 0
IsOfTurn m did.Synced = IsForTurn m
IsOfTurn m did.Claimed = IsForTurn m
IsOfTurn m _ = Unit {0}

-- the store is of the mark's file
pub record IsLoan {D I : Type 0} (mark : Mark) (store : StoreView D I) : Type 0 where
  pub path_is : mark.path ≡ store.path
  pub size_is : mark.size ≡ store.size
  pub block_size_is : mark.block_size ≡ store.block_size

-- the store is of the mark's file, and what the loan is for and did is as the mark says
pub record IsWhole {D I : Type 0} (mark : Mark) (store : StoreView D I) (aim : Aim) (d : Did) : Type 0 where
  pub file : IsLoan mark store
  pub aimed : IsAimed mark aim
  pub done : IsOfTurn mark d

-- a read of the store that was lent
pub record ReadsLent {D I : Type 0} (told : Bool) (files : Files) (told_data told_info : Bool) (faults : D → ℕ) (seen : D → Run Disk) (shown : I → Run Info) (old : LoanView D I) (i : ℕ) (result : Result Unit ReadRefusal) (new : LoanView D I) : Type 0 where
  pub reads : Reads faults (data_side old.store) i result (data_side new.store)
  pub rest : new ≡ record old { store = with_data old.store (data_side new.store) }
  pub moments : StaysSound told files told_data told_info seen shown old.store new.store
  pub rising : faults old.store.first ≤ faults new.store.first

-- a read of some block of it
pub record IsRead {D I : Type 0} (told : Bool) (files : Files) (told_data told_info : Bool) (faults : D → ℕ) (seen : D → Run Disk) (shown : I → Run Info) (old : LoanView D I) (result : Result Unit ReadRefusal) (new : LoanView D I) : Type 0 where
  pub block : ℕ
  pub reads : ReadsLent told files told_data told_info faults seen shown old block result new

-- what a write did that is to be entered
abbrev pub did_by : ℕ → Result Put WriteRefusal → Did
did_by i (Ok put.Wrote) = did.Wrote i
did_by i (Ok put.AlreadyThere) = did.Nothing
did_by i (Err (writing.Frozen broken)) = did.Nothing
did_by i (Err (writing.Device broken)) = did.Broke

-- a write of block i to the store that was lent
pub record WritesLent {D I : Type 0} (told : Bool) (files : Files) (told_data told_info : Bool) (faults : D → ℕ) (seen : D → Run Disk) (shown : I → Run Info) (old : LoanView D I) (i : ℕ) (result : Result Put WriteRefusal) (new : LoanView D I) : Type 0 where
  pub writes : Writes faults (data_side old.store) i result (data_side new.store)
  pub rest : new ≡ record old { store = with_data old.store (data_side new.store); did = did_by i result }
  pub moments : StaysSound told files told_data told_info seen shown old.store new.store
  pub rising : faults old.store.first ≤ faults new.store.first

-- what a sync did that is to be entered
abbrev pub did_sync : Result Unit SyncRefusal → Did
did_sync (Ok u) = did.Synced
did_sync (Err (syncing.Frozen broken)) = did.Nothing
did_sync (Err (syncing.Device broken)) = did.Broke

-- a sync of the store that was lent
pub record SyncsLent {D I : Type 0} (told : Bool) (files : Files) (told_data told_info : Bool) (faults : D → ℕ) (seen : D → Run Disk) (shown : I → Run Info) (old : LoanView D I) (result : Result Unit SyncRefusal) (new : LoanView D I) : Type 0 where
  pub syncs : Syncs faults (data_side old.store) result (data_side new.store)
  pub rest : new ≡ record old { store = with_data old.store (data_side new.store); did = did_sync result }
  pub moments : StaysSound told files told_data told_info seen shown old.store new.store
  pub rising : faults old.store.first ≤ faults new.store.first

-- what a put did that is to be entered
abbrev pub did_put : Result Unit InfoPutRefusal → Did
did_put (Ok u) = did.Claimed
did_put (Err putting.Memory) = did.Nothing
did_put (Err (putting.Frozen broken)) = did.Nothing
did_put (Err (putting.Device broken)) = did.Broke

-- every main file says this, or there is none
abbrev pub SaysPut : {D I : Type 0} → Bool → (I → Run Info) → Aim → StoreView D I → StoreView D I → Type 0
SaysPut told shown (ForPut head) old new = IsTrue told → (main : Option (List ℕ)) → IsMain (shown new.second).now main → Says main (record { block = old.block_size; size = old.size; head = head; claims = old.durable })
SaysPut told shown _ old new = Unit {0}

-- a put to the store that was lent
pub record PutsLent {D I : Type 0} (told : Bool) (files : Files) (told_data told_info : Bool) (faults : I → ℕ) (seen : D → Run Disk) (shown : I → Run Info) (old : LoanView D I) (result : Result Unit InfoPutRefusal) (new : LoanView D I) : Type 0 where
  pub puts : Puts faults (info_side old.store) result (info_side new.store)
  pub rest : new ≡ record old { store = with_info old.store (info_side new.store); did = did_put result }
  pub claims : OnOk result (SaysPut told_info shown old.aim old.store new.store)
  pub moments : StaysSound told files told_data told_info seen shown old.store new.store
  pub rising : faults old.store.second ≤ faults new.store.second
