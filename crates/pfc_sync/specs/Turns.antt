-- What the turn does for which a store was lent.
use Rattle.std.specs.Prelude.{◌≡◌, ◌⊎◌, ℕ, Bool, false, Result}
use Rattle.std.specs.Result.{is_ok}
use Rattle.pfc_world.specs.Disk.{Disk}
use Rattle.pfc_world.specs.Files.{Files}
use Rattle.pfc_world.specs.Info.{Info}
use Rattle.pfc_world.specs.Run.{Run}
use Rattle.pfc_store.specs.declared.broken.SyncRefusal.{SyncRefusal}
use Rattle.pfc_store.specs.declared.broken.InfoPutRefusal.{InfoPutRefusal}
use Rattle.pfc_core.specs.declared.loan.Did.TheVariants as did
use Rattle.pfc_core.specs.Loans.{ForBlocks, IsPut, IsSync, LoanView, SyncsLent, PutsLent}

-- a sync of the data
pub record Syncs {D I : Type 0} (told : Bool) (files : Files) (told_data told_info : Bool) (faults : D → ℕ) (seen : D → Run Disk) (shown : I → Run Info) (old : LoanView D I) (done : Bool) (new : LoanView D I) : Type 0 where
  pub aim : IsSync old.aim
  pub idle : old.did ≡ did.Nothing
  pub answer : Result Unit SyncRefusal
  pub done_is : done ≡ is_ok answer
  pub syncs : SyncsLent told files told_data told_info faults seen shown old answer new

-- a put of the cinfo
pub record Puts {D I : Type 0} (told : Bool) (files : Files) (told_data told_info : Bool) (counts : I → ℕ) (seen : D → Run Disk) (shown : I → Run Info) (old : LoanView D I) (done : Bool) (new : LoanView D I) : Type 0 where
  pub aim : IsPut old.aim
  pub idle : old.did ≡ did.Nothing
  pub answer : Result Unit InfoPutRefusal
  pub done_is : done ≡ is_ok answer
  pub puts : PutsLent told files told_data told_info counts seen shown old answer new

-- nothing, of a loan that did something already or was lent for no turn
pub record Rests {D I : Type 0} (old : LoanView D I) (done : Bool) (new : LoanView D I) : Type 0 where
  pub spent : (old.did ≡ did.Nothing → ⊥) ⊎ (old.aim ≡ ForBlocks)
  pub done_is : done ≡ false
  pub same : new ≡ old

abbrev pub TakesTurn : {D I : Type 0} → Bool → Files → Bool → Bool → (D → ℕ) → (I → ℕ) → (D → Run Disk) → (I → Run Info) → LoanView D I → Bool → LoanView D I → Type 0
TakesTurn told files told_data told_info faults counts seen shown old done new = Syncs told files told_data told_info faults seen shown old done new ⊎ (Puts told files told_data told_info counts seen shown old done new ⊎ Rests old done new)
