-- What opening a store makes of a volume.
use Rattle.std.specs.Prelude.{◌≡◌, ◌≤◌, ◌⊎◌, ℕ, Bool, false, List, [], Option, Result, Ok, Err, replicate}
use Rattle.pfc_base.specs.Block.{count_of}
use Rattle.pfc_base.specs.Cinfo.{Cinfo, Head}
use Rattle.pfc_world.specs.Info.{Info, IsMain}
use Rattle.pfc_store.specs.declared.open.OpenRefusal.{OpenRefusal}
use Rattle.pfc_store.specs.declared.open.OpenRefusal.TheVariants.{Device, Memory}
use Rattle.pfc_store.specs.Claims.{Says}
use Rattle.pfc_store.specs.Views.{StoreView}
use Rattle.pfc_store.specs.Volume.{IsGone, BreaksIn}

-- a main file to be kept: a cinfo of this size and block size
abbrev pub IsOurs : ℕ → ℕ → Option (List ℕ) → Type 0
IsOurs size k main = (c : Cinfo) × Says main c × (c.size ≡ size) × (c.block ≡ k)

-- The main file that was shown is the only one, and the store starts with what it says.
pub record IsKept (size k : ℕ) (shown : Option (List ℕ)) (head : Head) (claims : List Bool) (info : Info) : Type 0 where
  pub says : Says shown (record { block = k; size = size; head = head; claims = claims })
  pub only : (main : Option (List ℕ)) → IsMain info main → main ≡ shown

-- What was shown wasn't to be kept. There is no main file now, and the store starts empty.
pub record IsFresh (size k created : ℕ) (shown : Option (List ℕ)) (head : Head) (claims : List Bool) (info : Info) : Type 0 where
  pub unfit : ¬ IsOurs size k shown
  pub head_is : head ≡ record { created = created; accesses = 0; records = [] }
  pub claims_is : claims ≡ replicate (count_of size k) false
  pub gone : IsGone info

abbrev pub Restarts : ℕ → ℕ → ℕ → Option (List ℕ) → Head → List Bool → Info → Type 0
Restarts size k created shown head claims info = IsKept size k shown head claims info ⊎ IsFresh size k created shown head claims info

-- the devices that come back
abbrev pub devices_of : {D I : Type 0} → Result (StoreView D I) (OpenRefusal D I) → D × I
devices_of (Ok store) = (store.first, store.second)
devices_of (Err (Device first second broken)) = (first, second)
devices_of (Err (Memory first second)) = (first, second)

-- counts never fall, and a failure came only where that of one device rose
abbrev pub OpenCause : {D I : Type 0} → (D → ℕ) → (I → ℕ) → D → I → Result (StoreView D I) (OpenRefusal D I) → Type 0
OpenCause data_faults info_faults first second (Ok store) = (data_faults first ≤ data_faults store.first) × (info_faults second ≤ info_faults store.second)
OpenCause data_faults info_faults first second (Err (Device first_now second_now broken)) =
    (data_faults first ≤ data_faults first_now) × (info_faults second ≤ info_faults second_now)
    × (BreaksIn (data_faults first) (data_faults first_now) broken ⊎ BreaksIn (info_faults second) (info_faults second_now) broken)
OpenCause data_faults info_faults first second (Err (Memory first_now second_now)) = (data_faults first ≤ data_faults first_now) × (info_faults second ≤ info_faults second_now)
