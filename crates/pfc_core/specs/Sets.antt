-- The blocks of a file that are on disk, as its core has them, and a store beside them.
use Rattle.std.specs.Prelude.{ℕ, ◌≡◌, ◌<◌, Bool, true, false, List, None, IsSome, length, slice_set}
use Rattle.pfc_base.specs.BlockSet.{is_member}
use Rattle.pfc_store.specs.Views.{StoreView}
use Rattle.pfc_core.specs.declared.loan.Did.{Did}
use Rattle.pfc_core.specs.declared.loan.Did.TheVariants.{Nothing, Wrote, Synced, Claimed, Broke}

-- those that can be read, those that no crash can take, those that the cinfo claims, and whether the store is frozen
pub record SetsView : Type 0 where
  pub stored : List Bool
  pub durable : List Bool
  pub claimed : List Bool
  pub frozen : Bool

pub record AreSets (stored durable claimed spare : List Bool) : Type 0 where
  pub durable_is : length durable ≡ length stored
  pub claimed_is : length claimed ≡ length stored
  pub spare_is : length spare ≡ length stored

-- the store did nothing that is to be entered: it has the blocks of these sets, or once it is frozen those that are durable
pub record FitsAsLent {D I : Type 0} (s : SetsView) (store : StoreView D I) : Type 0 where
  pub frozen_is : s.frozen ≡ true → IsSome store.frozen
  pub thawed_is : s.frozen ≡ false → store.frozen ≡ None
  pub written_is : s.frozen ≡ false → store.written ≡ s.stored

-- the store wrote a block that it hadn't
pub record FitsWritten {D I : Type 0} (s : SetsView) (store : StoreView D I) (i : ℕ) : Type 0 where
  pub thawed : s.frozen ≡ false
  pub working : store.frozen ≡ None
  pub low : i < length s.stored
  pub absent : is_member s.stored i ≡ false
  pub written_is : store.written ≡ slice_set s.stored i true

-- the store was synced, or its cinfo was put
pub record FitsTurned {D I : Type 0} (s : SetsView) (store : StoreView D I) : Type 0 where
  pub thawed : s.frozen ≡ false
  pub working : store.frozen ≡ None
  pub written_is : store.written ≡ s.stored

-- the store froze
pub record FitsBroken {D I : Type 0} (s : SetsView) (store : StoreView D I) : Type 0 where
  pub thawed : s.frozen ≡ false
  pub broken : IsSome store.frozen
  pub written_is : store.written ≡ s.stored

abbrev pub FitsDid : {D I : Type 0} → SetsView → StoreView D I → Did → Type 0
FitsDid s store Nothing = FitsAsLent s store
FitsDid s store (Wrote i) = FitsWritten s store i
FitsDid s store Synced = FitsTurned s store
FitsDid s store Claimed = FitsTurned s store
FitsDid s store Broke = FitsBroken s store

-- what no crash can take once a store did this, and what its cinfo claims
abbrev pub durable_by : SetsView → Did → List Bool
durable_by s Synced = s.stored
durable_by s _ = s.durable

abbrev pub claimed_by : SetsView → Did → List Bool
claimed_by s Claimed = s.durable
claimed_by s _ = s.claimed

pub record FitsDurable {D I : Type 0} (s : SetsView) (store : StoreView D I) (did : Did) : Type 0 where
  pub durable_is : store.durable ≡ durable_by s did
  pub claimed_is : store.claimed ≡ claimed_by s did

-- as the store was lent it had the blocks of these sets, and what it did since may be entered
pub record Fits {D I : Type 0} (s : SetsView) (store : StoreView D I) (did : Did) : Type 0 where
  pub bound : length store.written ≡ length s.stored
  pub safe : FitsDurable s store did
  pub did_is : FitsDid s store did
