-- How contracts see what stands beside a core, and what calls do to it.
use Rattle.std.specs.Prelude.{◌≡◌, ◌≢◌, ◌≤◌, ◌⊎◌, ◌+◌, ℕ, Bool, true, false, List, [], Option, Some, None, Result, Ok, Err, min}
use Rattle.pfc_world.specs.Counts.{Rose, last_count}
use Rattle.pfc_world.specs.Depot.{Fewer}
use Rattle.pfc_world.specs.Info.{Info, IsMain}
use Rattle.pfc_world.specs.Run.{Run}
use Rattle.pfc_store.specs.Views.{StoreView}
use Rattle.pfc_store.specs.declared.broken.ReadRefusal.{ReadRefusal}
use Rattle.pfc_store.specs.declared.broken.ReadRefusal.TheVariants as reading
use Rattle.pfc_core.specs.declared.loan.Did.{Did}
use Rattle.pfc_core.specs.declared.loan.Did.TheVariants as did
use Rattle.pfc_core.specs.Lending.{LendsFor, Gives}
use Rattle.pfc_core.specs.Loans.{Aim, LoanView, IsLoan}
use Rattle.pfc_core.specs.View.{CoreView}
use Rattle.pfc_actor.specs.declared.backing.Held.{Held}
use Rattle.pfc_actor.specs.declared.backing.Held.TheVariants as held
use Rattle.pfc_actor.specs.Backings.{BackingView, VolumeView, Stand, Bare, Taken, Open, Lent, ClaimsIn, IsMainIn, OpensFound, path_in}

abbrev pub stand_of : {W D I : Type 0} → Held W D I → Stand
stand_of held.Bare = Bare
stand_of (held.Taken volume) = Taken volume.path volume.size
stand_of (held.Open store) = Open store.path store.size store.block_size
stand_of (held.Lent loan) = Lent loan.mark loan.did

-- the counts of both devices
abbrev pub now_of : {W D I : Type 0} → (D → ℕ) → (I → ℕ) → Held W D I → ℕ × ℕ
now_of one two held.Bare = (0, 0)
now_of one two (held.Taken volume) = (one volume.first, two volume.second)
now_of one two (held.Open store) = (one store.first, two store.second)
now_of one two (held.Lent loan) = (one loan.store.first, two loan.store.second)

-- an info device, where it tells
abbrev pub told_by : Bool → Info → Option Info
told_by true info = Some info
told_by false info = None

-- that of what stands there
abbrev pub info_of : {W D I : Type 0} → Bool → (I → Run Info) → Held W D I → Option Info
info_of told shown held.Bare = None
info_of told shown (held.Taken volume) = told_by told (shown volume.second).now
info_of told shown (held.Open store) = told_by told (shown store.second).now
info_of told shown (held.Lent loan) = told_by told (shown loan.store.second).now

-- the blocks that the store has claimed
abbrev pub claimed_of : {W D I : Type 0} → Held W D I → List Bool
claimed_of held.Bare = []
claimed_of (held.Taken volume) = []
claimed_of (held.Open store) = store.claimed
claimed_of (held.Lent loan) = loan.store.claimed

-- those that are durable
abbrev pub durable_of : {W D I : Type 0} → Held W D I → List Bool
durable_of held.Bare = []
durable_of (held.Taken volume) = []
durable_of (held.Open store) = store.durable
durable_of (held.Lent loan) = loan.store.durable

-- with the counts as they were taken and the reads that are unspent
abbrev pub backing_of : {W D I : Type 0} → (D → ℕ) → (I → ℕ) → Bool → (I → Run Info) → Held W D I → ℕ × ℕ → ℕ → BackingView
backing_of one two told shown h before unspent = record { stand = stand_of h; before = before; now = now_of one two h; unspent = unspent; info = info_of told shown h; claimed = claimed_of h; durable = durable_of h }

-- the main files of a store that is open claim what they may
abbrev pub ClaimsRight : {W D I : Type 0} → Bool → (I → Run Info) → Held W D I → Type 0
ClaimsRight told shown h = (main : Option (List ℕ)) → IsMainIn (info_of told shown h) main → ClaimsIn (stand_of h) (claimed_of h) (durable_of h) main

-- the store that stood there is closed
abbrev pub Shuts : {W D I : Type 0} → Held W D I → Held W D I → Type 0
Shuts (held.Open store) (held.Taken volume) = (volume.path ≡ store.path) × (volume.size ≡ store.size) × (volume.first ≡ store.first) × (volume.second ≡ store.second)
Shuts (held.Open store) _ = ⊥
Shuts old new = new ≡ old

-- the volume that stood there was opened, or wasn't
abbrev pub OpensHeld : {W D I : Type 0} → Bool → (I → Run Info) → ℕ → Held W D I → Held W D I → Type 0
OpensHeld told shown k (held.Taken volume) h = OpensFound volume.size k (told_by told (shown volume.second).now) (info_of told shown h) (stand_of h) (claimed_of h) (durable_of h)
OpensHeld told shown k _ h = ⊥

-- a volume goes home to this path
pub record PutsVolume (path : List ℕ) (info : Info) (IsMainAt IsMainAt' : List ℕ → Option (List ℕ) → Type 0) : Type 0 where
  pub here : Fewer (IsMain info) (IsMainAt' path)
  pub elsewhere : (other : List ℕ) → other ≢ path → Fewer (IsMainAt other) (IsMainAt' other)

-- the file and the devices of what stands there
abbrev pub IsParted : {W D I : Type 0} → (D → ℕ) → (I → ℕ) → Bool → (I → Run Info) → Held W D I → Option (VolumeView D I) → Type 0
IsParted one two told shown h None = stand_of h ≡ Bare
IsParted one two told shown h (Some v) = (path_in (stand_of h) ≡ Some v.path) × (now_of one two h ≡ (one v.first, two v.second)) × (info_of told shown h ≡ told_by told (shown v.second).now)

-- the store is lent, for whatever it is
pub record LendsStore {D I : Type 0} (old : CoreView) (store : StoreView D I) (loan : LoanView D I) (new : CoreView) : Type 0 where
  pub aim : Aim
  pub for_turn : Bool
  pub lends : LendsFor aim for_turn old (Some store) loan new
  pub of : IsLoan loan.mark loan.store

-- the store that stood there is lent
abbrev pub LentBy : {W D I : Type 0} → CoreView → Held W D I → CoreView → Held W D I → Type 0
LentBy old (held.Open store) new (held.Lent loan) = LendsStore old store loan new
LentBy old _ new _ = ⊥

-- the loan that stood there is given back
abbrev pub GivenBy : {W D I : Type 0} → CoreView → Held W D I → CoreView → Held W D I → Type 0
GivenBy old (held.Lent loan) new (held.Open store) = Gives old loan new × IsLoan loan.mark loan.store × (store ≡ loan.store)
GivenBy old _ new _ = ⊥

-- a write that failed rose the count of its device
abbrev pub BreaksBy : ℕ → ℕ → Did → Type 0
BreaksBy before after did.Broke = Rose before after
BreaksBy before after _ = Unit {0}

-- what a write of block i did, if anything
abbrev pub WritesBlock : ℕ → Did → Type 0
WritesBlock i (did.Wrote j) = i ≡ j
WritesBlock i _ = Unit {0}

-- a write by a loan that did nothing yet
pub record WritesBy {D I : Type 0} (faults : D → ℕ) (old new : LoanView D I) : Type 0 where
  pub idle : old.did ≡ did.Nothing
  pub mark_is : new.mark ≡ old.mark
  pub second_is : new.store.second ≡ old.store.second
  pub rises : faults old.store.first ≤ faults new.store.first
  pub breaks : BreaksBy (faults old.store.first) (faults new.store.first) new.did

-- one more failed read is unspent where the device failed in it
abbrev pub Counted : ℕ → Option (Result Unit ReadRefusal) → ℕ → Type 0
Counted before None after = after ≡ before
Counted before (Some (Ok u)) after = after ≡ before
Counted before (Some (Err reading.Absent)) after = after ≡ before
Counted before (Some (Err (reading.Frozen broken))) after = after ≡ before
Counted before (Some (Err (reading.Device broken))) after = after ≡ min (before + 1) last_count

-- a sync or a put that failed rose the count of one of the devices
abbrev pub TurnBreaks : ℕ × ℕ → ℕ × ℕ → Did → Type 0
TurnBreaks before after did.Broke = Rose before.0 after.0 ⊎ Rose before.1 after.1
TurnBreaks before after (did.Wrote i) = ⊥
TurnBreaks before after _ = Unit {0}

-- a turn by a loan that did nothing yet
pub record TurnsBy {D I : Type 0} (faults : D → ℕ) (counts : I → ℕ) (old new : LoanView D I) : Type 0 where
  pub idle : old.did ≡ did.Nothing
  pub mark_is : new.mark ≡ old.mark
  pub first_rises : faults old.store.first ≤ faults new.store.first
  pub second_rises : counts old.store.second ≤ counts new.store.second
  pub breaks : TurnBreaks (faults old.store.first, counts old.store.second) (faults new.store.first, counts new.store.second) new.did
