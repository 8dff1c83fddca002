-- What a run has of a file's volume, beside the file's core, and of the depot.
use Rattle.std.specs.Prelude.{◌≡◌, ◌≢◌, ◌≤◌, ◌⊎◌, ℕ, ◌+◌, Bool, List, [], ◌∷◌, ◌++◌, Option, Some, None, IfSome, IsTrue, Contains, length, sum_by}
use Rattle.pfc_base.specs.Block.{count_of}
use Rattle.pfc_world.specs.Counts.{Rose, RoseBy, last_count, add_count}
use Rattle.pfc_world.specs.Depot.{AllSound, Fewer, Gains, Loses, risen}
use Rattle.pfc_world.specs.Files.{Files}
use Rattle.pfc_world.specs.Info.{Info, IsMain}
use Rattle.pfc_world.specs.declared.refusal.Refusal.{Refusal}
use Rattle.pfc_world.specs.declared.refusal.Refusal.TheVariants.{Fault, Memory}
use Rattle.pfc_log.specs.declared.entry.Entry.TheVariants.{Direct, Wrote}
use Rattle.pfc_log.specs.declared.entry.Way.TheVariants.{Device}
use Rattle.pfc_log.specs.Charges.{charges, is_there}
use Rattle.pfc_log.specs.Tallies.{tally}
use Rattle.pfc_log.specs.Waiting.{GrowsPlainly}
use Rattle.pfc_log.specs.Views.{times}
use Rattle.pfc_log.specs.Lawful.{IsCached}
use Rattle.pfc_core.specs.declared.loan.Did.{Did}
use Rattle.pfc_core.specs.declared.loan.Did.TheVariants as did
use Rattle.pfc_core.specs.Marks.{Mark, LoanKind}
use Rattle.pfc_actor.specs.declared.backing.Standing.{Standing}
use Rattle.pfc_actor.specs.declared.backing.Standing.TheVariants as standing
use Rattle.pfc_core.specs.View.{CoreView}
use Rattle.pfc_writer.specs.Writer.{Task, turned}
use Rattle.pfc_store.specs.Claims.{MainBetween}
use Rattle.pfc_report.specs.Restart.{ClaimsFound, IsLeft, StartsFound}

-- ---- a volume

-- the file and the two devices
pub record VolumeView (D I : Type 0) : Type 0 where
  pub path : List ℕ
  pub size : ℕ
  pub first : D
  pub second : I

-- Nothing; the volume of a file of this size, as it was taken; the store of a file, with its size and block size; or a loan of
-- it, with what that did.
pub data Stand : Type 0 where
  Bare : Stand
  Taken : (path : List ℕ) (size : ℕ) → Stand
  Open : (path : List ℕ) (size : ℕ) (block_size : ℕ) → Stand
  Lent : (mark : Mark) (done : Did) → Stand

-- what stands there, the counts of both devices as they were taken and as they are, how many reads failed whose direct reads
-- aren't entered yet, the info device, where it tells, and which blocks the store has claimed, and which are durable
pub record BackingView : Type 0 where
  pub stand : Stand
  pub before : ℕ × ℕ
  pub now : ℕ × ℕ
  pub unspent : ℕ
  pub info : Option Info
  pub claimed : List Bool
  pub durable : List Bool

abbrev pub bare : BackingView
bare = record { stand = Bare; before = (0, 0); now = (0, 0); unspent = 0; info = None; claimed = []; durable = [] }

-- the path of the volume, if there is one
abbrev pub path_in : Stand → Option (List ℕ)
path_in Bare = None
path_in (Taken path size) = Some path
path_in (Open path size k) = Some path
path_in (Lent mark done) = Some mark.path

-- a volume or a store, of which no loan is out
abbrev pub IsUnlent : Stand → Type 0
IsUnlent (Taken path size) = Unit {0}
IsUnlent (Open path size k) = Unit {0}
IsUnlent _ = ⊥

-- what stands there, by its kind alone
abbrev pub standing_of : Stand → Standing
standing_of Bare = standing.Bare
standing_of (Taken path size) = standing.Taken
standing_of (Open path size k) = standing.Open
standing_of (Lent mark done) = standing.Lent

-- the volume of a file of few enough blocks of k bytes
abbrev pub IsTaken : ℕ → Stand → Type 0
IsTaken k (Taken path size) = count_of size k ≤ 16777216
IsTaken k _ = ⊥

abbrev pub IsOpen : Stand → Type 0
IsOpen (Open path size k) = Unit {0}
IsOpen _ = ⊥

-- a loan that did nothing yet
abbrev pub IsLent : Stand → Type 0
IsLent (Lent mark done) = done ≡ did.Nothing
IsLent _ = ⊥

-- the loan that is out, weighed
abbrev pub loan_weight : (Mark → ℕ) → Stand → ℕ
loan_weight w (Lent mark done) = w mark
loan_weight w _ = 0

-- the block that a loan wrote, which isn't entered yet
abbrev pub written_in : Stand → Option ℕ
written_in (Lent mark (did.Wrote i)) = Some i
written_in _ = None

-- a failed write, sync or put that isn't entered yet
abbrev pub broken_in : Stand → ℕ
broken_in (Lent mark did.Broke) = 1
broken_in _ = 0

-- ---- beside its core

-- so many failed calls are covered by what the counts of the devices rose since the volume was taken, or by one that stands at
-- its last value
abbrev pub Covers : ℕ → BackingView → Type 0
Covers n b = (b.before.0 + b.before.1 + n ≤ b.now.0 + b.now.1) ⊎ ((last_count ≤ b.now.0) ⊎ (last_count ≤ b.now.1))

abbrev pub IsOfFile : List ℕ → ℕ → ℕ → CoreView → Type 0
IsOfFile path size k c = (path ≡ c.path) × (size ≡ c.size) × (k ≡ c.block_size)

abbrev pub StandsFor : Stand → CoreView → Type 0
StandsFor Bare c = Unit {0}
StandsFor (Taken path size) c = (path ≡ c.path) × (size ≡ c.size) × IsCached c.first
StandsFor (Open path size k) c = IsOfFile path size k c × IsCached c.first
StandsFor (Lent mark done) c = IsOfFile mark.path mark.size mark.block_size c × IsCached c.first × (mark.kind ≡ LoanKind)

abbrev pub HasCovered : Stand → ℕ → BackingView → Type 0
HasCovered Bare n b = Unit {0}
HasCovered _ n b = Covers n b

-- It is of the core's file, which is cached, and each failed call that the log shows is counted by its devices.
pub record IsBackingOf (c : CoreView) (b : BackingView) : Type 0 where
  pub stands : StandsFor b.stand c
  pub covered : HasCovered b.stand (charges c.first c.entries + broken_in b.stand + b.unspent) b

-- ---- the main file

-- it is one of the device's, where there is one
abbrev pub IsMainIn : Option Info → Option (List ℕ) → Type 0
IsMainIn None main = ⊥
IsMainIn (Some info) main = IsMain info main

-- Each main file of a device that tells is left of the one that was found.
abbrev pub AreLeft : ℕ → ℕ → Option (List ℕ) → Option Info → Type 0
AreLeft size k found None = ⊥
AreLeft size k found (Some info) = (main : Option (List ℕ)) → IsMain info main → IsLeft size k found main

-- each is one of those that were home
abbrev pub AreFromHome : (Option (List ℕ) → Type 0) → Option Info → Type 0
AreFromHome IsHome None = ⊥
AreFromHome IsHome (Some info) = Fewer IsHome (IsMain info)

-- A volume that was only taken has what is left of the main file that was found, if one alone was. With that the log starts whose
-- store is open, and the store has the core's blocks.
abbrev pub FollowsIn : Stand → ℕ → ℕ → Option (Option (List ℕ)) → CoreView → BackingView → Type 0
FollowsIn Bare size k found c b = Unit {0}
FollowsIn (Taken path n) size k found c b = IfSome found (λ main. AreLeft size k main b.info)
FollowsIn (Open path n j) size k found c b = IfSome found (λ main. StartsFound size k main c.first) × (b.claimed ≡ c.claimed) × (b.durable ≡ c.durable)
FollowsIn (Lent mark done) size k found c b = IfSome found (λ main. StartsFound size k main c.first)

abbrev pub Follows : ℕ → ℕ → Option (Option (List ℕ)) → CoreView → BackingView → Type 0
Follows size k found c b = FollowsIn b.stand size k found c b

-- A volume was opened, or wasn't: the main files are left of what was found, and the store, if there is one, starts with that.
pub record OpensFound (size k : ℕ) (info info2 : Option Info) (stand : Stand) (claimed durable : List Bool) : Type 0 where
  pub left : (found : Option (List ℕ)) → AreLeft size k found info → AreLeft size k found info2
  pub starts : IsOpen stand → (found : Option (List ℕ)) → AreLeft size k found info → ClaimsFound size k found claimed
  pub durable_is : durable ≡ claimed

-- so it was with the volume that stood there
abbrev pub OpensTaken : Stand → ℕ → Option Info → BackingView → Type 0
OpensTaken (Taken path size) k info b = OpensFound size k info b.info b.stand b.claimed b.durable
OpensTaken _ k info b = ⊥

-- A main file of a store that is open claims what was claimed, and no more than is durable.
abbrev pub ClaimsIn : Stand → List Bool → List Bool → Option (List ℕ) → Type 0
ClaimsIn (Open path size k) claimed durable main = MainBetween size k claimed durable main
ClaimsIn _ claimed durable main = Unit {0}

-- ---- the depot

-- each main file that is home was home before
abbrev pub FewerMains : (List ℕ → Option (List ℕ) → Type 0) → (List ℕ → Option (List ℕ) → Type 0) → Type 0
FewerMains IsMain IsMain' = (path : List ℕ) → Fewer (IsMain path) (IsMain' path)

-- so it is elsewhere, and those of this path are the device's
pub record PutsMain (path : List ℕ) (b : BackingView) (IsMain IsMain' : List ℕ → Option (List ℕ) → Type 0) : Type 0 where
  pub here : (main : Option (List ℕ)) → IsMain' path main → IsMainIn b.info main × ClaimsIn b.stand b.claimed b.durable main
  pub elsewhere : (other : List ℕ) → other ≢ path → Fewer (IsMain other) (IsMain' other)

-- where a volume stands there, it goes home
abbrev pub PutsMains : Option (List ℕ) → BackingView → (List ℕ → Option (List ℕ) → Type 0) → (List ℕ → Option (List ℕ) → Type 0) → Type 0
PutsMains None b IsMain IsMain' = FewerMains IsMain IsMain'
PutsMains (Some path) b IsMain IsMain' = PutsMain path b IsMain IsMain'

pub record DepotView : Type 0 where
  pub out : List (List ℕ)
  pub lent : List ℕ → ℕ × ℕ
  pub faults : ℕ

abbrev pub depot_of : {P : Type 0} → (P → List (List ℕ)) → (P → List ℕ → ℕ × ℕ) → (P → ℕ) → P → DepotView
depot_of out lent faults depot = record { out = out depot; lent = lent depot; faults = faults depot }

-- each volume that is home is sound
abbrev pub IsSoundAtHome : Bool → Bool → Files → (List ℕ → List ℕ → Type 0) → (List ℕ → Option (List ℕ) → Type 0) → Type 0
IsSoundAtHome told told_data files IsData IsMain = IsTrue told → IsTrue told_data → (path : List ℕ) → AllSound files path (IsData path) (IsMain path)

-- a path's volume is taken from the depot
pub record TakesVolume (path : List ℕ) (size : ℕ) (new : BackingView) (d d2 : DepotView) : Type 0 where
  pub stand_is : new.stand ≡ Taken path size
  pub before_is : new.before ≡ d2.lent path
  pub now_is : new.now ≡ new.before
  pub unspent_is : new.unspent ≡ 0
  pub gains : Gains path d.out d2.out
  pub elsewhere : (other : List ℕ) → other ≢ path → d2.lent other ≡ d.lent other

-- the depot has the same volumes out
pub record StaysOut (d d2 : DepotView) : Type 0 where
  pub out_is : d2.out ≡ d.out
  pub lent_is : (path : List ℕ) → d2.lent path ≡ d.lent path

-- a volume that was out is home again, and the depot counts each failed call that its backing covers
pub record ReturnsVolume (path : List ℕ) (b : BackingView) (d d2 : DepotView) : Type 0 where
  pub loses : Loses path d.out d2.out
  pub elsewhere : (other : List ℕ) → other ≢ path → d2.lent other ≡ d.lent other
  pub faults_are : d2.faults ≡ add_count d.faults (risen b.before b.now.0 b.now.1)
  pub covers : (n : ℕ) → Covers n b → RoseBy d.faults n d2.faults

abbrev pub PutsBack : Option (List ℕ) → BackingView → DepotView → DepotView → Type 0
PutsBack None b d d2 = StaysOut d d2 × (d2.faults ≡ d.faults)
PutsBack (Some path) b d d2 = ReturnsVolume path b d d2

-- the volume that stands there is out
abbrev pub IsOutAs : Option (List ℕ) → BackingView → DepotView → Type 0
IsOutAs None b d = Unit {0}
IsOutAs (Some path) b d = Contains d.out path × (d.lent path ≡ b.before)

-- the store of the volume that was taken, in blocks of k bytes
abbrev pub Opens : ℕ → Stand → Stand → Type 0
Opens k (Taken path size) new = new ≡ Open path size k
Opens k _ new = ⊥

-- a set of the blocks of the store's file
abbrev pub StartsWith : List Bool → Stand → Type 0
StartsWith set (Open path size k) = length set ≡ count_of size k
StartsWith set _ = ⊥

-- the volume of a store that was open
abbrev pub shut_stand : Stand → Stand
shut_stand (Open path size k) = Taken path size
shut_stand stand = stand

-- no count of the devices fell
abbrev pub Later : ℕ × ℕ → ℕ × ℕ → Type 0
Later old new = (old.0 ≤ new.0) × (old.1 ≤ new.1)

-- a fault came only where the count of one of the devices rose
abbrev pub OpensBy : ℕ × ℕ → ℕ × ℕ → Refusal → Type 0
OpensBy old new Fault = Rose old.0 new.0 ⊎ Rose old.1 new.1
OpensBy old new Memory = Unit {0}

-- ---- what the calls keep

-- the backing of a core goes on by itself
pub record KeepsBacking (b b2 : BackingView) : Type 0 where
  pub loan : (w : Mark → ℕ) → loan_weight w b2.stand ≡ loan_weight w b.stand
  pub path : path_in b2.stand ≡ path_in b.stand
  pub before : b2.before ≡ b.before
  pub backed : (c : CoreView) → IsBackingOf c b → IsBackingOf c b2
  pub follows : (size k : ℕ) (found : Option (Option (List ℕ))) (c : CoreView) → Follows size k found c b → Follows size k found c b2

-- a writer had its turn: what the loan wrote, if anything, is the block of its job
pub record WroteFor (x : Option Task) (b2 : BackingView) (x2 : Option Task) : Type 0 where
  pub task : Task
  pub was : x ≡ Some task
  pub is : x2 ≡ Some (turned task)
  pub written : IfSome (written_in b2.stand) (λ i. task.job.block ≡ i)

-- the log of a loan that comes back: a block was written, or none was written or dropped
abbrev pub EntersBy : Option ℕ → CoreView → CoreView → Type 0
EntersBy None c c2 = GrowsPlainly c.entries c2.entries
EntersBy (Some i) c c2 = (c2 ≡ c) ⊎ (c2.entries ≡ c.entries ++ Wrote i ∷ [])

-- the store of a core is lent, or comes back with what was done
pub record LoanStep (c : CoreView) (b : BackingView) (c2 : CoreView) (b2 : BackingView) : Type 0 where
  pub tokens : (w : Mark → ℕ) → sum_by w c2.out + loan_weight w b.stand ≡ sum_by w c.out + loan_weight w b2.stand
  pub home : c2 ≡ record c { entries = c2.entries; out = c2.out; stored = c2.stored; durable = c2.durable; claimed = c2.claimed }
  pub tallies : (n : ℕ) → tally n c2.entries ≡ tally n c.entries
  pub theres : times is_there c2.entries ≡ times is_there c.entries
  pub path : path_in b2.stand ≡ path_in b.stand
  pub before : b2.before ≡ b.before
  pub backed : IsBackingOf c b → IsBackingOf c2 b2
  pub follows : (size k : ℕ) (found : Option (Option (List ℕ))) → Follows size k found c b → Follows size k found c2 b2
  pub charges : b.stand ≡ Bare → charges c2.first c2.entries ≡ charges c.first c.entries
  pub enters : EntersBy (written_in b.stand) c c2
  pub written : IfSome (written_in b2.stand) (λ i. (written_in b.stand ≡ Some i) × (c2 ≡ c))

-- A direct read of block i for a client may be entered, since a failed call stands for it, or none is owed. Where the volume is
-- home none is owed.
pub record AllowsLeave (i : ℕ) (c : CoreView) (b b2 : BackingView) : Type 0 where
  pub stand_is : b2.stand ≡ b.stand
  pub before_is : b2.before ≡ b.before
  pub backed : (n : ℕ) (c2 : CoreView) → c2 ≡ record c { entries = c2.entries; out = c2.out; access = c2.access } → c2.entries ≡ c.entries ++ Direct i n Device ∷ [] → IsBackingOf c b → IsBackingOf c2 b2
  pub follows : (size k : ℕ) (found : Option (Option (List ℕ))) → Follows size k found c b → Follows size k found c b2
  pub charges : b.stand ≡ Bare → (n : ℕ) → charges c.first (c.entries ++ Direct i n Device ∷ []) ≡ charges c.first c.entries
