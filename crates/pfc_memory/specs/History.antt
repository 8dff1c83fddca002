-- How the calls of a device in memory are counted, and how they change what it holds.
use Rattle.std.specs.Prelude.{◌≡◌, ℕ, Bool, ◌||◌, [], ◌∷◌, ◌++◌, map, Option, Some, None, option_map, Result, IsOk, IsErr, is_err, IfOk, ◌↔◌, if◌then◌else◌}
use Rattle.pfc_base.specs.declared.memory.Memory.{Memory}
use Rattle.pfc_world.specs.Counts.{add_count}
use Rattle.pfc_world.specs.Run.{Run}
use Rattle.pfc_memory.specs.Numbers.{turn_of, reaches, fuse_of}
use Rattle.pfc_memory.specs.declared.numbers.Turn.{Turn}
use Rattle.pfc_memory.specs.declared.numbers.Turn.TheVariants.{Passes, Fails, Burnt}
use Rattle.pfc_memory.specs.declared.history.DeviceCalls.{DeviceCalls}
use Rattle.pfc_memory.specs.declared.history.History.{History}
use Rattle.pfc_memory.specs.declared.history.Sides.{Sides}

-- what became of the last call; None where it found no memory and was not made
abbrev pub turn_between : DeviceCalls → DeviceCalls → Option Turn
turn_between old new = option_map (turn_of old.burnt old.numbers) new.last

-- the device has met the fuse before, or by the call with this number
abbrev pub burnt_after : DeviceCalls → Option ℕ → Bool
burnt_after old None = old.burnt
burnt_after old (Some number) = old.burnt || reaches (fuse_of old.numbers) number

-- one more call was made
pub record Makes (old new : DeviceCalls) (turn : Turn) : Type 0 where
  pub numbers : new.numbers ≡ old.numbers
  pub turn_is : Some turn ≡ turn_between old new
  pub burnt : new.burnt ≡ burnt_after old new.last
  pub faults : new.faults ≡ old.faults

-- one more fault was counted
abbrev pub CountsFault : DeviceCalls → DeviceCalls → Type 0
CountsFault old new = new ≡ record old { faults = add_count old.faults 1 }

-- a call found no memory and was not made
abbrev pub Refuses : DeviceCalls → DeviceCalls → Type 0
Refuses old new = new ≡ record old { last = None; faults = add_count old.faults 1 }

-- One call of a device, which counts a fault exactly where it fails.
pub record Counts {T E : Type 0} (old new : DeviceCalls) (result : Result T E) : Type 0 where
  pub numbers : new.numbers ≡ old.numbers
  pub burnt : new.burnt ≡ burnt_after old new.last
  pub faults : new.faults ≡ (if is_err result then add_count old.faults 1 else old.faults)

-- a call that is made is Ok exactly where its number passes; one that isn't made never is
abbrev pub OkWherePasses : {T E : Type 0} → DeviceCalls → DeviceCalls → Result T E → Type 0
OkWherePasses old new result = IsOk result ↔ (turn_between old new ≡ Some Passes)

-- what was held is history
pub record Advances {S : Type 0} (old new : History S) (next : S) : Type 0 where
  pub now : new.now ≡ next
  pub past : new.past.items ≡ old.past.items ++ old.now ∷ []

-- nothing changed
pub record Stays {S : Type 0} (old new : History S) : Type 0 where
  pub now : new.now ≡ old.now
  pub past : new.past.items ≡ old.past.items

-- what a call does to what is held
pub record Steps {S : Type 0} (old new : History S) (before after : DeviceCalls) (sides : Result (Sides S) Memory) : Type 0 where
  pub passes : turn_between before after ≡ Some Passes → IfOk sides (λ each. Advances old new each.done)
  pub fails : turn_between before after ≡ Some Fails → IfOk sides (λ each. Advances old new each.doubtful)
  pub burnt : turn_between before after ≡ Some Burnt → Stays old new
  pub unmade : turn_between before after ≡ None → Stays old new
  pub none : IsErr sides → turn_between before after ≡ None

-- what a device holds and held, seen as
abbrev pub run_of : {S D : Type 0} → (S → D) → History S → Run D
run_of see history = record { now = see history.now; past = map see history.past.items }

-- What is so after a call that passes, and after one that fails. One that is burnt, or isn't made, changes nothing.
pub record Leaves {D : Type 0} (done failed : D → D → Type 0) (before after : DeviceCalls) (old new : Run D) : Type 0 where
  pub passes : turn_between before after ≡ Some Passes → done old.now new.now
  pub fails : turn_between before after ≡ Some Fails → failed old.now new.now
  pub burnt : turn_between before after ≡ Some Burnt → new ≡ old
  pub unmade : turn_between before after ≡ None → new ≡ old
