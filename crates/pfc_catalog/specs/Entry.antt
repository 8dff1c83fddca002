-- What is known of one file, and how each call changes it.
use Rattle.std.specs.Prelude.{◌≡◌, ℕ, ◌+◌, ◌-◌, ◌^◌, min, nat_lt, ◌&&◌, Bool, true, false, not, if◌then◌else◌, Option, Some, None, unwrap_or}
use Rattle.pfc_catalog.specs.declared.entry.State.{State}
use Rattle.pfc_catalog.specs.declared.entry.State.TheVariants.{Home, Opening, Live, Away, Victim}
use Rattle.pfc_catalog.specs.declared.entry.Entry.{Entry}

-- a number stays at 2 ^ 64 - 1
abbrev pub capped : ℕ → ℕ
capped n = min n (2 ^ 64 - 1)

-- a file that nobody asked for before
abbrev pub fresh : Entry
fresh = record { state = Home; usage = 0; last = 0; marked = false }

-- a file that was found on disk
abbrev pub known_entry : ℕ → ℕ → Bool → Entry
known_entry usage last marked = record { state = Home; usage = usage; last = last; marked = marked }

-- nobody holds the file
abbrev pub is_home : State → Bool
is_home Home = true
is_home (Opening shell instance) = false
is_home (Live shell instance count) = false
is_home (Away shell instance) = false
is_home Victim = false

-- who wants the file has to wait
abbrev pub is_busy : State → Bool
is_busy Home = false
is_busy (Opening shell instance) = true
is_busy (Live shell instance count) = false
is_busy (Away shell instance) = true
is_busy Victim = true

-- the shell that the file holds
abbrev pub shell_of : State → Option ℕ
shell_of Home = None
shell_of (Opening shell instance) = Some shell
shell_of (Live shell instance count) = Some shell
shell_of (Away shell instance) = Some shell
shell_of Victim = None

-- where an open file is, and one that is on its way home: its shell and its instance
abbrev pub place_of : State → Option (ℕ × ℕ)
place_of Home = None
place_of (Opening shell instance) = None
place_of (Live shell instance count) = Some (shell, instance)
place_of (Away shell instance) = Some (shell, instance)
place_of Victim = None

-- the shell in which it is open
abbrev pub live_shell : State → Option ℕ
live_shell Home = None
live_shell (Opening shell instance) = None
live_shell (Live shell instance count) = Some shell
live_shell (Away shell instance) = None
live_shell Victim = None

-- a purge may take it
abbrev pub is_candidate : Entry → Bool
is_candidate e = is_home e.state && (not e.marked && nat_lt 0 e.usage)

abbrev pub with_state : State → Entry → Entry
with_state s e = record e { state = s }

-- it is open now, with one descriptor
abbrev opened_as : Option ℕ → State → Entry → Option Entry
opened_as usage Home e = None
opened_as usage (Opening shell instance) e = Some (record e { state = Live shell instance 1; usage = unwrap_or usage e.usage })
opened_as usage (Live shell instance count) e = None
opened_as usage (Away shell instance) e = None
opened_as usage Victim e = None

abbrev pub opened : Option ℕ → Entry → Option Entry
opened usage e = opened_as usage e.state e

-- it isn't opened after all
abbrev abandoned_as : State → Entry → Option Entry
abandoned_as Home e = None
abandoned_as (Opening shell instance) e = Some (with_state Home e)
abandoned_as (Live shell instance count) e = None
abandoned_as (Away shell instance) e = None
abandoned_as Victim e = None

abbrev pub abandoned : Entry → Option Entry
abandoned e = abandoned_as e.state e

-- one descriptor less
abbrev closed_as : State → Entry → Option Entry
closed_as Home e = None
closed_as (Opening shell instance) e = None
closed_as (Live shell instance count) e = if nat_lt 0 count then Some (with_state (Live shell instance (count - 1)) e) else None
closed_as (Away shell instance) e = None
closed_as Victim e = None

abbrev pub closed : Entry → Option Entry
closed e = closed_as e.state e

-- it has no descriptor any more, and is on its way home
abbrev sent_as : State → Entry → Option Entry
sent_as Home e = None
sent_as (Opening shell instance) e = None
sent_as (Live shell instance count) e = if nat_lt 0 count then None else Some (with_state (Away shell instance) e)
sent_as (Away shell instance) e = None
sent_as Victim e = None

abbrev pub sent : Entry → Option Entry
sent e = sent_as e.state e

-- what was found on its disk: usage and last access
abbrev found_on : Option (ℕ × ℕ) → Entry → Entry
found_on None e = e
found_on (Some f) e = record e { usage = f.0; last = f.1 }

-- it came home
abbrev homed_as : Option (ℕ × ℕ) → State → Entry → Option Entry
homed_as found Home e = None
homed_as found (Opening shell instance) e = None
homed_as found (Live shell instance count) e = None
homed_as found (Away shell instance) e = Some (with_state Home (found_on found e))
homed_as found Victim e = None

abbrev pub homed : Option (ℕ × ℕ) → Entry → Option Entry
homed found e = homed_as found e.state e

-- an open file takes so many bytes more
abbrev grown_as : ℕ → State → Entry → Option Entry
grown_as bytes Home e = None
grown_as bytes (Opening shell instance) e = None
grown_as bytes (Live shell instance count) e = Some (record e { usage = capped (e.usage + bytes) })
grown_as bytes (Away shell instance) e = None
grown_as bytes Victim e = None

abbrev pub grown : ℕ → Entry → Option Entry
grown bytes e = grown_as bytes e.state e

-- what a purge took was removed
abbrev gone_as : State → Entry → Option Entry
gone_as Home e = None
gone_as (Opening shell instance) e = None
gone_as (Live shell instance count) e = None
gone_as (Away shell instance) e = None
gone_as Victim e = Some (record e { state = Home; usage = 0 })

abbrev pub gone : Entry → Option Entry
gone e = gone_as e.state e

-- what a purge took couldn't be removed
abbrev kept_as : State → Entry → Option Entry
kept_as Home e = None
kept_as (Opening shell instance) e = None
kept_as (Live shell instance count) e = None
kept_as (Away shell instance) e = None
kept_as Victim e = Some (record e { state = Home; marked = true })

abbrev pub kept : Entry → Option Entry
kept e = kept_as e.state e

-- it holds no shell but the one that it held
abbrev pub HoldsNoOther : Entry → Entry → Type 0
HoldsNoOther was is = (s : ℕ) → shell_of is.state ≡ Some s → shell_of was.state ≡ Some s
