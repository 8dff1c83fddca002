-- What one client did, by a log.
use Rattle.std.specs.Prelude.{ℕ, ◌+◌, ◌==◌, Bool, false, List, Option, Some, None, slice_get, sum_by, if◌then◌else◌}
use Rattle.pfc_log.specs.declared.entry.Entry.{Entry}
use Rattle.pfc_log.specs.declared.entry.Entry.TheVariants as e
use Rattle.pfc_log.specs.Views.{times, is_opened}
use Rattle.pfc_log.specs.Owners.{is_landed_of, is_fault_of, is_want_of, landed_of, faults_of, wants_of}

-- How often it opened the file. How many reads ended with data, and their bytes by where they came from. How often it
-- found a block in memory or on disk, asked for a flight of one, and read from the origin itself. How its flights ended:
-- landed, failed by a fault, failed for want of memory.
pub record Tally : Type 0 where
  pub opened : ℕ
  pub served : ℕ
  pub hit : ℕ
  pub missed : ℕ
  pub bypassed : ℕ
  pub hits : ℕ
  pub waits : ℕ
  pub directs : ℕ
  pub landed : ℕ
  pub faults : ℕ
  pub wants : ℕ

abbrev pub nothing : Tally
nothing = record { opened = 0; served = 0; hit = 0; missed = 0; bypassed = 0; hits = 0; waits = 0; directs = 0; landed = 0; faults = 0; wants = 0 }

abbrev pub together : Tally → Tally → Tally
together a b = record {
  opened = a.opened + b.opened;
  served = a.served + b.served;
  hit = a.hit + b.hit;
  missed = a.missed + b.missed;
  bypassed = a.bypassed + b.bypassed;
  hits = a.hits + b.hits;
  waits = a.waits + b.waits;
  directs = a.directs + b.directs;
  landed = a.landed + b.landed;
  faults = a.faults + b.faults;
  wants = a.wants + b.wants;
}

abbrev pub is_served_to : ℕ → Entry → Bool
is_served_to n (e.Served m served) = m == n
is_served_to n _ = false

abbrev pub hit_of : ℕ → Entry → ℕ
hit_of n (e.Served m served) = if m == n then served.hit else 0
hit_of n _ = 0

abbrev pub missed_of : ℕ → Entry → ℕ
missed_of n (e.Served m served) = if m == n then served.missed else 0
missed_of n _ = 0

abbrev pub bypassed_of : ℕ → Entry → ℕ
bypassed_of n (e.Served m served) = if m == n then served.bypassed else 0
bypassed_of n _ = 0

abbrev pub is_hit_of : ℕ → Entry → Bool
is_hit_of n (e.Hit i spot m) = m == n
is_hit_of n _ = false

abbrev pub is_wait_of : ℕ → Entry → Bool
is_wait_of n (e.Begin t i m) = m == n
is_wait_of n (e.Join t i m) = m == n
is_wait_of n _ = false

abbrev pub is_direct_of : ℕ → Entry → Bool
is_direct_of n (e.Direct i m why) = m == n
is_direct_of n _ = false

abbrev pub tally : ℕ → List Entry → Tally
tally n es = record {
  opened = times (is_opened n) es;
  served = times (is_served_to n) es;
  hit = sum_by (hit_of n) es;
  missed = sum_by (missed_of n) es;
  bypassed = sum_by (bypassed_of n) es;
  hits = times (is_hit_of n) es;
  waits = times (is_wait_of n) es;
  directs = times (is_direct_of n) es;
  landed = landed_of n es;
  faults = faults_of n es;
  wants = wants_of n es;
}

-- what one more entry adds, behind begins of these clients
abbrev pub gain : ℕ → List ℕ → Entry → Tally
gain n ns x = record {
  opened = if is_opened n x then 1 else 0;
  served = if is_served_to n x then 1 else 0;
  hit = hit_of n x;
  missed = missed_of n x;
  bypassed = bypassed_of n x;
  hits = if is_hit_of n x then 1 else 0;
  waits = if is_wait_of n x then 1 else 0;
  directs = if is_direct_of n x then 1 else 0;
  landed = if is_landed_of n ns x then 1 else 0;
  faults = if is_fault_of n ns x then 1 else 0;
  wants = if is_want_of n ns x then 1 else 0;
}

-- whose an entry is: for the end of a flight the client that began it
abbrev pub client_in : List ℕ → Entry → Option ℕ
client_in ns (e.Opened n) = Some n
client_in ns (e.Closed n) = Some n
client_in ns (e.Begin t i n) = Some n
client_in ns (e.Join t i n) = Some n
client_in ns (e.Hit i spot n) = Some n
client_in ns (e.Direct i n why) = Some n
client_in ns (e.Landed t) = slice_get ns t
client_in ns (e.Failed t why) = slice_get ns t
client_in ns (e.Served n served) = Some n
client_in ns _ = None
