-- Clients, cores and what stands beside them.
use Rattle.std.specs.Prelude.{◌≡◌, ◌⊎◌, ℕ, ◌+◌, ◌<◌, ◌≤◌, ◌==◌, ◌++◌, if◌then◌else◌, false, List, [], ◌∷◌, length, map, sum_by, slice_index_or, Any, Bool, Contains, IfSome, IsTrue, Option, Some, None}
use Rattle.pfc_base.specs.Block.{count_of}
use Rattle.pfc_base.specs.Cinfo.{IsBlockSize}
use Rattle.pfc_world.specs.Counts.{RoseBy}
use Rattle.pfc_world.specs.Depot.{Fewer}
use Rattle.pfc_world.specs.Files.{Files, file_at}
use Rattle.pfc_world.specs.declared.refusal.Refusal.{Refusal}
use Rattle.pfc_world.specs.declared.refusal.Refusal.TheVariants.{Fault, Memory}
use Rattle.pfc_log.specs.Charges.{charges, start_charge, is_there}
use Rattle.pfc_log.specs.Lawful.{IsCached}
use Rattle.pfc_log.specs.Uncaching.{cause_of}
use Rattle.pfc_log.specs.Tallies.{Tally, tally, together, nothing}
use Rattle.pfc_log.specs.Views.{times}
use Rattle.pfc_core.specs.Marks.{Mark}
use Rattle.pfc_core.specs.Calls.{foreign}
use Rattle.pfc_core.specs.View.{CoreView}
use Rattle.pfc_core.specs.OpenJobs.{AreJobs}
use Rattle.pfc_writer.specs.Writer.{Task, work_weight}
use Rattle.pfc_report.specs.Caused.{StartsFor}
use Rattle.pfc_report.specs.Restart.{IsLeft, OpensPath}
use Rattle.pfc_log.specs.declared.start.Start.TheVariants.{Stored}
use Rattle.pfc_actor.specs.Backings.{BackingView, Stand, path_in, loan_weight, Covers, Follows, IsBackingOf, DepotView, IsOutAs, Opens}
use Rattle.pfc_actor.specs.Backings as bk
use Rattle.pfc_actor.specs.Stages.{shares}
use Rattle.pfc_actor.specs.Steps.{IsTallied, IsWithin}
use Rattle.pfc_actor.specs.Clients.{ClientView, holds}
use Rattle.pfc_scene.specs.Queues.{AreQueued}

-- The clients; the cores, and what stands beside each; the job that each writer is at, the jobs that wait, and the most of
-- them; the block size.
pub record SceneView : Type 0 where
  pub clients : List ClientView
  pub cores : List CoreView
  pub backings : List BackingView
  pub writers : List (Option Task)
  pub jobs : List Mark
  pub capacity : ℕ
  pub block_size : ℕ

-- what a core has given out, weighed
abbrev pub lists : (Mark → ℕ) → CoreView → ℕ
lists w c = sum_by w c.out

abbrev pub lent_of : (Mark → ℕ) → BackingView → ℕ
lent_of w b = loan_weight w b.stand

-- what is held by others than clients, weighed: the loans, the writers' jobs, and those that wait
abbrev pub beside : (Mark → ℕ) → SceneView → ℕ
beside w v = sum_by (lent_of w) v.backings + sum_by (work_weight w) v.writers + sum_by w v.jobs

-- what client n did, by all logs
abbrev pub total : ℕ → List CoreView → Tally
total n [] = nothing
total n (c ∷ cs) = together (tally n c.entries) (total n cs)

-- the core at place i: its number is its place, all that it gave out is its own, with jobs of blocks in memory, its log starts as
-- that of such a file, and no block was there as it was to be written
pub record IsCore (k i : ℕ) (c : CoreView) : Type 0 where
  pub instance_is : c.instance ≡ i
  pub own : sum_by (foreign c) c.out ≡ 0
  pub jobs : AreJobs c
  pub block_size_is : c.block_size ≡ k
  pub start : StartsFor (cause_of c.path (count_of c.size k)) (count_of c.size k) c.first
  pub theres : times is_there c.entries ≡ 0

-- the client's replies, line and work are what the logs say of it, together and one by one
pub record IsActorAs (n : ℕ) (cores : List CoreView) (a : ClientView) : Type 0 where
  pub tallied : IsTallied a.book a.line a.stage (total n cores)
  pub within : (i : ℕ) (d : CoreView) → i < length cores → IsWithin (shares i a.stage) (slice_index_or cores i d).block_size (tally n (slice_index_or cores i d).entries)

abbrev pub IsActor : List CoreView → ClientView → Type 0
IsActor cores a = IsActorAs a.book.number cores a

-- no two clients have one number
abbrev pub AreUnique : List ClientView → Type 0
AreUnique clients = (i j : ℕ) (d : ClientView) → i < length clients → j < length clients → (slice_index_or clients i d).book.number ≡ (slice_index_or clients j d).book.number → i ≡ j

-- each path has at most one core that is cached
abbrev pub AreApart : List CoreView → Type 0
AreApart cores = (i j : ℕ) (d : CoreView) → i < length cores → j < length cores → IsCached (slice_index_or cores i d).first → IsCached (slice_index_or cores j d).first → (slice_index_or cores i d).path ≡ (slice_index_or cores j d).path → i ≡ j

-- Clients hold what the cores gave out, but for what is held elsewhere, which is weighed by `rest`. Each client is one, and each
-- path has at most one core that is cached. Nobody else stands in a log.
pub record IsCast (k : ℕ) (rest : (Mark → ℕ) → ℕ) (clients : List ClientView) (cores : List CoreView) : Type 0 where
  pub block_size : IsBlockSize k
  pub tokens : (w : Mark → ℕ) → sum_by (holds w) clients + rest w ≡ sum_by (lists w) cores
  pub actors : (j : ℕ) (d : ClientView) → j < length clients → IsActor cores (slice_index_or clients j d)
  pub numbers : AreUnique clients
  pub places : (i : ℕ) (d : CoreView) → i < length cores → IsCore k i (slice_index_or cores i d)
  pub paths : AreApart cores
  pub strangers : (n : ℕ) → ((j : ℕ) (d : ClientView) → j < length clients → (n == (slice_index_or clients j d).book.number) ≡ false) → (i : ℕ) (d : CoreView) → i < length cores → tally n (slice_index_or cores i d).entries ≡ nothing

-- what stands beside each core is of its file
pub record AreBackings (cores : List CoreView) (backings : List BackingView) : Type 0 where
  pub long : length backings ≡ length cores
  pub each : (i : ℕ) (d : CoreView) (e : BackingView) → i < length cores → IsBackingOf (slice_index_or cores i d) (slice_index_or backings i e)

-- What clients don't hold is lent, a writer's job, or waits in the queue. Beside each core stands what is of its file.
pub record IsScene (v : SceneView) : Type 0 where
  pub cast : IsCast v.block_size (λ w. beside w v) v.clients v.cores
  pub backed : AreBackings v.cores v.backings
  pub queued : AreQueued v.capacity v.clients v.cores v.backings v.writers v.jobs

-- whose a client is and what it was asked
abbrev pub who : ClientView → ℕ × List (List ℕ)
who a = (a.book.number, a.book.asked)

-- client n is asked one more line
abbrev pub asked_more : ℕ → List ℕ → ℕ × List (List ℕ) → ℕ × List (List ℕ)
asked_more n line x = if x.0 == n then (x.0, x.1 ++ line ∷ []) else x

abbrev pub number_of : ClientView → ℕ
number_of a = a.book.number

-- ---- the depot

-- a volume of this path stands there
pub record StandsThere (path : List ℕ) (backings : List BackingView) : Type 0 where
  pub place : ℕ
  pub low : place < length backings
  pub stands : (e : BackingView) → path_in (slice_index_or backings place e).stand ≡ Some path

-- the depot's volumes that are out are those that stand there, as they were taken, each once
pub record IsLentBy (d : DepotView) (backings : List BackingView) : Type 0 where
  pub each : (i : ℕ) (e : BackingView) → i < length backings → IsOutAs (path_in (slice_index_or backings i e).stand) (slice_index_or backings i e) d
  pub only : (path : List ℕ) → Contains d.out path → StandsThere path backings
  pub once : (i j : ℕ) (e : BackingView) (path : List ℕ) → i < length backings → j < length backings → path_in (slice_index_or backings i e).stand ≡ Some path → path_in (slice_index_or backings j e).stand ≡ Some path → i ≡ j

-- the failed calls that a core's log shows, where no volume stands beside it any more
abbrev pub settled_in : Stand → CoreView → ℕ
settled_in bk.Bare c = charges c.first c.entries
settled_in _ c = 0

-- and of all cores
abbrev pub settled : List CoreView → List BackingView → ℕ
settled [] backings = 0
settled (c ∷ cores) [] = charges c.first c.entries + settled cores []
settled (c ∷ cores) (b ∷ backings) = settled_in b.stand c + settled cores backings

-- and of all cores, whatever stands beside them
abbrev pub all_charges : List CoreView → ℕ
all_charges cores = sum_by (λ c. charges c.first c.entries) cores

-- ---- what a run found on disk

-- the paths that have a core
abbrev pub paths_of : List CoreView → List (List ℕ)
paths_of cores = map (λ c. c.path) cores

-- Each core of this path, with what stands beside it, follows the main file that was found.
abbrev pub AllFollow : List ℕ → Option (Option (List ℕ)) → ℕ → List CoreView → List BackingView → Type 0
AllFollow path found k cores backings =
    (i : ℕ) (d : CoreView) (e : BackingView) → i < length cores → (slice_index_or cores i d).path ≡ path → Follows (slice_index_or cores i d).size k found (slice_index_or cores i d) (slice_index_or backings i e)

-- one of these clients was asked to open this path
abbrev pub WasAsked : List ℕ → List (ℕ × List (List ℕ)) → Type 0
WasAsked path asked = Any (λ x. Any (OpensPath path) x.1) asked

-- the paths that have a core have one still, and those that have one now were asked for
pub record GrowsPaths (v v2 : SceneView) : Type 0 where
  pub stays : (path : List ℕ) → Contains (paths_of v.cores) path → Contains (paths_of v2.cores) path
  pub asked : (path : List ℕ) → Contains (paths_of v2.cores) path → Contains (paths_of v.cores) path ⊎ WasAsked path (map who v2.clients)

-- without the depot
pub record GoesOn (v v2 : SceneView) : Type 0 where
  pub grows : GrowsPaths v v2
  pub follows : (path : List ℕ) (found : Option (Option (List ℕ))) → AllFollow path found v.block_size v.cores v.backings → AllFollow path found v2.block_size v2.cores v2.backings

-- what stands beside cores of this path follows what was found, and each main file that is home is left of it
abbrev pub StandsBy : ℕ → List ℕ → Option (Option (List ℕ)) → SceneView → (List ℕ → Option (List ℕ) → Type 0) → Type 0
StandsBy size path found v IsMain = AllFollow path found v.block_size v.cores v.backings × IfSome found (λ was. (main : Option (List ℕ)) → IsMain path main → IsLeft size v.block_size was main)

-- With it: this stays so of each file of the world, and where a path has no core no other main file has come.
pub record Persists (files : Files) (v : SceneView) (IsMain : List ℕ → Option (List ℕ) → Type 0) (v2 : SceneView) (IsMain' : List ℕ → Option (List ℕ) → Type 0) : Type 0 where
  pub grows : GrowsPaths v v2
  pub stands : (path file : List ℕ) (found : Option (Option (List ℕ))) → file_at files path ≡ Some file → StandsBy (length file) path found v IsMain → StandsBy (length file) path found v2 IsMain'
  pub untouched : (path : List ℕ) → (Contains (paths_of v2.cores) path → ⊥) → Fewer (IsMain path) (IsMain' path)

-- where the world and the depot tell
abbrev pub PersistsBy : Bool → Bool → Files → SceneView → (List ℕ → Option (List ℕ) → Type 0) → SceneView → (List ℕ → Option (List ℕ) → Type 0) → Type 0
PersistsBy told tells files v IsMain v2 IsMain' = IsTrue told → IsTrue tells → Persists files v IsMain v2 IsMain'

-- ---- what steps keep

-- without the depot
pub record Moves (v v2 : SceneView) : Type 0 where
  pub same : map who v2.clients ≡ map who v.clients
  pub clients_are : length v2.clients ≡ length v.clients
  pub writers_are : length v2.writers ≡ length v.writers
  pub block_size : v2.block_size ≡ v.block_size
  pub capacity : v2.capacity ≡ v.capacity
  pub lent : (d : DepotView) → IsLentBy d v.backings → IsLentBy d v2.backings
  pub settled_is : settled v2.cores v2.backings ≡ settled v.cores v.backings
  pub goes_on : GoesOn v v2

-- with it: what is settled is covered by its count of faults, whatever that was before
pub record Plays (v : SceneView) (d : DepotView) (v2 : SceneView) (d2 : DepotView) : Type 0 where
  pub same : map who v2.clients ≡ map who v.clients
  pub clients_are : length v2.clients ≡ length v.clients
  pub writers_are : length v2.writers ≡ length v.writers
  pub block_size : v2.block_size ≡ v.block_size
  pub capacity : v2.capacity ≡ v.capacity
  pub paid : (f : ℕ) → RoseBy f (settled v.cores v.backings) d.faults → RoseBy f (settled v2.cores v2.backings) d2.faults

-- without the depot, where one failed call more may be settled, which its count is to cover
pub record Owes (v v2 : SceneView) : Type 0 where
  pub same : map who v2.clients ≡ map who v.clients
  pub clients_are : length v2.clients ≡ length v.clients
  pub writers_are : length v2.writers ≡ length v.writers
  pub block_size : v2.block_size ≡ v.block_size
  pub capacity : v2.capacity ≡ v.capacity
  pub lent : (d : DepotView) → IsLentBy d v.backings → IsLentBy d v2.backings
  pub settled_most : settled v2.cores v2.backings ≤ settled v.cores v.backings + 1
  pub goes_on : GoesOn v v2

-- after a fault one failed call is covered
abbrev pub CoversFault : Refusal → BackingView → Type 0
CoversFault Fault b = Covers 1 b
CoversFault Memory b = Unit {0}

-- nothing has happened on a core whose file is cached
abbrev pub IsUnused : CoreView → Type 0
IsUnused c = IsCached c.first × (c.entries ≡ []) × (c.out ≡ [])

-- a fresh core in the place of a fresh one, of the same file
pub record Renews (c c2 : CoreView) : Type 0 where
  pub instance_is : c2.instance ≡ c.instance
  pub path_is : c2.path ≡ c.path
  pub size_is : c2.size ≡ c.size
  pub block_size_is : c2.block_size ≡ c.block_size
  pub cached : IsCached c.first
  pub entries_were : c.entries ≡ []
  pub out_was : c.out ≡ []
  pub entries_are : c2.entries ≡ []
  pub out_is : c2.out ≡ []

-- one that is cached still, and starts with this set of the file's blocks
pub record Restarts (k : ℕ) (set : List Bool) (c c2 : CoreView) : Type 0 where
  pub renews : Renews c c2
  pub first_is : c2.first ≡ Stored set
  pub length_is : length set ≡ count_of c.size k
  pub durable_is : c2.durable ≡ set
  pub claimed_is : c2.claimed ≡ set

-- The store beside an unused core was opened: the core starts anew with its blocks, which follow what was found.
pub record StartsCore (k : ℕ) (c : CoreView) (b : BackingView) (c2 : CoreView) (b2 : BackingView) : Type 0 where
  pub opens : Opens k b.stand b2.stand
  pub restarts : Restarts c.block_size b2.durable c c2
  pub follows : (found : Option (Option (List ℕ))) → Follows c.size k found c b → Follows c2.size k found c2 b2

-- it wasn't, and its volume stands there as before
pub record StartsNot (k : ℕ) (c : CoreView) (b : BackingView) (b2 : BackingView) : Type 0 where
  pub stand_is : b2.stand ≡ b.stand
  pub follows : (found : Option (Option (List ℕ))) → Follows c.size k found c b → Follows c.size k found c b2

-- the file isn't cached, or no cached core is of this path
abbrev pub IsAlone : List CoreView → List ℕ → ℕ → Type 0
IsAlone cores path blocks = cause_of path blocks ≡ None → (i : ℕ) (d : CoreView) → i < length cores → IsCached (slice_index_or cores i d).first → (slice_index_or cores i d).path ≡ path → ⊥

-- a new core of this path behind the others, whose log shows no failed call
pub record Makes (k : ℕ) (cores : List CoreView) (path : List ℕ) (after : List CoreView) : Type 0 where
  pub core : CoreView
  pub behind : after ≡ cores ++ core ∷ []
  pub right : IsCore k (length cores) core
  pub path_is : core.path ≡ path
  pub alone : IsAlone cores path (count_of core.size k)
  pub entries : core.entries ≡ []
  pub out : core.out ≡ []
  pub unpaid : start_charge core.first ≡ 0
