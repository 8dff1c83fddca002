-- What running a schedule comes to.
use Rattle.std.specs.Prelude.{◌≡◌, ℕ, Bool, List, IsTrue, IsSomeAnd, Ok, Err, ⊤}
use Rattle.pfc_world.specs.Files.{Files, file_at}
use Rattle.pfc_world.specs.Texts.{Texts}
use Rattle.pfc_report.specs.Schedule.{Line, schedule_of, is_asked}
use Rattle.pfc_report.specs.Caused.{Spent, IsCausedReport}
use Rattle.pfc_config.specs.declared.config.Config.{Config}
use Rattle.pfc_scene.specs.declared.run.Settings.{Settings}
use Rattle.pfc_replay.specs.Depots.{DepotState, IsListed}
use Rattle.pfc_replay.specs.Outcome.{Failed}
use Rattle.pfc_replay.specs.declared.outcome.Outcome.{Outcome}
use Rattle.pfc_replay.specs.declared.outcome.Part.{Part}
use Rattle.pfc_replay.specs.declared.outcome.Part.TheVariants as part
use Rattle.pfc_replay.specs.declared.outcome.Outcome.TheVariants as out

-- how a configuration lays a run out
abbrev pub laid_out : Config → Settings
laid_out config = record { block_size = config.blocksize; capacity = config.queue; writers = config.writers }

-- The cause of an outcome of these lines, so laid out.
abbrev pub Goes : Bool → Files → Settings → List Line → ℕ → ℕ → DepotState → DepotState → Spent → Spent → Outcome → Type 0
Goes told files settings lines host host' depot depot' before after (out.Report report) =
    IsListed depot depot' × IsCausedReport told files settings.block_size settings.capacity lines before after depot.disks depot'.disks report
Goes told files settings lines host host' depot depot' before after (out.Fault part.Depot) = Failed part.Depot host host' depot depot'
Goes told files settings lines host host' depot depot' before after (out.Fault (part.Link number)) =
    Failed (part.Link number) host host' depot depot' × IsTrue (is_asked lines number)
Goes told files settings lines host host' depot depot' before after (out.Fault part.Config) = ⊥
Goes told files settings lines host host' depot depot' before after (out.Fault part.Schedule) = ⊥
Goes told files settings lines host host' depot depot' before after (out.Schedule line) = ⊥
Goes told files settings lines host host' depot depot' before after out.Usage = ⊥
Goes told files settings lines host host' depot depot' before after (out.Config line kind) = ⊥

-- where the texts are told, the schedule of this name says these lines to so many writers
abbrev pub Says : ℕ → Bool → Texts → List ℕ → List Line → Type 0
Says writers tells texts name lines = IsTrue tells → IsSomeAnd (file_at texts name) (λ text. schedule_of writers text ≡ Ok lines)

-- how far the schedule of this name had come when this failed
abbrev pub RunsTo : ℕ → Bool → Texts → List ℕ → Part → Type 0
RunsTo writers tells texts name part.Config = ⊥
RunsTo writers tells texts name part.Schedule = ⊤
RunsTo writers tells texts name part.Depot = (lines : List Line) × Says writers tells texts name lines
RunsTo writers tells texts name (part.Link number) = (lines : List Line) × Says writers tells texts name lines × IsTrue (is_asked lines number)

-- The cause of an outcome of the schedule of this name.
abbrev pub Runs : Bool → Files → Settings → Bool → Texts → List ℕ → ℕ → ℕ → DepotState → DepotState → Spent → Spent → Outcome → Type 0
Runs told files settings tells texts name host host' depot depot' before after (out.Report report) =
    (lines : List Line) × Says settings.writers tells texts name lines × IsListed depot depot'
    × IsCausedReport told files settings.block_size settings.capacity lines before after depot.disks depot'.disks report
Runs told files settings tells texts name host host' depot depot' before after (out.Schedule line) =
    IsTrue tells → IsSomeAnd (file_at texts name) (λ text. schedule_of settings.writers text ≡ Err line)
Runs told files settings tells texts name host host' depot depot' before after (out.Fault part) =
    Failed part host host' depot depot' × RunsTo settings.writers tells texts name part
Runs told files settings tells texts name host host' depot depot' before after out.Usage = ⊥
Runs told files settings tells texts name host host' depot depot' before after (out.Config line kind) = ⊥
