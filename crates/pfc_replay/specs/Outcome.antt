-- What a run comes to: its cause, its status and its text.
use Rattle.std.specs.Prelude.{◌≡◌, ℕ, ◌++◌, Bool, List, All, codes, count_by, IsTrue, Some, None, Ok, Err, IsSomeAnd}
use Rattle.std.specs.Fmt.{decimal}
use Rattle.pfc_world.specs.Files.{Files, file_at}
use Rattle.pfc_world.specs.Counts.{Rose, Stayed}
use Rattle.pfc_world.specs.Texts.{Texts, Appends, AppendsFront}
use Rattle.pfc_client.specs.Permitted.{ArePlain, is_memory}
use Rattle.pfc_config.specs.declared.config.Config.{Config}
use Rattle.pfc_config.specs.declared.refusal.ConfigRefusal.{ConfigRefusal}
use Rattle.pfc_config.specs.declared.refusal.ConfigRefusal.TheVariants.{Bad}
use Rattle.pfc_config.specs.Config.{configured, IsWithinRanges}
use Rattle.pfc_config.specs.Kind.{kind_text}
use Rattle.pfc_report.specs.Schedule.{Line, schedule_of, asked, is_asked}
use Rattle.pfc_report.specs.Report.{ReportView, report_text}
use Rattle.pfc_report.specs.Caused.{Spent, IsCausedReport}
use Rattle.pfc_replay.specs.Depots.{DepotState, IsListed}
use Rattle.pfc_replay.specs.Words.{Call, call_of}
use Rattle.pfc_replay.specs.declared.outcome.Outcome.{Outcome}
use Rattle.pfc_replay.specs.declared.outcome.Outcome.TheVariants as out
use Rattle.pfc_replay.specs.declared.outcome.Part.{Part}
use Rattle.pfc_replay.specs.declared.outcome.Part.TheVariants as part

-- ---- status and text

abbrev pub status_of : Outcome → ℕ
status_of (out.Report report) = 0
status_of out.Usage = 1
status_of (out.Config line kind) = 2
status_of (out.Schedule line) = 2
status_of (out.Fault part) = 3

abbrev pub part_text : Part → List ℕ
part_text part.Config = codes "config"
part_text part.Schedule = codes "schedule"
part_text part.Depot = codes "depot"
part_text (part.Link number) = codes "link " ++ decimal number

abbrev pub text_of : Outcome → List ℕ
text_of (out.Report report) = report_text report
text_of out.Usage = codes "usage: xcache_replay <config> <origin> <cache> <capacity> <schedule> | generate <number>\n"
text_of (out.Config line kind) = codes "config " ++ decimal line ++ codes " " ++ kind_text kind ++ codes "\n"
text_of (out.Schedule line) = codes "schedule " ++ decimal line ++ codes "\n"
text_of (out.Fault part) = codes "fault " ++ part_text part ++ codes "\n"

-- the outcome of a configuration that is refused
abbrev pub outcome_of : ConfigRefusal → Outcome
outcome_of (Bad line kind) = out.Config line kind

-- ---- cause

-- what stands before a run: whether the host tells its texts, these texts, and the words of the call
pub record Asked : Type 0 where
  pub told : Bool
  pub texts : Texts
  pub words : List (List ℕ)

-- where the host tells its texts, the one of this name passes this test
abbrev pub SaysOf : Asked → List ℕ → (List ℕ → Type 0) → Type 0
SaysOf asked name says = IsTrue asked.told → IsSomeAnd (file_at asked.texts name) says

-- the words are of the form, and the configuration that they name comes to this one
pub record IsTaken (given : Asked) (call : Call) (config : Config) : Type 0 where
  pub words : call_of given.words ≡ Some call
  pub says : SaysOf given call.config (λ text. configured text call.capacity ≡ Ok config)
  pub ranges : IsWithinRanges call.capacity config

-- the words and the configuration are taken, and the schedule that they name says these lines
pub record IsPlanned (given : Asked) (call : Call) (config : Config) (lines : List Line) : Type 0 where
  pub taken : IsTaken given call config
  pub says : SaysOf given call.schedule (λ text. schedule_of config.writers text ≡ Ok lines)

-- how far a run had come when this failed; the link is that of a client which is asked something
abbrev pub Reaches : Asked → Part → Type 0
Reaches given part.Config = (call : Call) × (call_of given.words ≡ Some call)
Reaches given part.Schedule = (call : Call) × (config : Config) × IsTaken given call config
Reaches given part.Depot = (call : Call) × (config : Config) × (lines : List Line) × IsPlanned given call config lines
Reaches given (part.Link number) = (call : Call) × (config : Config) × (lines : List Line) × IsPlanned given call config lines × IsTrue (is_asked lines number)

-- The count that rose where this failed. The depot is listed before any link is made.
abbrev pub Failed : Part → ℕ → ℕ → DepotState → DepotState → Type 0
Failed part.Config host host' depot depot' = Rose host host'
Failed part.Schedule host host' depot depot' = Rose host host'
Failed part.Depot host host' depot depot' = Rose depot.unlisted depot'.unlisted
Failed (part.Link number) host host' depot depot' = Rose host host' × IsListed depot depot'

-- The cause of an outcome, with the counts before and after of the host's faults, of the depot, and of what the clients' links have spent.
abbrev pub Causes : Bool → Files → Asked → ℕ → ℕ → DepotState → DepotState → Spent → Spent → Outcome → Type 0
Causes told files given host host' depot depot' before after (out.Report report) =
    (call : Call) × (config : Config) × (lines : List Line) × IsPlanned given call config lines × IsListed depot depot'
    × IsCausedReport told files config.blocksize config.queue lines before after depot.disks depot'.disks report
Causes told files given host host' depot depot' before after out.Usage = call_of given.words ≡ None
Causes told files given host host' depot depot' before after (out.Config line kind) =
    (call : Call) × (call_of given.words ≡ Some call) × SaysOf given call.config (λ text. configured text call.capacity ≡ Err (Bad line kind))
Causes told files given host host' depot depot' before after (out.Schedule line) =
    (call : Call) × (config : Config) × IsTaken given call config × SaysOf given call.schedule (λ text. schedule_of config.writers text ≡ Err line)
Causes told files given host host' depot depot' before after (out.Fault part) = Failed part host host' depot depot' × Reaches given part

-- what came to the sink is the text of such an outcome, and its status is the answer
abbrev pub Writes : (Outcome → Type 0) → ℕ → Bool → List ℕ → List ℕ → Type 0
Writes cause result sink old new = (outcome : Outcome) × cause outcome × (result ≡ status_of outcome) × Appends sink old new (text_of outcome)

-- what came to the sink is a front of the text of such an outcome
abbrev pub WritesFront : (Outcome → Type 0) → Bool → List ℕ → List ℕ → Type 0
WritesFront cause sink old new = (outcome : Outcome) × cause outcome × AppendsFront sink old new (text_of outcome)

-- each client whose link had no fault, and none of whose replies is want of memory, was told the plain replies
abbrev pub ArePlainWhereUnhurt : Bool → Files → List Line → Spent → Spent → ReportView → Type 0
ArePlainWhereUnhurt told files lines before after report =
    All (λ c. Stayed (before c.number).1 (after c.number).1 → count_by is_memory c.replies ≡ 0 → ArePlain told files (asked c.number lines) c.replies) report.clients

-- what came to the sink is the text of such a report
abbrev pub WritesPlain : Bool → Files → Asked → DepotState → DepotState → Spent → Spent → Bool → List ℕ → List ℕ → Type 0
WritesPlain told files given depot depot' before after sink old new =
    (report : ReportView) × (call : Call) × (config : Config) × (lines : List Line) × IsPlanned given call config lines
    × IsCausedReport told files config.blocksize config.queue lines before after depot.disks depot'.disks report × ArePlainWhereUnhurt told files lines before after report
    × Appends sink old new (report_text report)

-- The host tells its texts, the words, the configuration and the schedule are of the form, and no count of the host, the depot's
-- listing or the sink rose.
pub record IsUnhindered (given : Asked) (host host' : ℕ) (depot depot' : DepotState) (sink sink' : ℕ) : Type 0 where
  pub told : IsTrue given.told
  pub call : (call : Call) × (config : Config) × (lines : List Line) × IsPlanned given call config lines
  pub host_stayed : Stayed host host'
  pub listing_stayed : Stayed depot.unlisted depot'.unlisted
  pub sink_stayed : Stayed sink sink'
