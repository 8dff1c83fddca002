-- The causes of outcomes, and what follows from them.
use Rattle.std.proofs.Common.{◌≡◌, ℕ, ◌≤◌, List, Bool, subst, sym, refl, arith}
use Rattle.std.specs.Prelude.{Option, Some, None, Result, Ok, Err, IsSomeAnd, IfOk, IsTrue}
use Rattle.pfc_world.specs.Files.{Files}
use Rattle.pfc_world.specs.Counts.{Rose, Stayed, stayed-rose}
use Rattle.pfc_world.specs.Texts.{Texts, Appends}
use Rattle.pfc_base.specs.declared.memory.Memory.{Memory}
use Rattle.pfc_client.proofs.Walks.{plain_permitted}
use Rattle.pfc_config.specs.declared.config.Config.{Config}
use Rattle.pfc_config.specs.declared.refusal.ConfigRefusal.{ConfigRefusal}
use Rattle.pfc_config.specs.declared.refusal.ConfigRefusal.TheVariants.{Bad}
use Rattle.pfc_config.specs.Config.{configured}
use Rattle.pfc_report.specs.Schedule.{Line, schedule_of}
use Rattle.pfc_report.specs.Report.{ReportView}
use Rattle.pfc_report.specs.Caused.{Disks, Spent, IsCausedReport}
use Rattle.pfc_scene.specs.declared.run.Settings.{Settings}
use Rattle.pfc_replay.specs.Depots.{DepotState}
use Rattle.pfc_replay.specs.Words.{Call, call_of}
use Rattle.pfc_replay.specs.Outcome.{Asked, Failed, Causes, IsTaken, SaysOf, IsUnhindered, WritesPlain, ArePlainWhereUnhurt, status_of, text_of, outcome_of}
use Rattle.pfc_replay.specs.Run.{Goes, Runs, Says, laid_out}
use Rattle.pfc_replay.specs.declared.outcome.Part.{Part}
use Rattle.pfc_replay.specs.declared.outcome.Part.TheVariants as part
use Rattle.pfc_replay.specs.declared.outcome.Outcome.{Outcome}
use Rattle.pfc_replay.specs.declared.outcome.Outcome.TheVariants as out

pub rose-before : (a b c : ℕ) → a ≤ b → Rose b c → Rose a c
rose-before a b c h rose = grind (arith, h, rose)

-- what running the schedule comes to is what the call comes to, where its configuration was taken
caused : (told : Bool) (files : Files) (given : Asked) (call : Call) (config : Config) (host mid host' : ℕ) (depot depot' : DepotState) (before after : Spent) (outcome : Outcome) →
    IsTaken given call config → host ≤ mid → Runs told files (laid_out config) given.told given.texts call.schedule mid host' depot depot' before after outcome →
    Causes told files given host host' depot depot' before after outcome
caused told files given call config host mid host' depot depot' before after (out.Report report) taken low run =
    (call, config, run.0, record { taken = taken; says = run.1 }, run.2, run.3)
caused told files given call config host mid host' depot depot' before after out.Usage taken low run = absurd run
caused told files given call config host mid host' depot depot' before after (out.Config line kind) taken low run = absurd run
caused told files given call config host mid host' depot depot' before after (out.Schedule line) taken low run = (call, config, taken, run)
caused told files given call config host mid host' depot depot' before after (out.Fault part.Config) taken low run = absurd run.1
caused told files given call config host mid host' depot depot' before after (out.Fault part.Schedule) taken low run = (rose-before host mid host' low run.0, (call, config, taken))
caused told files given call config host mid host' depot depot' before after (out.Fault part.Depot) taken low run =
    (run.0, (call, config, run.1.0, record { taken = taken; says = run.1.1 }))
caused told files given call config host mid host' depot depot' before after (out.Fault (part.Link number)) taken low run =
    ((rose-before host mid host' low run.0.0, run.0.1), (call, config, run.1.0, record { taken = taken; says = run.1.1 }, run.1.2))

-- what a plan's run comes to is what its schedule comes to
goes : (told : Bool) (files : Files) (config : Settings) (tells : Bool) (texts : Texts) (name : List ℕ) (lines : List Line) (host mid host' : ℕ) (depot depot' : DepotState) (before after : Spent)
    (outcome : Outcome) → Says config.writers tells texts name lines → host ≤ mid → Goes told files config lines mid host' depot depot' before after outcome →
    Runs told files config tells texts name host host' depot depot' before after outcome
goes told files config tells texts name lines host mid host' depot depot' before after (out.Report report) says low went = (lines, says, went.0, went.1)
goes told files config tells texts name lines host mid host' depot depot' before after out.Usage says low went = absurd went
goes told files config tells texts name lines host mid host' depot depot' before after (out.Config line kind) says low went = absurd went
goes told files config tells texts name lines host mid host' depot depot' before after (out.Schedule line) says low went = absurd went
goes told files config tells texts name lines host mid host' depot depot' before after (out.Fault part.Config) says low went = absurd went
goes told files config tells texts name lines host mid host' depot depot' before after (out.Fault part.Schedule) says low went = absurd went
goes told files config tells texts name lines host mid host' depot depot' before after (out.Fault part.Depot) says low went = (went, (lines, says))
goes told files config tells texts name lines host mid host' depot depot' before after (out.Fault (part.Link number)) says low went =
    ((rose-before host mid host' low went.0.0, went.0.1), (lines, says, went.1))

pub goes-result : (told : Bool) (files : Files) (config : Settings) (tells : Bool) (texts : Texts) (name : List ℕ) (lines : List Line) (host mid host' : ℕ) (depot depot' : DepotState)
    (before since after : Spent) (result : Result Outcome Memory) → Says config.writers tells texts name lines → host ≤ mid → ((n : ℕ) → since n ≡ before n) →
    IfOk result (Goes told files config lines mid host' depot depot' since after) → IfOk result (Runs told files config tells texts name host host' depot depot' before after)
goes-result told files config tells texts name lines host mid host' depot depot' before since after (Ok outcome) says low still went =
    goes told files config tells texts name lines host mid host' depot depot' before after outcome says low
    (subst (λ (spent : Spent). Goes told files config lines mid host' depot depot' spent after outcome) (λ i n. still n i) went)
goes-result told files config tells texts name lines host mid host' depot depot' before since after (Err e) says low still went = tt

pub caused-result : (told : Bool) (files : Files) (given : Asked) (call : Call) (config : Config) (settings : Settings) (host mid host' : ℕ) (texts : Texts) (depot depot' : DepotState) (before since after : Spent) (result : Result Outcome Memory) →
    settings ≡ laid_out config → IsTaken given call config → host ≤ mid → texts ≡ given.texts → ((n : ℕ) → since n ≡ before n) →
    IfOk result (Runs told files settings given.told texts call.schedule mid host' depot depot' since after) → IfOk result (Causes told files given host host' depot depot' before after)
caused-result told files given call config settings host mid host' texts depot depot' before since after (Ok outcome) laid taken low same still run =
    caused told files given call config host mid host' depot depot' before after outcome taken low
    (subst (λ (spent : Spent). Runs told files (laid_out config) given.told given.texts call.schedule mid host' depot depot' spent after outcome) (λ i n. still n i)
    (subst (λ (t : Texts). Runs told files (laid_out config) given.told t call.schedule mid host' depot depot' since after outcome) same
    (subst (λ (s : Settings). Runs told files s given.told texts call.schedule mid host' depot depot' since after outcome) laid run)))
caused-result told files given call config settings host mid host' texts depot depot' before since after (Err e) laid taken low same still run = tt

-- a configuration that is refused
pub config-refused : (told : Bool) (files : Files) (given : Asked) (call : Call) (host host' : ℕ) (depot depot' : DepotState) (before after : Spent) (refusal : ConfigRefusal) (outcome : Outcome) →
    outcome ≡ outcome_of refusal → call_of given.words ≡ Some call → SaysOf given call.config (λ text. configured text call.capacity ≡ Err refusal) →
    Causes told files given host host' depot depot' before after outcome
config-refused told files given call host host' depot depot' before after (Bad line kind) outcome e words config =
    subst (Causes told files given host host' depot depot' before after) (sym e) (call, words, config)

plain-report : (told : Bool) (files : Files) (lines : List Line) (before after : Spent) (k capacity : ℕ) (disks disks' : Disks) (report : ReportView) →
    IsCausedReport told files k capacity lines before after disks disks' report → ArePlainWhereUnhurt told files lines before after report
plain-report told files lines before after k capacity disks disks' report whole = λ i d low stayed none.
    plain_permitted told files _ _ _ _ (whole.accounted.permitted i d low) stayed none

-- the replies of clients whose link had no fault are plain
pub plain-outcome : (told : Bool) (files : Files) (given : Asked) (host host' : ℕ) (depot depot' : DepotState) (before after : Spent) (sink : Bool) (old new : List ℕ) (outcome : Outcome) →
    Causes told files given host host' depot depot' before after outcome → status_of outcome ≡ 0 → Appends sink old new (text_of outcome) →
    WritesPlain told files given depot depot' before after sink old new
plain-outcome told files given host host' depot depot' before after sink old new (out.Report report) cause zero wrote =
    (report, cause.0, cause.1, cause.2, cause.3, cause.5, plain-report told files cause.2 before after cause.1.blocksize cause.1.queue depot.disks depot'.disks report cause.5, wrote)
plain-outcome told files given host host' depot depot' before after sink old new out.Usage cause zero wrote = absurd (omega (arith, zero))
plain-outcome told files given host host' depot depot' before after sink old new (out.Config line kind) cause zero wrote = absurd (omega (arith, zero))
plain-outcome told files given host host' depot depot' before after sink old new (out.Schedule line) cause zero wrote = absurd (omega (arith, zero))
plain-outcome told files given host host' depot depot' before after sink old new (out.Fault part) cause zero wrote = absurd (omega (arith, zero))

none-some : {A : Type 0} {o : Option A} {x : A} → o ≡ None → o ≡ Some x → ⊥
none-some a b = cc

taken-call : (given : Asked) (call other : Call) → call_of given.words ≡ Some call → call_of given.words ≡ Some other → call ≡ other
taken-call given call other a b = cc

-- what follows from two tests of one text
both : {A C : Type 0} (o : Option A) (p q : A → Type 0) → ((x : A) → p x → q x → C) → IsSomeAnd o p → IsSomeAnd o q → C
both None p q h a b = absurd a
both (Some x) p q h a b = h x a b

ok-err : {A E : Type 0} (r : Result A E) (e : E) (a : A) → r ≡ Err e → r ≡ Ok a → ⊥
ok-err r e a is ok = cc

ok-ok : {A E : Type 0} (r : Result A E) (a b : A) → r ≡ Ok a → r ≡ Ok b → a ≡ b
ok-ok r a b one other = cc

-- one text comes to one configuration
taken-config : (given : Asked) (call other : Call) (config since : Config) → IsTrue given.told → IsTaken given call config → IsTaken given other since → config ≡ since
taken-config given call other config since told a b =
    let says = subst (λ (c : Call). SaysOf given c.config (λ text. configured text c.capacity ≡ Ok config)) (taken-call given call other a.words b.words) a.says in
    both _ _ _ (λ text. ok-ok (configured text other.capacity) config since) (says told) (b.says told)

-- where no count rose, nothing failed
unhindered-part : (host host' : ℕ) (depot depot' : DepotState) (part : Part) → Failed part host host' depot depot' → Stayed host host' → Stayed depot.unlisted depot'.unlisted → ⊥
unhindered-part host host' depot depot' part.Config failed stayed listed = stayed-rose host host' failed stayed
unhindered-part host host' depot depot' part.Schedule failed stayed listed = stayed-rose host host' failed stayed
unhindered-part host host' depot depot' part.Depot failed stayed listed = stayed-rose depot.unlisted depot'.unlisted failed listed
unhindered-part host host' depot depot' (part.Link number) failed stayed listed = stayed-rose host host' failed.0 stayed

-- where all is of the form and no count rose, the outcome has status 0
pub unhindered-outcome : (told : Bool) (files : Files) (given : Asked) (host host' : ℕ) (depot depot' : DepotState) (sink sink' : ℕ) (before after : Spent) (outcome : Outcome) →
    IsUnhindered given host host' depot depot' sink sink' → Causes told files given host host' depot depot' before after outcome → status_of outcome ≡ 0
unhindered-outcome told files given host host' depot depot' sink sink' before after (out.Report report) free cause = refl
unhindered-outcome told files given host host' depot depot' sink sink' before after out.Usage free cause = absurd (none-some cause free.call.3.taken.words)
unhindered-outcome told files given host host' depot depot' sink sink' before after (out.Config line kind) free cause =
    let same = taken-call given cause.0 free.call.0 cause.1 free.call.3.taken.words in
    let config = subst (λ (c : Call). SaysOf given c.config (λ text. configured text c.capacity ≡ Err (Bad line kind))) same cause.2 in
    absurd (both _ _ _ (λ text. ok-err (configured text free.call.0.capacity) (Bad line kind) free.call.1) (config free.told) (free.call.3.taken.says free.told))
unhindered-outcome told files given host host' depot depot' sink sink' before after (out.Schedule line) free cause =
    let same = taken-call given cause.0 free.call.0 cause.2.words free.call.3.taken.words in
    let settled = taken-config given cause.0 free.call.0 cause.1 free.call.1 free.told cause.2 free.call.3.taken in
    let schedule = subst (λ (c : Config). SaysOf given free.call.0.schedule (λ text. schedule_of c.writers text ≡ Err line)) settled
    (subst (λ (c : Call). SaysOf given c.schedule (λ text. schedule_of cause.1.writers text ≡ Err line)) same cause.3) in
    absurd (both _ _ _ (λ text. ok-err (schedule_of free.call.1.writers text) line free.call.2) (schedule free.told) (free.call.3.says free.told))
unhindered-outcome told files given host host' depot depot' sink sink' before after (out.Fault part) free cause = absurd (unhindered-part host host' depot depot' part cause.0 free.host_stayed free.listing_stayed)
