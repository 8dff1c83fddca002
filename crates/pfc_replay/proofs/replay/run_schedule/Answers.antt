use Rattle.std.proofs.Common.{◌≡◌, sym, ap, ◌∙◌, refl}
use Rattle.std.specs.Prelude.{Ok}
use Rattle.pfc_report.specs.Schedule.{schedule_of}
use Rattle.pfc_replay.proofs.Schedules.{schedule-read, schedule-refused}
use Rattle.pfc_replay.proofs.Outcomes.{goes-result}
use Rattle.pfc_replay.proofs.replay.run_schedule.Goals as goal

pub returns-in-Err-Bad-clause-runs : goal.returns-in-Err-Bad-clause-runs
returns-in-Err-Bad-clause-runs g c told =
    schedule-refused c.args.settings.writers _ _ c.in-Err-Bad.line _ (rw c.in-Err-Bad.field-0-is refl) (c.in-Ok.ensures.text told)
    (ap (schedule_of c.args.settings.writers) (sym c.deref.ensures.value) ∙ (rw c.in-Err-Bad.field-0-is at c.in-Err-Bad.ensures.err))

pub returns-clause-runs : goal.returns-clause-runs
returns-clause-runs g c =
    let writers = c.args.settings.writers in
    goes-result g.W.World.told g.W.World.files c.args.settings g.H.Sources.told _ c.args.name.now c.in-Ok-read_schedule.plan
    (g.H.Sources.faults c.args.host.now) (g.H.Sources.faults c.fetch_text.new.host) _ _ _ (g.H.Sources.spent c.args.host.now) (g.H.Sources.spent c.fetch_text.new.host) _
    c.run_plan.result
    (λ told. schedule-read (λ r. r ≡ Ok c.in-Ok-read_schedule.plan) writers _ _ (c.in-Ok.ensures.text told) (ap (schedule_of writers) (sym c.deref.ensures.value) ∙ c.in-Ok-read_schedule.ensures.ok))
    c.in-Ok.ensures.cause c.in-Ok.ensures.spent c.run_plan.ensures.goes
