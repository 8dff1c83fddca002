use Rattle.std.proofs.Common.{◌≡◌, sym, ap, ◌∙◌, map}
use Rattle.std.specs.Prelude.{Ok, Err, string_bytes}
use Rattle.pfc_config.specs.Config.{configured}
use Rattle.pfc_replay.proofs.Configs.{config-read}
use Rattle.pfc_replay.proofs.Outcomes.{caused-result, config-refused}
use Rattle.pfc_replay.proofs.replay.run.Goals as goal

pub returns-in-Err-Fault-clause-causes : goal.returns-in-Err-Fault-clause-causes
returns-in-Err-Fault-clause-causes g c = (
  (rw c.in-Err-Fault.field-0-is at c.in-Err-Fault.ensures.cause).1,
  (record { config = c.in-Some.call.config.now; capacity = c.in-Some.call.capacity; schedule = c.in-Some.call.schedule.now }, sym c.in-Some.ensures),
)

pub returns-in-Err-clause-causes : goal.returns-in-Err-clause-causes
returns-in-Err-clause-causes g c =
    let capacity = c.in-Some.call.capacity in
    config-refused g.W.World.told g.W.World.files
    (record { told = g.H.Sources.told; texts = g.H.Sources.texts c.args.host.now; words = map string_bytes c.args.words.now })
    (record { config = c.in-Some.call.config.now; capacity = capacity; schedule = c.in-Some.call.schedule.now })
    _ _ _ _ _ _ c.in-Err.refusal _ c.from.ensures (sym c.in-Some.ensures)
    (λ told. config-read (λ r. r ≡ Err c.in-Err.refusal) capacity _ _ (c.in-Ok.ensures.text told)
    (ap (λ t. configured t capacity) (sym c.deref.ensures.value) ∙ sym c.in-Err.ensures.value))

pub returns-clause-causes : goal.returns-clause-causes
returns-clause-causes g c =
    let capacity = c.in-Some.call.capacity in
    let config = c.in-Ok-read_config.config in
    caused-result g.W.World.told g.W.World.files
    (record { told = g.H.Sources.told; texts = g.H.Sources.texts c.args.host.now; words = map string_bytes c.args.words.now })
    (record { config = c.in-Some.call.config.now; capacity = capacity; schedule = c.in-Some.call.schedule.now }) config c.settings_of.result
    _ (g.H.Sources.faults c.fetch_text.new.host) _ (g.H.Sources.texts c.fetch_text.new.host) _ _ _ (g.H.Sources.spent c.fetch_text.new.host) _ c.run_schedule.result
    c.settings_of.ensures
    (record {
      words = sym c.in-Some.ensures;
      says = λ told. config-read (λ r. r ≡ Ok config) capacity _ _ (c.in-Ok.ensures.text told)
          (ap (λ t. configured t capacity) (sym c.deref.ensures.value) ∙ sym c.in-Ok-read_config.ensures.value);
      ranges = c.in-Ok-read_config.ensures.ranges;
    })
    c.in-Ok.ensures.cause c.in-Ok.ensures.texts c.in-Ok.ensures.spent c.run_schedule.ensures.runs
