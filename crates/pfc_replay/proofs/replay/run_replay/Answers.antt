use Rattle.std.proofs.Common.{◌∙◌, sym, map}
use Rattle.std.specs.Prelude.{string_bytes}
use Rattle.pfc_replay.specs.Depots.{state_of}
use Rattle.pfc_replay.proofs.Outcomes.{plain-outcome}
use Rattle.pfc_replay.proofs.replay.run_replay.Goals as goal

pub returns-in-Ok-write_outcome-clause-plain : goal.returns-in-Ok-write_outcome-clause-plain
returns-in-Ok-write_outcome-clause-plain g c =
    λ zero. plain-outcome g.W.World.told g.W.World.files
    (record { told = g.H.Sources.told; texts = g.H.Sources.texts c.args.host.now; words = map string_bytes c.args.words.now })
    (g.H.Sources.faults c.args.host.now) (g.H.Sources.faults c.run.new.host)
    (state_of g.P.Data.DataDev.told g.P.Depot.home_main g.P.Depot.faults g.P.Depot.unlisted c.args.depot.now) (state_of g.P.Data.DataDev.told g.P.Depot.home_main g.P.Depot.faults g.P.Depot.unlisted c.run.new.depot) (g.H.Sources.spent c.args.host.now) (g.H.Sources.spent c.run.new.host)
    g.S.Sink.told (g.S.Sink.written c.args.out.now) (g.S.Sink.written c.write_outcome.new.out) c.in-Ok.outcome
    c.in-Ok.ensures.causes (sym c.status.ensures ∙ zero) c.in-Ok-write_outcome.ensures.ok
