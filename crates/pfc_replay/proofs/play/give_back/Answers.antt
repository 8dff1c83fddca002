use Rattle.std.proofs.Common.{◌∙◌}
use Rattle.pfc_replay.proofs.Spending.{given_back-next}
use Rattle.pfc_replay.proofs.play.give_back.Goals as goal

pub loop-link-preserved : goal.loop-link-preserved
loop-link-preserved g c = record {
  spent = λ n. given_back-next g.H.Link.Origin.number g.H.Link.Origin.calls g.H.Link.Origin.faults c.loop-link.yielded c.in-Some.link (g.H.Sources.spent c.args.host.now) (g.H.Sources.spent c.loop-link.host) (g.H.Sources.spent c.back.new.self) n
      (c.loop-link.invariant.spent n) (c.back.ensures.spent n);
  faults = c.back.ensures.faults ∙ c.loop-link.invariant.faults;
}
