use Rattle.std.proofs.Common.{rules, tests, sym, ap, ◌∙◌}
use Rattle.std.specs.Prelude.{is_none}
use Rattle.std.proofs.lemmas.Iterator.{YieldsList-from_slice}
use Rattle.std.proofs.lemmas.Iterator.Consumers.{count_from_yields_List, YieldsList-from_filter}
use Rattle.std.proofs.lemmas.List.{length-map}
use Rattle.pfc_memory.specs.declared.volume.Volume.{Volume}
use Rattle.pfc_memory.proofs.depot.MemoryDepotDepot.outs.Goals as goal

pub returns : goal.returns
returns g c =
    let counted = count_from_yields_List c.filter.result c.count.result c.count.ensures.ran
    (YieldsList-from_filter _ (λ (volume : Volume). is_none volume.home) (YieldsList-from_slice c.args.self.now.volumes.items cc) c.filter.ensures.closure (λ x r q k. search (rules, tests))) in
    counted ∙ sym (length-map _ _)
