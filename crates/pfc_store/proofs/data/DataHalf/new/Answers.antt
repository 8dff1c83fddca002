use Rattle.std.proofs.Common.{◌≡◌, List, Bool, length, true, sym, ap, subst}
use Rattle.pfc_base.specs.BlockSet.{is_member}
use Rattle.pfc_cinfo.specs.Cinfo.{IsTiled}
use Rattle.pfc_store.proofs.Opened.{opened}
use Rattle.pfc_store.proofs.data.DataHalf.new.Goals as goal

pub invariant_of-result : goal.invariant_of-result
invariant_of-result g c = record {
  tiled = subst (λ (s : List Bool). IsTiled c.args.block_size c.args.known.size (length s)) (sym c.requires.same) c.requires.tiled;
  bounds = sym (ap length c.requires.same);
  nested = λ i in_durable. subst (λ (s : List Bool). is_member s i ≡ true) (sym c.requires.same) in_durable;
  stored = λ told file is tells. opened file c.args.block_size c.args.durable c.args.written (g.D.DataDev.seen c.args.device).now c.requires.same (c.requires.stand told file is tells);
}
