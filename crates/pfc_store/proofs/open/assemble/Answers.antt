use Rattle.std.proofs.Common.{sym, subst}
use Rattle.pfc_store.specs.Claims.{WithinNow}
use Rattle.pfc_store.proofs.open.assemble.Goals as goal

pub new-info-requires-clause-mains : goal.new-info-requires-clause-mains
new-info-requires-clause-mains g c _ _ tells = subst (λ n. WithinNow n c.args.block_size c.args.start.claimed c.args.start.claimed (g.I.InfoDev.seen c.args.second).now) (sym c.copy-other.ensures.size) (c.requires.mains tells)
