use Rattle.std.proofs.Common.{refl, ap, subst, ℕ}
use Rattle.pfc_actor.specs.Backings.{BackingView}
use Rattle.pfc_scene.specs.Scenes.{StartsCore, StartsNot}
use Rattle.pfc_scene.proofs.Finding.{on_err, shut_back, started, unstarted}
use Rattle.pfc_scene.proofs.cores.open_beside.Goals as goal

pub returns-in_err-open-clause-err : goal.returns-in_err-open-clause-err
returns-in_err-open-clause-err g c = on_err _ _
    (subst (λ (k : ℕ). StartsNot k c.args.core.now c.args.backing.now c.open.new.self) c.block_size.ensures.is
    (unstarted c.block_size.result c.args.core.now c.args.backing.now c.open.new.self c.open.new.self c.requires.taken c.requires.stands c.in_err-open.ensures.stays refl c.open.ensures.found))

pub returns-in-Ok-clause-ok : goal.returns-in-Ok-clause-ok
returns-in-Ok-clause-ok g c =
    subst (λ (k : ℕ). StartsCore k c.args.core.now c.args.backing.now c.in-Ok.core c.open.new.self) c.block_size.ensures.is
    (started c.block_size.result c.args.core.now c.in-Ok.core c.args.backing.now c.open.new.self c.requires.taken c.requires.stands c.in_ok-open.ensures.opens c.open.ensures.found c.in-Ok.ensures)

pub returns-in-Err-clause-err : goal.returns-in-Err-clause-err
returns-in-Err-clause-err g c =
    subst (λ (k : ℕ). StartsNot k c.args.core.now c.args.backing.now c.shut.new.self) c.block_size.ensures.is
    (unstarted c.block_size.result c.args.core.now c.args.backing.now c.open.new.self c.shut.new.self c.requires.taken c.requires.stands
    (shut_back c.block_size.result c.args.backing.now.stand c.open.new.self.stand c.shut.new.self.stand c.requires.taken c.in_ok-open.ensures.opens c.shut.ensures.stand)
    (ap (λ (b : BackingView). b.info) c.shut.ensures.rest) c.open.ensures.found)
