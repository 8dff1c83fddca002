use Rattle.std.proofs.Common.{◌++◌, ◌∷◌, [], subst, sym}
use Rattle.std.specs.List.{AllZip}
use Rattle.std.proofs.lemmas.List.Elements.{AllZip-push}
use Rattle.pfc_memory.specs.Depot.{IsVolumeLeftOf}
use Rattle.pfc_memory.proofs.depot.crash_volumes.Goals as goal

pub loop-volume-preserved : goal.loop-volume-preserved
loop-volume-preserved c =
    let left = AllZip-push (IsVolumeLeftOf c.args.numbers.now) c.loop-volume.yielded c.loop-volume.left.items c.in-Some.volume c.in_ok-crash.field-0 c.loop-volume.invariant c.in_ok-crash.ensures in
    subst (λ l. AllZip (IsVolumeLeftOf c.args.numbers.now) (c.loop-volume.yielded ++ c.in-Some.volume ∷ []) l) (sym c.in_ok-push.ensures.items) left
