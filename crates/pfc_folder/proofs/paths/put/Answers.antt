use Rattle.std.proofs.Common.{ℕ, List, Contains, subst}
use Rattle.std.specs.BTreeSet.{keys}
use Rattle.pfc_world.specs.Depot.{Gains}
use Rattle.pfc_folder.proofs.PathSets.{gains}
use Rattle.pfc_folder.proofs.paths.put.Goals as goal

pub returns-in-Ok-clause-gains : goal.returns-in-Ok-clause-gains
returns-in-Ok-clause-gains c =
    let P : List ℕ → Type 0 = λ path. Gains path (keys c.args.paths.now) (keys c.insert.new.self) in
    let Q : List ℕ → Type 0 = λ path. Contains (keys c.args.paths.now) path in
    subst P c.copy.ensures (gains c.args.paths.now c.insert.new.self c.copy.result c.in-Ok.field-0 (λ inside. c.requires (subst Q c.copy.ensures inside)) c.in-Ok.ensures.added c.in-Ok.ensures.updates c.in-Ok.ensures.len)
