use Rattle.pfc_folder.proofs.PathSets.{found-by}
use Rattle.pfc_folder.proofs.paths.has.Goals as goal

pub returns : goal.returns
returns c = found-by c.args.paths.now c.args.path.now c.contains.result c.contains.ensures
