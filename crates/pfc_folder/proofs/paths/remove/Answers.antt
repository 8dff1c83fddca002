use Rattle.pfc_folder.proofs.PathSets.{found-by, loses}
use Rattle.pfc_folder.proofs.paths.remove.Goals as goal

pub returns-clause-answer : goal.returns-clause-answer
returns-clause-answer c = found-by c.args.paths.now c.args.path.now c.remove.result c.remove.ensures.test

pub returns-clause-loses : goal.returns-clause-loses
returns-clause-loses c gone = loses c.args.paths.now c.remove.new.self c.args.path.now c.remove.result gone c.remove.ensures.updates c.remove.ensures.len
