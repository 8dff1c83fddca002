use Rattle.std.proofs.Common.{sym}
use Rattle.pfc_base.proofs.Sets.{words-of_view}
use Rattle.pfc_base.proofs.block_set.BlockSet.bound.Goals as goal

pub returns : goal.returns
returns c = sym (words-of_view c.self.inside.words.items c.self.inside.bound c.args.self.now c.self.invariant c.self.view_is).0
