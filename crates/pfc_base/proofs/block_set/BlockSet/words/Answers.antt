use Rattle.pfc_base.proofs.Sets.{words-of_view}
use Rattle.pfc_base.proofs.block_set.BlockSet.words.Goals as goal

pub returns : goal.returns
returns c = let words = words-of_view c.self.inside.words.items c.self.inside.bound c.args.self.now c.self.invariant c.self.view_is in rw c.deref.ensures.value words.1
