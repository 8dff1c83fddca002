use Rattle.pfc_world.specs.Files.{size_at-short}
use Rattle.pfc_memory.proofs.link.MemoryLinkOrigin.stat.Goals as goal

pub returns-clause-short : goal.returns-clause-short
returns-clause-short g c = rw c.size.ensures (size_at-short _ _ g.W.World.short)
