use Rattle.pfc_world.specs.Info.{bytes_of}
use Rattle.pfc_store.proofs.Volumes.{says_whole}
use Rattle.pfc_store.proofs.volume.read_cinfo.Goals as goal

pub returns-in-Ok-read_bytes-clause-found : goal.returns-in-Ok-read_bytes-clause-found
returns-in-Ok-read_bytes-clause-found g c tells = says_whole (g.I.InfoDev.seen c.args.second.now).now.shown (bytes_of c.in-Ok.main) c.in-Ok-read_bytes.found (c.in-Ok.ensures.shown tells) c.in-Ok-read_bytes.ensures
