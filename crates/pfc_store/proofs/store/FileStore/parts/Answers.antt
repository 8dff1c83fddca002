use Rattle.std.proofs.Common.{inl, ◌∙◌, ap, subst}
use Rattle.pfc_world.specs.Disk.{IsImage}
use Rattle.pfc_world.specs.Info.{IsMain}
use Rattle.pfc_store.proofs.store.FileStore.parts.Goals as goal

pub returns-clause-sound : goal.returns-clause-sound
returns-clause-sound g c told of_data of_info file is image main is_image is_main =
    c.keeps.ensures.moments.sound told of_data of_info file is image main
    (inl (subst (λ r. IsImage (g.D.DataDev.seen r).now image) (c.into_device.ensures ∙ ap (λ v. v.first) c.self.view_is) is_image))
    (inl (subst (λ r. IsMain (g.I.InfoDev.seen r).now main) (c.into_device-2.ensures ∙ ap (λ v. v.second) c.self.view_is) is_main))
