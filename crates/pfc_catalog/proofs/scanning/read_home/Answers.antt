use Rattle.std.proofs.Common.{subst, inl, refl}
use Rattle.std.specs.Prelude.{IsTrue}
use Rattle.pfc_store.specs.Volume.{Finds}
use Rattle.pfc_catalog.proofs.Volumes.{sees_what_stands, kept_by, when_told}
use Rattle.pfc_catalog.proofs.scanning.read_home.Goals as goal

pub put_back-is_back-requires : goal.put_back-is_back-requires
put_back-is_back-requires g c = λ told told_data. c.survey-surveyed.ensures.sound_now c.args.path.now (subst (λ t. IsTrue t) g.met.P.Depot.alike told_data) (c.requires.sound told told_data)

pub returns-clause-sees : goal.returns-clause-sees
returns-clause-sees g c told =
    let tells = subst (λ t. IsTrue t) g.met.P.Depot.alike told in
    let back = c.put_back-is_back.ensures.answer.1 c.requires.out in
    sees_what_stands (g.P.Info.InfoDev.seen c.args.second).now.shown (g.P.Info.InfoDev.seen c.survey-surveyed.new.second).now (g.P.Depot.home_main c.put_back-is_back.new.self c.args.path.now) c.survey-surveyed.result c.weigh.result (when_told (Finds (g.P.Info.InfoDev.seen c.args.second).now.shown (g.P.Info.InfoDev.seen c.survey-surveyed.new.second).now) c.survey-surveyed.result c.survey-surveyed.ensures.found tells) (c.put_back-is_back.ensures.images back told).1 c.weigh.ensures

pub returns-clause-mains : goal.returns-clause-mains
returns-clause-mains g c told main is =
    let tells = subst (λ t. IsTrue t) g.met.P.Depot.alike told in
    let back = c.put_back-is_back.ensures.answer.1 c.requires.out in
    (c.survey-surveyed.ensures.mains tells).now main ((c.put_back-is_back.ensures.images back told).1 main is)

pub returns-clause-kept : goal.returns-clause-kept
returns-clause-kept g c told cached =
    let tells = subst (λ t. IsTrue t) g.met.P.Depot.alike told in
    let back = c.put_back-is_back.ensures.answer.1 c.requires.out in
    let images = c.put_back-is_back.ensures.images back told in
    let info = (g.P.Info.InfoDev.seen c.args.second).now in
    let info_now = (g.P.Info.InfoDev.seen c.survey-surveyed.new.second).now in
    let said = cached info.shown (inl refl) in
    let fewer = (c.survey-surveyed.ensures.kept said.0 tells said.1).now in
    let data_fewer = kept_by g.P.Data.DataDev.seen c.args.first c.survey-surveyed.new.first info info_now cached fewer (c.survey-surveyed.ensures.order tells) in
    (λ image is. data_fewer image (images.0 image is), λ main is. fewer main (images.1 main is))

pub returns-clause-sound : goal.returns-clause-sound
returns-clause-sound g c told told_data file is image main is_image is_main =
    let tells = subst (λ t. IsTrue t) g.met.P.Depot.alike told_data in
    let back = c.put_back-is_back.ensures.answer.1 c.requires.out in
    let images = c.put_back-is_back.ensures.images back told_data in
    c.survey-surveyed.ensures.sound_now c.args.path.now tells (c.requires.sound told told_data) file is image main (images.0 image is_image) (images.1 main is_main)

pub returns-clause-out : goal.returns-clause-out
returns-clause-out g c = c.put_back-is_back.ensures.out (c.put_back-is_back.ensures.answer.1 c.requires.out)
