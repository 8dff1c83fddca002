use Rattle.pfc_store.proofs.tests.fresh.Goals as goal

pub returns-in-Volume : goal.returns-in-Volume
returns-in-Volume c main h = (c.in_ok-depot.ensures.home_main c.args.path.now main).0 (c.in-Volume.ensures.lends.was_main main h)
