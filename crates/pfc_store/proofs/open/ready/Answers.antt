use Rattle.pfc_store.proofs.Volumes.{mains_stay, keeps_takes, keeps_then_takes, judged_now}
use Rattle.pfc_store.proofs.open.ready.Goals as goal

pub returns-in-Err-clause-mains : goal.returns-in-Err-clause-mains
returns-in-Err-clause-mains g c tells = mains_stay (g.I.InfoDev.seen c.args.second.now)

pub returns-in-Err-judge-clause-mains : goal.returns-in-Err-judge-clause-mains
returns-in-Err-judge-clause-mains g c tells = keeps_takes (g.I.InfoDev.seen c.args.second.now) (g.I.InfoDev.seen c.judge.new.second) (c.judge.ensures.mains tells)

pub choose_start-requires-clause-judged : goal.choose_start-requires-clause-judged
choose_start-requires-clause-judged g c _ _ tells = judged_now (g.I.InfoDev.seen c.args.second.now).now.shown (g.I.InfoDev.seen c.judge.new.second).now c.in-Ok-judge.found (c.in-Ok-judge.ensures.found tells)

pub returns-clause-mains : goal.returns-clause-mains
returns-clause-mains g c tells = keeps_then_takes (g.I.InfoDev.seen c.args.second.now) (g.I.InfoDev.seen c.judge.new.second) (g.I.InfoDev.seen c.choose_start.new.second) (c.judge.ensures.mains tells) (c.choose_start.ensures.mains tells)
