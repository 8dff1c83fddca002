use Rattle.std.proofs.Common.{inr, false, replicate, refl, ◌∙◌, ap}
use Rattle.pfc_store.proofs.Opened.{not_ours}
use Rattle.pfc_store.proofs.Volumes.{mains_stay}
use Rattle.pfc_store.proofs.open.choose_start.Goals as goal

pub returns-in_err-kept-clause-mains : goal.returns-in_err-kept-clause-mains
returns-in_err-kept-clause-mains g c tells = mains_stay (g.I.InfoDev.seen c.args.second.now)

pub returns-in-Some-clause-mains : goal.returns-in-Some-clause-mains
returns-in-Some-clause-mains g c tells = mains_stay (g.I.InfoDev.seen c.args.second.now)

pub returns-in_err-start-clause-mains : goal.returns-in_err-start-clause-mains
returns-in_err-start-clause-mains g c tells = mains_stay (g.I.InfoDev.seen c.args.second.now)

pub returns-in-Ok-clause-kept : goal.returns-in-Ok-clause-kept
returns-in-Ok-clause-kept g c tells ours =
    let info = (g.I.InfoDev.seen c.args.second.now).now in
    absurd (not_ours c.args.size c.args.block_size info.shown info c.args.found (c.requires.judged tells) (rw c.in_default.is at c.in_ok-kept.ensures.unfit) ours)

pub returns-in-Err-clause-kept : goal.returns-in-Err-clause-kept
returns-in-Err-clause-kept g c tells ours =
    let info = (g.I.InfoDev.seen c.args.second.now).now in
    absurd (not_ours c.args.size c.args.block_size info.shown info c.args.found (c.requires.judged tells) (rw c.in_default.is at c.in_ok-kept.ensures.unfit) ours)

pub returns-in-Ok-clause-restart : goal.returns-in-Ok-clause-restart
returns-in-Ok-clause-restart g c tells =
    let info = (g.I.InfoDev.seen c.args.second.now).now in
    inr (record {
      unfit = not_ours c.args.size c.args.block_size info.shown info c.args.found (c.requires.judged tells) (rw c.in_default.is at c.in_ok-kept.ensures.unfit);
      head_is = c.in_ok-start.ensures.head;
      claims_is = c.in_ok-start.ensures.claimed ∙ ap (λ n. replicate n false) c.block_count-count.ensures;
      gone = c.in-Ok.ensures.gone refl tells;
    })
