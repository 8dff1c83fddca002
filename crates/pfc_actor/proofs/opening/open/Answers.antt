use Rattle.std.proofs.Common.{refl, ap, arith}
use Rattle.pfc_actor.specs.Books.{BookView}
use Rattle.pfc_actor.proofs.Steps.{own_answered}
use Rattle.pfc_actor.proofs.Cores.{opened_step, own_step}
use Rattle.pfc_log.specs.declared.entry.Entry.TheVariants as e
use Rattle.pfc_actor.proofs.Calm.{calm_still, calm_visited}
use Rattle.pfc_actor.proofs.opening.open.Goals as goal

pub returns-in-Ok-clause-making : goal.returns-in-Ok-clause-making
returns-in-Ok-clause-making g c =
    opened_step _ _ _ _ _ _ c.args.wanted.number c.number.result _ _ c.args.wanted.path c.in-Ok.stay (λ w. refl) refl refl refl (λ i. refl) refl c.requires.work.asked.next c.number.ensures c.in-Ok.ensures.ok c.opened.ensures.weighs
    (ap (λ (v : BookView). v.number) c.opened.ensures.opened) (ap (λ (v : BookView). v.asked) c.opened.ensures.opened) (ap (λ (v : BookView). v.replies) c.opened.ensures.opened)

pub returns-in-Ok-clause-joining : goal.returns-in-Ok-clause-joining
returns-in-Ok-clause-joining g c =
    opened_step _ _ _ _ _ _ c.args.wanted.number c.number.result _ _ c.args.wanted.path c.in-Ok.stay (λ w. refl) refl refl refl (λ i. refl) refl c.requires.work.asked.next c.number.ensures c.in-Ok.ensures.ok c.opened.ensures.weighs
    (ap (λ (v : BookView). v.number) c.opened.ensures.opened) (ap (λ (v : BookView). v.asked) c.opened.ensures.opened) (ap (λ (v : BookView). v.replies) c.opened.ensures.opened)

pub returns-in-Err-clause-making : goal.returns-in-Err-clause-making
returns-in-Err-clause-making g c =
    own_step _ _ _ _ _ _ _ _ (own_answered _ _ _ _ _ _ _ 0 (λ w. refl) refl refl (λ i. refl) c.reply.ensures c.requires.work.asked.next refl refl refl refl (omega arith) (omega arith) refl) c.in-Err.ensures.memory

pub returns-in-Err-clause-joining : goal.returns-in-Err-clause-joining
returns-in-Err-clause-joining g c =
    own_step _ _ _ _ _ _ _ _ (own_answered _ _ _ _ _ _ _ 0 (λ w. refl) refl refl (λ i. refl) c.reply.ensures c.requires.work.asked.next refl refl refl refl (omega arith) (omega arith) refl) c.in-Err.ensures.memory

pub returns-in-Ok-clause-calm : goal.returns-in-Ok-clause-calm
returns-in-Ok-clause-calm g c = calm_visited c.args.core.now _ (e.Opened _) _ _ c.in-Ok.ensures.ok.enters refl

pub returns-in-Err-clause-calm : goal.returns-in-Err-clause-calm
returns-in-Err-clause-calm g c = calm_still _ _ c.in-Err.ensures.memory
