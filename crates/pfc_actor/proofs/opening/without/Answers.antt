use Rattle.std.proofs.Common.{refl, arith}
use Rattle.pfc_actor.proofs.Steps.{own_answered}
use Rattle.pfc_actor.proofs.opening.without.Goals as goal

pub returns-clause-wanted : goal.returns-clause-wanted
returns-clause-wanted g c = own_answered _ _ _ _ _ _ _ 0 (λ w. refl) refl refl (λ i. refl) c.reply.ensures c.requires.work.asked.next refl refl refl refl (omega arith) (omega arith) refl

pub returns-clause-making : goal.returns-clause-making
returns-clause-making g c = own_answered _ _ _ _ _ _ _ 0 (λ w. refl) refl refl (λ i. refl) c.reply.ensures c.requires.work.asked.next refl refl refl refl (omega arith) (omega arith) refl

pub returns-clause-joining : goal.returns-clause-joining
returns-clause-joining g c = own_answered _ _ _ _ _ _ _ 0 (λ w. refl) refl refl (λ i. refl) c.reply.ensures c.requires.work.asked.next refl refl refl refl (omega arith) (omega arith) refl
