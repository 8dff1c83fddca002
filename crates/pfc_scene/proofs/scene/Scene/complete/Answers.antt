use Rattle.std.proofs.Common.{◌∙◌, refl, arith}
use Rattle.pfc_scene.proofs.Following.{persists_not, persists_on, same_asked}
use Rattle.pfc_scene.proofs.Moving.{plays_not, plays_on}
use Rattle.pfc_scene.proofs.scene.Scene.complete.Goals as goal

pub loop-turn-init : goal.loop-turn-init
loop-turn-init g c = record {
  sound = c.requires.sound;
  lent = c.requires.lent;
  plays = plays_not _ _;
  persists = λ told tells. persists_not _ _ _;
  unlisted = refl;
  low = c.requires.j;
}

pub loop-turn-preserved : goal.loop-turn-preserved
loop-turn-preserved g c = record {
  sound = c.step.ensures.sound;
  lent = c.step.ensures.lent;
  plays = plays_on _ _ _ _ _ _ c.loop-turn.invariant.plays c.step.ensures.plays;
  persists = λ told tells. persists_on _ _ _ _ _ _ _ (same_asked _ _ c.step.ensures.plays.same) (c.loop-turn.invariant.persists told tells) (c.step.ensures.persists told tells);
  unlisted = c.step.ensures.unlisted ∙ c.loop-turn.invariant.unlisted;
  low = omega (arith, c.step.ensures.plays.clients_are, c.loop-turn.invariant.low);
}
