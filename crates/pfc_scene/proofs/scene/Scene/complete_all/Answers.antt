use Rattle.std.proofs.Common.{◌∙◌, refl, arith, rules}
use Rattle.pfc_scene.proofs.Following.{persists_not, persists_on, same_asked}
use Rattle.pfc_scene.proofs.Moving.{plays_not, plays_on}
use Rattle.pfc_scene.proofs.scene.Scene.complete_all.Goals as goal

pub loop-j-init : goal.loop-j-init
loop-j-init g c = record {
  sound = c.requires.sound;
  lent = c.requires.lent;
  plays = plays_not _ _;
  persists = λ told tells. persists_not _ _ _;
  unlisted = refl;
  len = search rules;
}

pub loop-j-preserved : goal.loop-j-preserved
loop-j-preserved g c = record {
  sound = c.complete.ensures.sound;
  lent = c.complete.ensures.lent;
  plays = plays_on _ _ _ _ _ _ c.loop-j.invariant.plays c.complete.ensures.plays;
  persists = λ told tells. persists_on _ _ _ _ _ _ _ (same_asked _ _ c.complete.ensures.plays.same) (c.loop-j.invariant.persists told tells) (c.complete.ensures.persists told tells);
  unlisted = c.complete.ensures.unlisted ∙ c.loop-j.invariant.unlisted;
  len = omega (arith, c.complete.ensures.plays.clients_are, c.loop-j.invariant.len);
}
