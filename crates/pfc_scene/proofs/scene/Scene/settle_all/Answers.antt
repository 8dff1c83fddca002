use Rattle.std.proofs.Common.{◌∙◌, refl, arith, rules}
use Rattle.pfc_scene.proofs.Following.{persists_not, persists_on, same_asked}
use Rattle.pfc_scene.proofs.Moving.{plays_not, plays_on}
use Rattle.pfc_scene.proofs.scene.Scene.settle_all.Goals as goal

pub loop-j-init : goal.loop-j-init
loop-j-init g c = record {
  sound = c.requires.sound;
  lent = c.requires.lent;
  plays = plays_not _ _;
  persists = λ told tells. persists_not _ _ _;
  unlisted = refl;
  len = search rules;
}

pub loop-j-preserved : goal.loop-j-preserved
loop-j-preserved g c = record {
  sound = c.settle.ensures.sound;
  lent = c.settle.ensures.lent;
  plays = plays_on _ _ _ _ _ _ c.loop-j.invariant.plays c.settle.ensures.plays;
  persists = λ told tells. persists_on _ _ _ _ _ _ _ (same_asked _ _ c.settle.ensures.plays.same) (c.loop-j.invariant.persists told tells) (c.settle.ensures.persists told tells);
  unlisted = c.settle.ensures.unlisted ∙ c.loop-j.invariant.unlisted;
  len = omega (arith, c.settle.ensures.plays.clients_are, c.loop-j.invariant.len);
}
