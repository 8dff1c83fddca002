use Rattle.std.proofs.Common.{◌∙◌, ◌∷◌, [], refl, slice_index_or, sym, map}
use Rattle.pfc_report.specs.Plan.{line_of}
use Rattle.pfc_scene.specs.Scenes.{who}
use Rattle.pfc_scene.proofs.Following.{persists_not, persists_on, step_asked}
use Rattle.pfc_scene.proofs.Playing.{none_yet, plays_step}
use Rattle.pfc_scene.proofs.run.play.Goals as goal

pub loop-step-init : goal.loop-step-init
loop-step-init g c = record {
  sound = c.requires.sound;
  lent = c.requires.lent;
  persists = λ told tells. persists_not _ _ _;
  paid = λ f rose. rose;
  unlisted = refl;
  asked = sym (none_yet _);
  numbers = refl;
  same_length = refl;
  block_size = refl;
  capacity = refl;
}

pub loop-step-preserved : goal.loop-step-preserved
loop-step-preserved g c = record {
  sound = c.in_ok-play_step.ensures.sound;
  lent = c.in_ok-play_step.ensures.lent;
  persists = λ told tells. persists_on _ _ _ _ _ _ _ (step_asked (line_of (slice_index_or c.steps-step-items.result.now c.loop-step.step-index _) ∷ []) _ _ c.in_ok-play_step.ensures.asked) (c.loop-step.invariant.persists told tells) (c.in_ok-play_step.ensures.persists told tells);
  paid = λ f rose. c.in_ok-play_step.ensures.paid f (c.loop-step.invariant.paid f rose);
  unlisted = c.in_ok-play_step.ensures.unlisted ∙ c.loop-step.invariant.unlisted;
  asked = plays_step line_of c.steps-step-items.result.now c.args.plan.now c.loop-step.step-index _ (map who c.args.scene.now.clients) _ _ c.steps-step-items.ensures c.loop-step-test.true c.loop-step.invariant.asked c.in_ok-play_step.ensures.asked;
  numbers = c.in_ok-play_step.ensures.numbers ∙ c.loop-step.invariant.numbers;
  same_length = c.in_ok-play_step.ensures.length ∙ c.loop-step.invariant.same_length;
  block_size = c.in_ok-play_step.ensures.block_size ∙ c.loop-step.invariant.block_size;
  capacity = c.in_ok-play_step.ensures.capacity ∙ c.loop-step.invariant.capacity;
}

pub returns-in_err-play_step-clause-paid : goal.returns-in_err-play_step-clause-paid
returns-in_err-play_step-clause-paid g c f rose = c.play_step.ensures.paid f (c.loop-step.invariant.paid f rose)
