use Rattle.std.proofs.Common.{◌≡◌, ap, arith, length, subst, sym}
use Rattle.std.specs.Prelude.{All, Option, None}
use Rattle.std.proofs.lemmas.List.{length_push}
use Rattle.std.proofs.lemmas.List.Elements.{All-push}
use Rattle.pfc_writer.specs.Writer.{Task}
use Rattle.pfc_scene.proofs.run.make_writers.Goals as goal

pub loop-writer-preserved : goal.loop-writer-preserved
loop-writer-preserved g c = record {
  resting = subst (All (λ (job : Option Task). job ≡ None)) (sym c.push_reserved.ensures.items) (All-push (λ (job : Option Task). job ≡ None) _ _ c.loop-writer.invariant.resting c.new.ensures);
  same_length = let long = ap length c.push_reserved.ensures.items in omega (arith, long, length_push c.loop-writer.writers.items c.new.result, c.loop-writer.invariant.same_length);
  room = omega (arith, c.push_reserved.ensures.capacity, c.loop-writer.invariant.room);
}
