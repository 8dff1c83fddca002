use Rattle.std.proofs.Common.{rules, ◌≡◌, false, sym, subst}
use Rattle.std.specs.Prelude.{Option, Some, option_map, slice_index_or}
use Rattle.pfc_writer.specs.Writer.{Task}
use Rattle.pfc_scene.specs.Scenes.{SceneView}
use Rattle.pfc_scene.proofs.Moving.{moves_from}
use Rattle.pfc_scene.proofs.Writing.{ends_at, own_put, jobs_put, not_returning, end_scene, end_moves}
use Rattle.pfc_scene.proofs.scene.Scene.end_job.Goals as goal

pub invariant_of-self : goal.invariant_of-self
invariant_of-self g c =
    end_scene _ c.args.w c.args.i c.index_mut.result.now c.end-ended.new.self c.index_mut-2.result.now c.end-ended.new.core c.self.invariant (search rules) (search rules) c.index_mut.ensures.value c.index_mut-2.ensures.value
    (not_returning c.self.inside.writers.items c.args.w c.index_mut.result.now c.index_mut.ensures.value
    (subst (λ (v : SceneView). (d : Option Task) → option_map (λ (t : Task). t.returning) (slice_index_or v.writers c.args.w d) ≡ Some false) (sym c.self.view_is) c.requires.phase))
    (ends_at c.end-ended.result c.index_mut.result.now c.end-ended.new.self c.index_mut-2.result.now c.end-ended.new.core c.end-ended.ensures.yes c.end-ended.ensures.no)
    (own_put c.self.inside.cores.items c.args.i c.index.result.now c.end-ended.new.core (search rules) c.index.ensures c.own.ensures.own)
    (jobs_put c.self.inside.cores.items c.args.i c.index.result.now c.end-ended.new.core (search rules) c.index.ensures c.own.ensures.jobs)

pub returns : goal.returns
returns g c =
    moves_from _ _ _ c.self.view_is
    (end_moves _ c.args.w c.args.i c.index_mut.result.now c.end-ended.new.self c.index_mut-2.result.now c.end-ended.new.core c.self.invariant (search rules) c.index_mut-2.ensures.value
    (ends_at c.end-ended.result c.index_mut.result.now c.end-ended.new.self c.index_mut-2.result.now c.end-ended.new.core c.end-ended.ensures.yes c.end-ended.ensures.no))
