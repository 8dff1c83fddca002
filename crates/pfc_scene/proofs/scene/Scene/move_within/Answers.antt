use Rattle.std.proofs.Common.{rules}
use Rattle.pfc_scene.proofs.Scenes.{steps_any, steps_here, steps_low}
use Rattle.pfc_scene.proofs.scene.Scene.move_within.Goals as goal

pub step_at-requires-clause-i : goal.step_at-requires-clause-i
step_at-requires-clause-i g c κs within = steps_low _ _ c.args.j c.in-Core.i c.index.result.now c.self.view_is c.self.invariant (search rules) c.index.ensures c.in-Core.ensures

pub step_at-requires-clause-here : goal.step_at-requires-clause-here
step_at-requires-clause-here g c κs within = steps_here _ _ c.args.j c.in-Core.i c.index.result.now c.self.view_is c.self.invariant (search rules) c.index.ensures c.in-Core.ensures

pub lend_at-requires-clause-i : goal.lend_at-requires-clause-i
lend_at-requires-clause-i g c κs within = steps_low _ _ c.args.j c.in-Lends.i c.index.result.now c.self.view_is c.self.invariant (search rules) c.index.ensures c.in-Lends.ensures

pub read_at-requires-clause-i : goal.read_at-requires-clause-i
read_at-requires-clause-i g c κs within = steps_low _ _ c.args.j c.in-Reads.i c.index.result.now c.self.view_is c.self.invariant (search rules) c.index.ensures c.in-Reads.ensures

pub return_at-requires-clause-i : goal.return_at-requires-clause-i
return_at-requires-clause-i g c κs within = steps_low _ _ c.args.j c.in-Returns.i c.index.result.now c.self.view_is c.self.invariant (search rules) c.index.ensures c.in-Returns.ensures

pub return_at-requires-clause-here : goal.return_at-requires-clause-here
return_at-requires-clause-here g c κs within = steps_any _ _ c.args.j c.in-Returns.i c.index.result.now c.self.view_is (search rules) c.index.ensures c.in-Returns.ensures

pub leave_at-requires-clause-i : goal.leave_at-requires-clause-i
leave_at-requires-clause-i g c κs within = steps_low _ _ c.args.j c.in-Leaves.i c.index.result.now c.self.view_is c.self.invariant (search rules) c.index.ensures c.in-Leaves.ensures

pub leave_at-requires-clause-here : goal.leave_at-requires-clause-here
leave_at-requires-clause-here g c κs within = steps_here _ _ c.args.j c.in-Leaves.i c.index.result.now c.self.view_is c.self.invariant (search rules) c.index.ensures c.in-Leaves.ensures
