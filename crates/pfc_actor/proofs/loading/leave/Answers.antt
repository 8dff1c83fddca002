use Rattle.std.proofs.Common.{◌≡◌, ◌∙◌, ℕ, ◌<◌, [], ◌∷◌, ◌++◌, ap, arith}
use Rattle.pfc_base.specs.declared.block.Part.{Part}
use Rattle.pfc_log.specs.declared.entry.Entry.TheVariants.{Direct}
use Rattle.pfc_log.specs.declared.entry.Way.TheVariants.{Device}
use Rattle.pfc_core.specs.Disks.{GoesBroken}
use Rattle.pfc_core.specs.Marks.{Mark, listed}
use Rattle.pfc_core.specs.View.{CoreView}
use Rattle.pfc_read.specs.OpView.{OpView}
use Rattle.pfc_actor.specs.Books.{BookView}
use Rattle.pfc_actor.specs.Stages.{Loads}
use Rattle.pfc_actor.specs.StageView as st
use Rattle.pfc_actor.specs.Steps.{Knows}
use Rattle.pfc_actor.proofs.Holding.{sees_self}
use Rattle.pfc_actor.proofs.Going.{broken_step}
use Rattle.pfc_actor.proofs.loading.leave.Goals as goal

-- the core has the right to read that the client holds
right_known : (b : BookView) (op : OpView) (disk : Mark) (part : Part) (c : CoreView) → Loads b op disk part → Knows b (st.Broken op disk part) c → op.reading.instance ≡ c.instance → 0 < listed disk c.out
right_known b op disk part c loads knows here =
    let known = knows.known disk (loads.disk_for.token.instance_is ∙ here) in let one = sees_self disk in omega (arith, known, one)

left_entered : (c c2 : CoreView) (disk : Mark) (n : ℕ) → GoesBroken c disk c2 → disk.client ≡ n → c2.entries ≡ c.entries ++ Direct disk.block n Device ∷ []
left_entered c c2 disk n leaves mine = ap (λ (v : CoreView). v.entries) leaves.enters ∙ ap (λ (k : ℕ). c.entries ++ Direct disk.block k Device ∷ []) mine

pub returns-clause-step : goal.returns-clause-step
returns-clause-step g c =
    broken_step _ _ _ _ _ c.args.part _ _ (c.leave_broken.ensures.known (right_known _ _ _ _ c.args.core.now c.requires.work c.requires.knows c.requires.here)) c.owe.ensures c.requires.here
    (c.requires.work.disk_for.token.client_is ∙ c.requires.work.goes.client_is)

pub returns-clause-enters : goal.returns-clause-enters
returns-clause-enters g c =
    left_entered c.args.core.now _ _ _ (c.leave_broken.ensures.known (right_known _ _ _ _ c.args.core.now c.requires.work c.requires.knows c.requires.here)) (c.requires.work.disk_for.token.client_is ∙ c.requires.work.goes.client_is)
