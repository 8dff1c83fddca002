-- How the parts of a read come.
use Rattle.std.specs.Prelude.{◌≡◌, ◌+◌}
use Rattle.pfc_base.specs.declared.block.Part.{Part}
use Rattle.pfc_log.specs.declared.entry.Fell.TheVariants.{Memory}
use Rattle.pfc_core.specs.Leave.{leave_of}
use Rattle.pfc_core.specs.Looks.{StillFlies, IsThere, LeavesFor, FailedItself, IsStranger}
use Rattle.pfc_core.specs.Marks.{Mark, Gains}
use Rattle.pfc_core.specs.View.{CoreView}
use Rattle.pfc_read.specs.declared.action.Saw.{Saw}
use Rattle.pfc_read.specs.declared.action.Saw.TheVariants as saw
use Rattle.pfc_read.specs.OpView.{Nothing, OpView, first_met}

-- the pin goes back, to be looked at again
pub record LooksAgain (old : OpView) (pin : Mark) (new : OpView) : Type 0 where
  pub gains : Gains old.pins pin new.pins
  pub rest : new ≡ record old { pins = new.pins; looks = old.looks + 1; given = Nothing }

-- the part came, and the pin goes back
pub record Fills (old : OpView) (pin : Mark) (new : OpView) : Type 0 where
  pub gains : Gains old.pins pin new.pins
  pub rest : new ≡ record old { pins = new.pins; given = Nothing }

-- a leave came in the place of the pin, or of the right to read from disk
pub record Owes (old new : OpView) : Type 0 where
  pub rest : new ≡ record old { leaves = old.leaves + 1; directs = old.directs + 1; given = Nothing }

-- the part won't come, and the pin goes back
pub record Lacks (old : OpView) (pin : Mark) (new : OpView) : Type 0 where
  pub gains : Gains old.pins pin new.pins
  pub rest : new ≡ record old { pins = new.pins; met = first_met old.met Memory; given = Nothing }

-- what a look changes in the core and in the read, by what it found
abbrev pub LooksAt : CoreView → OpView → Mark → Part → Saw → OpView → CoreView → Type 0
LooksAt old op pin part saw.Flying op' new = StillFlies old pin pin new × LooksAgain op pin op'
LooksAt old op pin part saw.Ready op' new = IsThere old pin pin new × Fills op pin op'
LooksAt old op pin part saw.Lost op' new = LeavesFor old pin part (leave_of pin part) new × Owes op op'
LooksAt old op pin part saw.Own op' new = FailedItself old pin pin new × Lacks op pin op'
LooksAt old op pin part saw.Stray op' new = IsStranger old pin part (leave_of pin part) new × Owes op op'
