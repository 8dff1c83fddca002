-- What contracts see of the stage of a client's work.
use Rattle.std.specs.Prelude.{ℕ}
use Rattle.pfc_base.specs.declared.block.Part.{Part}
use Rattle.pfc_span.specs.declared.pieces.Pieces.{Pieces}
use Rattle.pfc_core.specs.Leave.{LeaveView}
use Rattle.pfc_core.specs.Marks.{Mark}
use Rattle.pfc_read.specs.OpView.{OpView}
use Rattle.pfc_actor.specs.Wanted.{WantedView}

-- No request is at work. An open whose size is known, which then makes a core of its file or has found one. A read that
-- isn't planned yet, a close, and what is left of it. A read that goes on, with a landed block that is to be put to the
-- queue, or that found the queue full, with so many jobs. A read at a part that is on disk, which wants the file's store lent, has it, has read the
-- part, couldn't read it, or leaves it for the origin. Within a step, a read with the action that it gave.
pub data StageView : Type 0 where
  Rest : StageView
  Wanted : (wanted : WantedView) → StageView
  Making : (wanted : WantedView) → StageView
  Joining : (wanted : WantedView) → StageView
  Planning : (number : ℕ) (pieces : Pieces) → StageView
  Closing : (number : ℕ) → StageView
  Closed : StageView
  Reading : (op : OpView) → StageView
  Landed : (op : OpView) (job : Mark) → StageView
  Full : (op : OpView) (job : Mark) (capacity : ℕ) → StageView
  Loading : (op : OpView) (disk : Mark) (part : Part) → StageView
  Borrowing : (op : OpView) (disk : Mark) (part : Part) → StageView
  Loaded : (op : OpView) (disk : Mark) → StageView
  Refused : (op : OpView) (disk : Mark) (part : Part) → StageView
  Broken : (op : OpView) (disk : Mark) (part : Part) → StageView
  Running : (op : OpView) (ticket : Mark) → StageView
  Directing : (op : OpView) (leave : LeaveView) → StageView
  Looking : (op : OpView) (pin : Mark) (part : Part) → StageView
  Ending : (op : OpView) → StageView
