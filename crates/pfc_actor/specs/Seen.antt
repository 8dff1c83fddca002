-- A stage as contracts see it.
use Rattle.pfc_actor.specs.declared.stage.Stage.{Stage}
use Rattle.pfc_actor.specs.declared.stage.Stage.TheVariants as stage
use Rattle.pfc_actor.specs.StageView.{StageView, Rest, Wanted, Making, Joining, Planning, Closing, Closed, Reading, Landed, Full, Loading, Borrowing, Loaded, Refused, Broken}

abbrev pub seen : {W : Type 0} → Stage W → StageView
seen stage.Rest = Rest
seen (stage.Wanted wanted) = Wanted wanted
seen (stage.Making wanted core) = Making wanted
seen (stage.Joining wanted) = Joining wanted
seen (stage.Planning number pieces) = Planning number pieces
seen (stage.Closing number) = Closing number
seen stage.Closed = Closed
seen (stage.Reading op) = Reading op
seen (stage.Landed op job) = Landed op job
seen (stage.Full op job capacity) = Full op job capacity
seen (stage.Loading op disk part) = Loading op disk part
seen (stage.Borrowing op disk part) = Borrowing op disk part
seen (stage.Loaded op disk) = Loaded op disk
seen (stage.Refused op disk part) = Refused op disk part
seen (stage.Broken op disk part) = Broken op disk part
