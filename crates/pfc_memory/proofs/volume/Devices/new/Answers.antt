use Rattle.pfc_memory.specs.Data.{data_run}
use Rattle.pfc_memory.specs.Mains.{info_run}
use Rattle.std.proofs.Common.{ap, ◌∙◌}
use Rattle.pfc_memory.specs.Numbers.{fails_of, fuse_of}
use Rattle.pfc_memory.proofs.Images.{empty_one, bare_one}
use Rattle.pfc_memory.proofs.volume.Devices.new.Goals as goal

pub returns-clause-data : goal.returns-clause-data
returns-clause-data c = empty_one (data_run c.new.result).now c.new.ensures.empty c.new.ensures.settled

pub returns-clause-main : goal.returns-clause-main
returns-clause-main c = bare_one (info_run c.new-2.result).now c.new-2.ensures.shown c.new-2.ensures.none

pub returns-clause-fresh : goal.returns-clause-fresh
returns-clause-fresh c =
    let first = c.new.ensures in
    let second = c.new-2.ensures in
    let share = c.in_ok-share.ensures in
    let other = c.in_ok-share-2.ensures in
    record {
      of_data = record { fails = ap fails_of first.numbers ∙ share.fails; fuse = ap fuse_of first.numbers ∙ share.fuse; unburnt = first.fresh; none = first.faults };
      of_info = record { fails = ap fails_of second.numbers ∙ other.fails; fuse = ap fuse_of second.numbers ∙ other.fuse; unburnt = second.fresh; none = second.faults };
    }
