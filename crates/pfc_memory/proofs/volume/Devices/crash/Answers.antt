use Rattle.pfc_memory.specs.Data.{data_run}
use Rattle.pfc_memory.specs.Mains.{info_run}
use Rattle.std.proofs.Common.{ap, ◌∙◌}
use Rattle.pfc_memory.specs.Depot.{AreFresh}
use Rattle.pfc_memory.specs.Numbers.{fails_of, fuse_of}
use Rattle.pfc_memory.proofs.Images.{settled_one, main_one}
use Rattle.pfc_memory.proofs.volume.Devices.crash.Goals as goal

pub returns : goal.returns
returns c =
    let first = c.in_ok-crash.ensures in
    let second = c.in_ok-crash-2.ensures in
    let share = c.in_ok-share.ensures in
    let other = c.in_ok-share-2.ensures in
    let fresh : AreFresh c.args.numbers.now (record { «data» = c.in_ok-crash.field-0; info = c.in_ok-crash-2.field-0 }) = record {
      of_data = record { fails = ap fails_of first.numbers ∙ share.fails; fuse = ap fuse_of first.numbers ∙ share.fuse; unburnt = first.fresh; none = first.faults };
      of_info = record { fails = ap fails_of second.numbers ∙ other.fails; fuse = ap fuse_of second.numbers ∙ other.fuse; unburnt = second.fresh; none = second.faults };
    } in
    record { fresh = fresh; left_data = settled_one (data_run c.args.self.data).now (data_run c.in_ok-crash.field-0).now first.settled first.image; left_main = main_one (info_run c.args.self.info).now (info_run c.in_ok-crash-2.field-0).now second.image second.only }
