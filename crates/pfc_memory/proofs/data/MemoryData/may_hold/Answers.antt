use Rattle.std.proofs.Common.{◌≡◌, length, arith, rules}
use Rattle.std.proofs.lemmas.Grind.{common_steps}
use Rattle.pfc_world.specs.Disk.{not_settled}
use Rattle.pfc_memory.specs.Places.{place_of, place_at}
use Rattle.pfc_memory.proofs.Disks.{holds_first}
use Rattle.pfc_memory.proofs.data.MemoryData.may_hold.Goals as goal

pub returns-else-not-is_empty : goal.returns-else-not-is_empty
returns-else-not-is_empty c =
    let state = c.args.self.now.history.now in
    let none : length state.bytes.items ≡ 0 = grind (arith, common_steps) in
    let is : c.is_loose.result ≡ not_settled (place_of (place_at state.places.items 0)) = search rules in
    rw is (holds_first state.bytes.items state.places.items none)
