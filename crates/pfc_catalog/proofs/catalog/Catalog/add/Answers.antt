use Rattle.std.proofs.Common.{arith, ◌<◌, ◌^◌}
use Rattle.pfc_catalog.proofs.Tables.{table-push}
use Rattle.pfc_catalog.proofs.Totals.{total-room, total-push}
use Rattle.pfc_catalog.proofs.Orders.{push-noted}
use Rattle.pfc_catalog.proofs.catalog.Catalog.add.Goals as goal

pub overflow_add-self : goal.overflow_add-self
overflow_add-self c = let room = total-room _ _ c.self.invariant.total in omega (arith, room)

pub invariant_of-self-2 : goal.invariant_of-self-2
invariant_of-self-2 c =
    let low : c.args.entry.usage < 2 ^ 64 = omega arith in
    record {
      table = rw c.in_ok-place.ensures.ok (table-push c.self.inside.files c.self.inside.shells c.self.invariant.table (c.copy.result, c.args.entry) c.requires.free);
      total = rw c.in_ok-place.ensures.ok (total-push c.self.inside.files c.self.inside.total c.self.invariant.total (c.copy.result, c.args.entry) low);
      order = rw (c.in_ok-place.ensures.ok, c.copy.ensures) (push-noted c.self.inside.files c.self.inside.order c.note.new.self c.args.path.now c.args.entry (rw (← c.self.view_is) at c.requires.absent)
          c.self.invariant.order c.note.ensures.whole c.note.ensures.keys);
      next = c.self.invariant.next;
    }
