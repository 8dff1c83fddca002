use Rattle.std.proofs.Common.{refl, ◌^◌, arith, ◌≡◌, ◌<◌, ℕ, Some, Option, sym, subst}
use Rattle.std.specs.Prelude.{IfSome, slice_get}
use Rattle.std.proofs.lemmas.Option.{slice_get_within}
use Rattle.pfc_catalog.specs.Entry.{shell_of}
use Rattle.pfc_catalog.proofs.Tables.{table-put, all-low, new-all_low}
use Rattle.pfc_catalog.proofs.Totals.{total-room, total-has, total-put}
use Rattle.pfc_catalog.proofs.Orders.{put-noted}
use Rattle.pfc_catalog.proofs.catalog.Catalog.put.Goals as goal

pub overflow_sub-self : goal.overflow_sub-self
overflow_sub-self c =
    let there : slice_get c.self.inside.files c.args.place ≡ Some (c.args.path.now, c.args.was) = rw (← c.self.view_is) at c.requires.there in
    total-has _ _ c.self.invariant.total _ (c.args.path.now, c.args.was) there

pub overflow_add-self : goal.overflow_add-self
overflow_add-self c = let room = total-room _ _ c.self.invariant.total in omega (arith, room)

pub free-requires : goal.free-requires
free-requires c =
    let there : slice_get c.self.inside.files c.args.place ≡ Some (c.args.path.now, c.args.was) = rw (← c.self.view_is) at c.requires.there in
    subst (λ (o : Option ℕ). IfSome o (λ s. s < 256)) (sym c.shell.ensures)
    (all-low c.self.inside.files c.self.inside.shells c.self.invariant.table c.args.place (c.args.path.now, c.args.was) there (shell_of c.args.was.state) refl)

pub give-requires : goal.give-requires
give-requires c =
    let there : slice_get c.self.inside.files c.args.place ≡ Some (c.args.path.now, c.args.was) = rw (← c.self.view_is) at c.requires.there in
    subst (λ (o : Option ℕ). IfSome o (λ s. s < 256)) (sym c.shell-2.ensures)
    (new-all_low c.self.inside.files c.self.inside.shells c.self.invariant.table c.args.place (c.args.path.now, c.args.was) there (shell_of c.args.entry.state) (rw (← c.self.view_is) at c.requires.shell))

pub set-requires : goal.set-requires
set-requires c =
    let there : slice_get c.self.inside.files c.args.place ≡ Some (c.args.path.now, c.args.was) = rw (← c.self.view_is) at c.requires.there in
    slice_get_within _ _ _ there

pub invariant_of-self : goal.invariant_of-self
invariant_of-self c =
    let there : slice_get c.self.inside.files c.args.place ≡ Some (c.args.path.now, c.args.was) = rw (← c.self.view_is) at c.requires.there in
    let low : c.args.entry.usage < 2 ^ 64 = omega arith in
    record {
      table = rw (c.set.ensures, c.give.ensures, c.free.ensures, c.shell.ensures, c.shell-2.ensures)
          (table-put c.self.inside.files c.self.inside.shells c.self.invariant.table c.args.place (c.args.path.now, c.args.was) there c.args.entry (rw (← c.self.view_is) at c.requires.shell));
      total = rw c.set.ensures (total-put c.self.inside.files c.self.inside.total c.self.invariant.total c.args.place (c.args.path.now, c.args.was) c.args.entry there low);
      order = rw c.set.ensures (put-noted c.self.inside.files c.self.inside.order c.forget.new.self c.note.new.self c.args.path.now c.args.place c.args.was c.args.entry c.len-count.ensures.distinct there
          c.self.invariant.order c.forget.ensures.whole c.forget.ensures.keys c.note.ensures.whole c.note.ensures.keys);
      next = c.self.invariant.next;
    }
