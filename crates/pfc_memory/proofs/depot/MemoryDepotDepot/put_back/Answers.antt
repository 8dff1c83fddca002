use Rattle.std.proofs.Common.{subst, sym, ap, ◌∙◌, ◌+◌, ◌≤◌, rules}
use Rattle.std.specs.Prelude.{is_none}
use Rattle.pfc_memory.specs.Depot.{lent_of, IsPlaceOf, IsGapFor}
use Rattle.pfc_memory.proofs.Lending.{order_set, place_answer, gap_answer, place_here, added, same_read, has, lacks, returns_home}
use Rattle.pfc_memory.specs.declared.volume.Volume.{Volume}
use Rattle.pfc_world.specs.Counts.{add_count, last_count}
use Rattle.pfc_world.specs.Depot.{risen}
use Rattle.pfc_memory.proofs.depot.MemoryDepotDepot.put_back.Goals as goal

pub returns-in_default-clause-answer : goal.returns-in_default-clause-answer
returns-in_default-clause-answer g c = gap_answer _ _ _ (subst (λ l. IsGapFor l c.args.path.now c.in_default.field-0) c.deref.ensures.value c.in_default.ensures.err)

pub returns-then-is_some-clause-answer : goal.returns-then-is_some-clause-answer
returns-then-is_some-clause-answer g c =
    let place = subst (λ l. IsPlaceOf l c.args.path.now c.in-Ok.at) c.deref.ensures.value c.in-Ok.ensures.ok in
    place_answer _ _ _ c.index.result.now _ place c.index.ensures (has c.index.result.now.home (sym c.if-is_some.ensures))

pub invariant_of-self : goal.invariant_of-self
invariant_of-self g c =
    let place = subst (λ l. IsPlaceOf l c.args.path.now c.in-Ok.at) c.deref.ensures.value c.in-Ok.ensures.ok in
    record { order = order_set _ _ c.index_mut.result.now _ place.within (sym c.index_mut.ensures.value) c.accept-first_rise.ensures.path c.args.self.now.order }

pub returns-clause-answer : goal.returns-clause-answer
returns-clause-answer g c =
    let place = subst (λ l. IsPlaceOf l c.args.path.now c.in-Ok.at) c.deref.ensures.value c.in-Ok.ensures.ok in
    place_answer _ _ _ c.index.result.now _ place c.index.ensures (ap is_none (lacks c.index.result.now.home (sym c.if-is_some.ensures)))

pub returns-clause-back : goal.returns-clause-back
returns-clause-back g c = λ _.
    let place = subst (λ l. IsPlaceOf l c.args.path.now c.in-Ok.at) c.deref.ensures.value c.in-Ok.ensures.ok in
    let v = c.index_mut.result.now in
    let is = c.index_mut.ensures.value in
    let read = same_read _ _ c.index.result.now v place.within c.index.ensures is in
    let none = ap (λ (x : Volume). x.home) (sym read) ∙ lacks c.index.result.now.home (sym c.if-is_some.ensures) in
    let done = c.accept-first_rise.ensures in
    returns_home _ _ _ v _ _ _ place is none done.path done.some done.home

pub returns-clause-faults : goal.returns-clause-faults
returns-clause-faults g c = λ _.
    let place = subst (λ l. IsPlaceOf l c.args.path.now c.in-Ok.at) c.deref.ensures.value c.in-Ok.ensures.ok in
    let v = c.index_mut.result.now in
    let here = place_here _ _ _ v place (sym c.index_mut.ensures.value) in
    let rise = c.accept-first_rise.ensures.risen in
    let fits : c.args.self.now.faults ≤ last_count = search rules in
    let sum = added c.args.self.now.faults _ _ _ _ fits c.saturating_add.ensures c.saturating_add-self.ensures in
    let first = c.args.first.calls.faults in
    let second = c.args.second.calls.faults in
    sum ∙ ap (λ n. add_count c.args.self.now.faults n) (ap (λ r. r.0 + r.1) rise ∙ sym (ap (λ found. risen (lent_of found) first second) here))
