use Rattle.std.proofs.Common.{subst, sym, ap}
use Rattle.std.specs.Prelude.{is_none}
use Rattle.pfc_memory.specs.Depot.{IsPlaceOf, IsGapFor, Gives}
use Rattle.pfc_memory.proofs.Lending.{gap_answer, gap_none, place_here, place_answer, place_path, is_away, lends_set, order_set}
use Rattle.pfc_memory.proofs.depot.MemoryDepotDepot.take.Goals as goal

pub invariant_of-self : goal.invariant_of-self
invariant_of-self g c =
    let place = subst (λ l. IsPlaceOf l c.args.path.now c.in-Ok.at) c.deref.ensures.value c.in-Ok.ensures.ok in
    record { order = order_set _ _ c.index_mut.result.now _ place.within (sym c.index_mut.ensures.value) c.lend.ensures.path c.args.self.now.order }

pub returns-in-Some-clause-lends : goal.returns-in-Some-clause-lends
returns-in-Some-clause-lends g c =
    let place = subst (λ l. IsPlaceOf l c.args.path.now c.in-Ok.at) c.deref.ensures.value c.in-Ok.ensures.ok in
    let is = c.index_mut.ensures.value in
    let v = c.index_mut.result.now in
    lends_set _ _ _ v _ c.in-Some.devices place (sym is) (sym c.in-Some.ensures.devices) (is_away _ c.in-Some.devices v _ (place_path _ _ _ v place is) c.in-Some.ensures.some)

pub returns-in-Some-clause-out_already : goal.returns-in-Some-clause-out_already
returns-in-Some-clause-out_already g c =
    let place = subst (λ l. IsPlaceOf l c.args.path.now c.in-Ok.at) c.deref.ensures.value c.in-Ok.ensures.ok in
    place_answer _ _ _ c.index_mut.result.now _ place c.index_mut.ensures.value (ap is_none (sym c.in-Some.ensures.devices))

pub returns-in-None-clause-out_already : goal.returns-in-None-clause-out_already
returns-in-None-clause-out_already g c =
    let place = subst (λ l. IsPlaceOf l c.args.path.now c.in-Ok.at) c.deref.ensures.value c.in-Ok.ensures.ok in
    place_answer _ _ _ c.index_mut.result.now _ place c.index_mut.ensures.value (ap is_none (sym c.in-None.ensures.devices))

pub returns-in-Ok-found-clause-out_already : goal.returns-in-Ok-found-clause-out_already
returns-in-Ok-found-clause-out_already g c = gap_answer _ _ _ (subst (λ l. IsGapFor l c.args.path.now c.in-Err.at) c.deref.ensures.value c.in-Err.ensures.err)

pub returns-in-Err-found-clause-out_already : goal.returns-in-Err-found-clause-out_already
returns-in-Err-found-clause-out_already g c = gap_answer _ _ _ (subst (λ l. IsGapFor l c.args.path.now c.in-Err.at) c.deref.ensures.value c.in-Err.ensures.err)

pub returns-in-Some-clause-given : goal.returns-in-Some-clause-given
returns-in-Some-clause-given g c =
    let place = subst (λ l. IsPlaceOf l c.args.path.now c.in-Ok.at) c.deref.ensures.value c.in-Ok.ensures.ok in
    let here = place_here _ _ _ c.index_mut.result.now place (sym c.index_mut.ensures.value) in
    subst (λ found. Gives c.args.self.now.numbers found c.in-Some.devices.data c.in-Some.devices.info) (sym here) (sym c.in-Some.ensures.devices)

pub returns-in-Ok-found-clause-given : goal.returns-in-Ok-found-clause-given
returns-in-Ok-found-clause-given g c =
    let none = gap_none _ _ _ (subst (λ l. IsGapFor l c.args.path.now c.in-Err.at) c.deref.ensures.value c.in-Err.ensures.err) in
    subst (λ found. Gives c.args.self.now.numbers found c.in-Ok-found.devices.data c.in-Ok-found.devices.info) (sym none) c.in-Ok-found.ensures.fresh
