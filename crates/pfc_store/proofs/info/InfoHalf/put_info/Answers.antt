use Rattle.std.proofs.Common.{◌≡◌, ℕ, List, Option, Some, None, refl, sym, subst}
use Rattle.pfc_base.specs.Cinfo.{Cinfo, IsCinfo}
use Rattle.pfc_store.specs.Claims.{Says, ClaimsBetween}
use Rattle.pfc_store.proofs.Mains.{due_between, put_since, put_now, put_done, within_now}
use Rattle.pfc_store.proofs.info.InfoHalf.put_info.Goals as goal

pub returns-in-Some-clause-within : goal.returns-in-Some-clause-within
returns-in-Some-clause-within g c = rw (← c.self.view_is) (λ tells. let s = c.self.inside in within_now s.known.size s.block_size s.claimed s.due (g.I.InfoDev.seen s.device) (c.self.invariant.mains tells))

pub returns-in_err-bytes-clause-within : goal.returns-in_err-bytes-clause-within
returns-in_err-bytes-clause-within g c = rw (← c.self.view_is) (λ tells. let s = c.self.inside in within_now s.known.size s.block_size s.claimed s.due (g.I.InfoDev.seen s.device) (c.self.invariant.mains tells))

pub returns-in-Ok-clause-within : goal.returns-in-Ok-clause-within
returns-in-Ok-clause-within g c =
    let s = c.self.inside in
    let was = c.self.invariant in
    let old = g.I.InfoDev.seen s.device in
    let new = g.I.InfoDev.seen c.replace_main.new.device in
    let cinfo : Cinfo = record { block = s.block_size; size = c.size.result; head = c.args.head.now; claims = s.due } in
    let is : IsCinfo c.deref.result.now cinfo = subst (λ (b : List ℕ). IsCinfo b cinfo) (sym c.deref.ensures.value) c.in_ok-bytes.ensures in
    let next : ClaimsBetween s.known.size s.block_size s.claimed s.due cinfo = due_between s.known.size s.block_size s.claimed s.due cinfo c.size.ensures refl refl was.nested in
    rw (← c.self.view_is) (λ tells. put_since s.known.size s.block_size s.claimed s.due c.deref.result.now cinfo old new is next (was.mains tells) (c.in-Ok.ensures.moments tells))

pub returns-clause-within : goal.returns-clause-within
returns-clause-within g c =
    let s = c.self.inside in
    let was = c.self.invariant in
    let old = g.I.InfoDev.seen s.device in
    let new = g.I.InfoDev.seen c.replace_main.new.device in
    let cinfo : Cinfo = record { block = s.block_size; size = c.size.result; head = c.args.head.now; claims = s.due } in
    let is : IsCinfo c.deref.result.now cinfo = subst (λ (b : List ℕ). IsCinfo b cinfo) (sym c.deref.ensures.value) c.in_ok-bytes.ensures in
    let next : ClaimsBetween s.known.size s.block_size s.claimed s.due cinfo = due_between s.known.size s.block_size s.claimed s.due cinfo c.size.ensures refl refl was.nested in
    rw (← c.self.view_is) (λ tells. put_since s.known.size s.block_size s.claimed s.due c.deref.result.now cinfo old new is next (was.mains tells) (c.in-Err.ensures.moments tells))

pub returns-in-Ok-clause-claims : goal.returns-in-Ok-clause-claims
returns-in-Ok-clause-claims g c =
    let s = c.self.inside in
    let was = c.self.invariant in
    let old = g.I.InfoDev.seen s.device in
    let new = g.I.InfoDev.seen c.replace_main.new.device in
    let cinfo : Cinfo = record { block = s.block_size; size = c.size.result; head = c.args.head.now; claims = s.due } in
    let is : IsCinfo c.deref.result.now cinfo = subst (λ (b : List ℕ). IsCinfo b cinfo) (sym c.deref.ensures.value) c.in_ok-bytes.ensures in
    let said : IsCinfo c.deref.result.now (record { block = s.block_size; size = s.known.size; head = c.args.head.now; claims = s.due }) = subst (λ n. IsCinfo c.deref.result.now (record { block = s.block_size; size = n; head = c.args.head.now; claims = s.due })) c.size.ensures is in
    rw (← c.self.view_is) (λ tells main m. subst (λ (o : Option (List ℕ)). Says o (record { block = s.block_size; size = s.known.size; head = c.args.head.now; claims = s.due })) (sym (c.in-Ok.ensures.done refl tells main m)) said)

pub invariant_of-self-in-Err : goal.invariant_of-self-in-Err
invariant_of-self-in-Err g c =
    let s = c.self.inside in
    let was = c.self.invariant in
    let old = g.I.InfoDev.seen s.device in
    let new = g.I.InfoDev.seen c.replace_main.new.device in
    let cinfo : Cinfo = record { block = s.block_size; size = c.size.result; head = c.args.head.now; claims = s.due } in
    let is : IsCinfo c.deref.result.now cinfo = subst (λ (b : List ℕ). IsCinfo b cinfo) (sym c.deref.ensures.value) c.in_ok-bytes.ensures in
    let next : ClaimsBetween s.known.size s.block_size s.claimed s.due cinfo = due_between s.known.size s.block_size s.claimed s.due cinfo c.size.ensures refl refl was.nested in
    record {
      tiled = was.tiled;
      bounds = was.bounds;
      nested = was.nested;
      settled = λ thawed. let e : Some _ ≡ None = thawed in cc;
      mains = λ tells. put_now s.known.size s.block_size s.claimed s.due c.deref.result.now cinfo old new is next (was.mains tells) (c.in-Err.ensures.moments tells);
    }

pub invariant_of-self : goal.invariant_of-self
invariant_of-self g c =
    let s = c.self.inside in
    let was = c.self.invariant in
    let old = g.I.InfoDev.seen s.device in
    let new = g.I.InfoDev.seen c.replace_main.new.device in
    let cinfo : Cinfo = record { block = s.block_size; size = c.size.result; head = c.args.head.now; claims = s.due } in
    let is : IsCinfo c.deref.result.now cinfo = subst (λ (b : List ℕ). IsCinfo b cinfo) (sym c.deref.ensures.value) c.in_ok-bytes.ensures in
    let next : ClaimsBetween s.known.size s.block_size s.due s.due cinfo = due_between s.known.size s.block_size s.due s.due cinfo c.size.ensures refl refl (λ i in_due. in_due) in
    rw c.copy_from.ensures (record {
      tiled = was.tiled;
      bounds = refl;
      nested = λ i in_due. in_due;
      settled = λ thawed tells. c.in-Ok.ensures.settled refl tells;
      mains = λ tells. put_done s.known.size s.block_size s.due c.deref.result.now cinfo new.now is next (c.in-Ok.ensures.done refl tells);
    })
