use Rattle.std.proofs.Common.{◌≡◌, ◌+◌, ◌*◌, ◌∙◌, length, sym, ap, subst}
use Rattle.pfc_base.specs.declared.block.Part.{Part}
use Rattle.pfc_world.specs.Files.{Holds}
use Rattle.pfc_core.specs.Leave.{leave_of}
use Rattle.pfc_read.specs.OpView.{OpView, ToLook}
use Rattle.pfc_read.specs.Steps.{IsPinFor}
use Rattle.pfc_read.specs.Kept.{given_of}
use Rattle.pfc_read.proofs.Written.{part-long, written-part}
use Rattle.pfc_read.proofs.Moves.{kept-flying, kept-ready, kept-own, kept-owes, placed-pin, same-look}
use Rattle.pfc_read.proofs.op.ReadOp.look.Goals as goal

pub invariant_of-self : goal.invariant_of-self
invariant_of-self g c =
    let s = c.self.inside in
    let seg = c.in-Pin.segment in
    let told = g.W.World.told in
    let files = g.W.World.files in
    let into = c.look.new.into in
    let within = (placed-pin told files s seg c.in-Pin.is c.self.invariant).within in
    let long : length into ≡ seg.part.len = part-long seg.at seg.part.len c.deref_mut.result.now s.bytes.items into c.deref_mut.ensures.value within c.in-Flying.ensures.length in
    let w = written-part s.bytes c.deref_mut.result.now seg.at seg.part.len into c.deref_mut.ensures.value within long in
    let reading : c.args.self.now.reading ≡ s.reading = ap (λ (v : OpView). v.reading) (sym c.self.view_is) in
    let given : ToLook seg.part ≡ ToLook c.args.part = ap given_of (sym c.in-Pin.is) ∙ ap (λ (v : OpView). v.given) c.self.view_is ∙ c.requires.given in
    let part : c.args.part ≡ seg.part = sym (same-look seg.part c.args.part given) in
    let pin_for : IsPinFor s.reading seg.part c.args.pin = subst (λ r. IsPinFor r seg.part c.args.pin) reading (subst (λ (p : Part). IsPinFor c.args.self.now.reading p c.args.pin) part c.requires.pin) in
    let looks = c.in-Flying.ensures.looks in
    let back : c.in-Flying.pin ≡ c.args.pin = looks.back_is in
    let same : IsPinFor s.reading seg.part c.in-Flying.pin = subst (IsPinFor s.reading seg.part) (sym back) pin_for in
    kept-flying told files s seg _ into c.in-Flying.pin c.push_reserved.new.self c.in-Pin.is long w same c.push_reserved.ensures.items c.push_reserved.ensures.capacity c.self.invariant

pub invariant_of-self-in-Ready : goal.invariant_of-self-in-Ready
invariant_of-self-in-Ready g c =
    let s = c.self.inside in
    let seg = c.in-Pin.segment in
    let told = g.W.World.told in
    let files = g.W.World.files in
    let into = c.look.new.into in
    let within = (placed-pin told files s seg c.in-Pin.is c.self.invariant).within in
    let long : length into ≡ seg.part.len = part-long seg.at seg.part.len c.deref_mut.result.now s.bytes.items into c.deref_mut.ensures.value within c.in-Ready.ensures.length in
    let w = written-part s.bytes c.deref_mut.result.now seg.at seg.part.len into c.deref_mut.ensures.value within long in
    let reading : c.args.self.now.reading ≡ s.reading = ap (λ (v : OpView). v.reading) (sym c.self.view_is) in
    let given : ToLook seg.part ≡ ToLook c.args.part = ap given_of (sym c.in-Pin.is) ∙ ap (λ (v : OpView). v.given) c.self.view_is ∙ c.requires.given in
    let part : c.args.part ≡ seg.part = sym (same-look seg.part c.args.part given) in
    let pin_for : IsPinFor s.reading seg.part c.args.pin = subst (λ r. IsPinFor r seg.part c.args.pin) reading (subst (λ (p : Part). IsPinFor c.args.self.now.reading p c.args.pin) part c.requires.pin) in
    let looks = c.in-Ready.ensures.looks in
    let back : c.in-Ready.pin ≡ c.args.pin = looks.back_is in
    let same : IsPinFor s.reading seg.part c.in-Ready.pin = subst (IsPinFor s.reading seg.part) (sym back) pin_for in
    let path : c.args.pin.path ≡ s.reading.path = pin_for.token.path_is in
    let k : c.args.pin.block_size ≡ s.reading.block_size = pin_for.token.block_size_is in
    let holds : Holds told files s.reading.path (seg.part.block * s.reading.block_size + seg.part.from) into =
    subst (λ p. Holds told files p (seg.part.block * s.reading.block_size + seg.part.from) into) path
    (subst (λ b. Holds told files c.args.pin.path (seg.part.block * b + seg.part.from) into) k
    (subst (λ (p : Part). Holds told files c.args.pin.path (p.block * c.args.pin.block_size + p.from) into) part c.in-Ready.ensures.ready)) in
    kept-ready told files s seg _ into c.in-Ready.pin c.push_reserved-in-Ready.new.self c.plus-self-inside.result c.in-Pin.is long w holds same.token c.push_reserved-in-Ready.ensures.items c.push_reserved-in-Ready.ensures.capacity c.plus-self-inside.ensures c.self.invariant

pub invariant_of-self-in-Lost : goal.invariant_of-self-in-Lost
invariant_of-self-in-Lost g c =
    let s = c.self.inside in
    let seg = c.in-Pin.segment in
    let told = g.W.World.told in
    let files = g.W.World.files in
    let into = c.look.new.into in
    let within = (placed-pin told files s seg c.in-Pin.is c.self.invariant).within in
    let long : length into ≡ seg.part.len = part-long seg.at seg.part.len c.deref_mut.result.now s.bytes.items into c.deref_mut.ensures.value within c.in-Lost.ensures.length in
    let w = written-part s.bytes c.deref_mut.result.now seg.at seg.part.len into c.deref_mut.ensures.value within long in
    let reading : c.args.self.now.reading ≡ s.reading = ap (λ (v : OpView). v.reading) (sym c.self.view_is) in
    let given : ToLook seg.part ≡ ToLook c.args.part = ap given_of (sym c.in-Pin.is) ∙ ap (λ (v : OpView). v.given) c.self.view_is ∙ c.requires.given in
    let part : c.args.part ≡ seg.part = sym (same-look seg.part c.args.part given) in
    let pin_for : IsPinFor s.reading seg.part c.args.pin = subst (λ r. IsPinFor r seg.part c.args.pin) reading (subst (λ (p : Part). IsPinFor c.args.self.now.reading p c.args.pin) part c.requires.pin) in
    let looks = c.in-Lost.ensures.looks in
    let leave : c.in-Lost.leave ≡ leave_of c.args.pin seg.part = looks.leave_is ∙ ap (leave_of c.args.pin) part in
    kept-owes told files s seg _ into c.args.pin c.in-Lost.leave c.add_owed.new.owed c.in-Pin.is long w pin_for.token leave c.add_owed.ensures.items c.add_owed.ensures.room c.self.invariant

pub invariant_of-self-in-Own : goal.invariant_of-self-in-Own
invariant_of-self-in-Own g c =
    let s = c.self.inside in
    let seg = c.in-Pin.segment in
    let told = g.W.World.told in
    let files = g.W.World.files in
    let into = c.look.new.into in
    let within = (placed-pin told files s seg c.in-Pin.is c.self.invariant).within in
    let long : length into ≡ seg.part.len = part-long seg.at seg.part.len c.deref_mut.result.now s.bytes.items into c.deref_mut.ensures.value within c.in-Own.ensures.length in
    let w = written-part s.bytes c.deref_mut.result.now seg.at seg.part.len into c.deref_mut.ensures.value within long in
    let reading : c.args.self.now.reading ≡ s.reading = ap (λ (v : OpView). v.reading) (sym c.self.view_is) in
    let given : ToLook seg.part ≡ ToLook c.args.part = ap given_of (sym c.in-Pin.is) ∙ ap (λ (v : OpView). v.given) c.self.view_is ∙ c.requires.given in
    let part : c.args.part ≡ seg.part = sym (same-look seg.part c.args.part given) in
    let pin_for : IsPinFor s.reading seg.part c.args.pin = subst (λ r. IsPinFor r seg.part c.args.pin) reading (subst (λ (p : Part). IsPinFor c.args.self.now.reading p c.args.pin) part c.requires.pin) in
    let looks = c.in-Own.ensures.looks in
    let back : c.in-Own.pin ≡ c.args.pin = looks.back_is in
    let same : IsPinFor s.reading seg.part c.in-Own.pin = subst (IsPinFor s.reading seg.part) (sym back) pin_for in
    kept-own told files s seg _ into c.in-Own.pin c.push_reserved-in-Own.new.self c.first-self-inside.result c.in-Pin.is w same.token c.push_reserved-in-Own.ensures.items c.push_reserved-in-Own.ensures.capacity c.first-self-inside.ensures c.self.invariant

pub invariant_of-self-in-Stray : goal.invariant_of-self-in-Stray
invariant_of-self-in-Stray g c =
    let s = c.self.inside in
    let seg = c.in-Pin.segment in
    let told = g.W.World.told in
    let files = g.W.World.files in
    let into = c.look.new.into in
    let within = (placed-pin told files s seg c.in-Pin.is c.self.invariant).within in
    let long : length into ≡ seg.part.len = part-long seg.at seg.part.len c.deref_mut.result.now s.bytes.items into c.deref_mut.ensures.value within c.in-Stray.ensures.length in
    let w = written-part s.bytes c.deref_mut.result.now seg.at seg.part.len into c.deref_mut.ensures.value within long in
    let reading : c.args.self.now.reading ≡ s.reading = ap (λ (v : OpView). v.reading) (sym c.self.view_is) in
    let given : ToLook seg.part ≡ ToLook c.args.part = ap given_of (sym c.in-Pin.is) ∙ ap (λ (v : OpView). v.given) c.self.view_is ∙ c.requires.given in
    let part : c.args.part ≡ seg.part = sym (same-look seg.part c.args.part given) in
    let pin_for : IsPinFor s.reading seg.part c.args.pin = subst (λ r. IsPinFor r seg.part c.args.pin) reading (subst (λ (p : Part). IsPinFor c.args.self.now.reading p c.args.pin) part c.requires.pin) in
    let looks = c.in-Stray.ensures.looks in
    let leave : c.in-Stray.leave ≡ leave_of c.args.pin seg.part = looks.leave_is ∙ ap (leave_of c.args.pin) part in
    kept-owes told files s seg _ into c.args.pin c.in-Stray.leave c.add_owed-in-Stray.new.owed c.in-Pin.is long w pin_for.token leave c.add_owed-in-Stray.ensures.items c.add_owed-in-Stray.ensures.room c.self.invariant
