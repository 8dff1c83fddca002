use Rattle.std.proofs.Common.{refl, sym, ◌∙◌, rules}
use Rattle.pfc_memory.specs.Mains.{info_of}
use Rattle.pfc_memory.proofs.Mains.{torn_has, shown_has, others_have}
use Rattle.pfc_memory.proofs.info.MemoryInfo.may_hold.Goals as goal

pub returns-then-now : goal.returns-then-now
returns-then-now c = ((λ h. torn_has (info_of c.args.self.now.history.now) h), (λ _. c.if-now.true))

pub returns-then-is_some : goal.returns-then-is_some
returns-then-is_some c =
    let state = c.args.self.now.history.now in
    ((λ _. shown_has (info_of state) state.shown refl (sym c.is_some.ensures ∙ c.if-is_some.true)), (λ _. c.if-is_some.true))

pub returns-else-is_some : goal.returns-else-is_some
returns-else-is_some c =
    let state = c.args.self.now.history.now in
    others_have (info_of state) state.shown state.others.items c.is_some_main.result c.if-now.false refl (sym c.is_some.ensures ∙ c.if-is_some.false) refl (search rules)
