use Rattle.std.proofs.Common.{◌≡◌, Option, Some, None, Ok, subst, sym, ◌∙◌, true, false}
use Rattle.std.specs.Option.{is_some}
use Rattle.pfc_config.specs.declared.setting.Setting.{Setting}
use Rattle.pfc_config.specs.Line.{ReadsLine}
use Rattle.pfc_config.specs.Directive.{directive_set}
use Rattle.pfc_config.specs.Settings.{set_by}
use Rattle.pfc_config.proofs.Settled.{kind_of-alone, is_twice-some, is_twice-none, is_some-not, sets_some, sets_none}
use Rattle.pfc_config.proofs.settings.Settings.take.Goals as goal

pub returns-then-put : goal.returns-then-put
returns-then-put c before are n =
    let reads : ReadsLine c.args.capacity c.args.text.now (Ok (Some c.in-Some.setting)) = subst (λ (x : Option Setting). ReadsLine c.args.capacity c.args.text.now (Ok x)) c.in-Some.is c.in_ok-setting.ensures in
    kind_of-alone c.args.capacity before c.args.text.now true reads.0
    (is_twice-some c.args.capacity before c.args.self.now c.args.text.now c.in-Some.setting are reads.1 ∙ sym c.put.ensures.stood ∙ c.if-put.true)

pub returns-else-put : goal.returns-else-put
returns-else-put c before are n =
    let reads : ReadsLine c.args.capacity c.args.text.now (Ok (Some c.in-Some.setting)) = subst (λ (x : Option Setting). ReadsLine c.args.capacity c.args.text.now (Ok x)) c.in-Some.is c.in_ok-setting.ensures in
    let new : is_some (set_by c.args.self.now (directive_set c.in-Some.setting)) ≡ false = sym c.put.ensures.stood ∙ c.if-put.false in (
      kind_of-alone c.args.capacity before c.args.text.now false reads.0
          (is_twice-some c.args.capacity before c.args.self.now c.args.text.now c.in-Some.setting are reads.1 ∙ new),
      sets_some c.args.capacity c.args.number before c.args.text.now c.in-Some.setting c.args.self.now c.put.new.self are n reads
          (is_some-not (set_by c.args.self.now (directive_set c.in-Some.setting)) new) c.put.ensures.values c.put.ensures.line,
    )

pub returns-in-None : goal.returns-in-None
returns-in-None c before are n =
    let reads : ReadsLine c.args.capacity c.args.text.now (Ok None) = subst (λ (x : Option Setting). ReadsLine c.args.capacity c.args.text.now (Ok x)) c.in-None.is c.in_ok-setting.ensures in (
      kind_of-alone c.args.capacity before c.args.text.now false reads.0 (is_twice-none before c.args.text.now reads.1),
      sets_none c.args.capacity before c.args.text.now c.args.self.now are reads.1,
    )
