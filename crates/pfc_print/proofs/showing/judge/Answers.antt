use Rattle.std.proofs.Common.{◌++◌, List, ℕ, Option, sym, ap, subst, ◌∙◌}
use Rattle.pfc_base.specs.Cinfo.{Cinfo, IsCinfo}
use Rattle.pfc_base.proofs.CinfoReading.{cinfo_in-is}
use Rattle.pfc_cinfo.specs.declared.damage.Damage.{Damage}
use Rattle.pfc_print.specs.Text.{cinfo_text, judged_text}
use Rattle.pfc_print.proofs.showing.judge.Goals as goal

pub returns-in_ok-push_cinfo-in-Ok-clause-text : goal.returns-in_ok-push_cinfo-in-Ok-clause-text
returns-in_ok-push_cinfo-in-Ok-clause-text c =
    let verbose = c.args.verbose in
    let name = c.args.name.now in
    let exact = c.in-Ok.ensures.exact in
    c.in_ok-push_cinfo-in-Ok.ensures ∙ ap (λ (l : List ℕ). l ++ cinfo_text verbose name c.in-Ok.cinfo) c.new-text.ensures.items
    ∙ ap (cinfo_text verbose name) (cinfo_in-is c.args.bytes.now c.in-Ok.cinfo exact.0)
    ∙ ap (λ (damage : Option Damage). judged_text damage verbose name c.args.bytes.now) (sym exact.1)

pub returns-in_ok-push_cinfo-in-Ok-clause-cinfo : goal.returns-in_ok-push_cinfo-in-Ok-clause-cinfo
returns-in_ok-push_cinfo-in-Ok-clause-cinfo c = λ whole.
    let is = c.in-Ok.ensures.exact.0 in
    subst (λ (s : Cinfo). IsCinfo c.args.bytes.now s) (cinfo_in-is c.args.bytes.now c.in-Ok.cinfo is) is
