use Rattle.std.proofs.Common.{◌≡◌, ◌++◌, Bool, List, ap, ◌∙◌}
use Rattle.std.specs.List.{flat_map}
use Rattle.std.proofs.lemmas.Result.{on_ok_weaker}
use Rattle.pfc_base.specs.Cinfo.{Record, Head, Cinfo}
use Rattle.pfc_print.specs.Text.{claims_text, record_text}
use Rattle.pfc_print.proofs.Texts.{behind, gather_cinfo}
use Rattle.pfc_print.proofs.text.push_cinfo.Goals as goal

pub returns : goal.returns
returns c =
    let cinfo = c.args.cinfo.now in
    let claims : c.cinfo.inside.claims ≡ cinfo.claims = ap (λ (s : Cinfo). s.claims) c.cinfo.view_is in
    let records : c.as_slice.result.now ≡ cinfo.head.records = c.as_slice.ensures.records ∙ ap (λ (h : Head). h.records) c.head.view_is ∙ ap (λ (s : Cinfo). s.head.records) c.cinfo.view_is in
    on_ok_weaker c.push_records.result
    (λ last. last ∙ ap (λ (rs : List Record). c.push_claims.new.out.items ++ flat_map record_text rs) records
    ∙ behind (flat_map record_text cinfo.head.records) (c.in_ok-push_claims.ensures ∙ ap (λ (set : List Bool). c.push_head.new.out.items ++ claims_text c.args.verbose set) claims
    ∙ behind (claims_text c.args.verbose cinfo.claims) c.in_ok-push_head.ensures)
    ∙ gather_cinfo c.args.out.now.items c.args.verbose c.args.word.now cinfo)
    c.push_records.ensures
