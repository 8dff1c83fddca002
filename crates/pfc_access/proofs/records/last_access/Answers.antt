use Rattle.std.proofs.Common.{◌≡◌, suc, ◌-◌, ◌∙◌, length, sym, ap, arith}
use Rattle.std.specs.Prelude.{max}
use Rattle.pfc_base.specs.Cinfo.{Record, Head}
use Rattle.pfc_access.specs.Records.{last_use}
use Rattle.pfc_access.proofs.Newest.{newest_use}
use Rattle.pfc_access.proofs.records.last_access.Goals as goal

pub returns : goal.returns
returns c =
    let xs = c.as_slice-records.result.now in let n = length xs - 1 in
    let long : length xs ≡ suc n = omega (arith, c.if-count-eq0.false) in
    let latest = newest_use xs n c.index-records-count.result long in
    c.max.ensures ∙ ap (λ (r : Record). max r.attach r.detach) (c.newest.view_is ∙ c.index-records-count.is) ∙ sym latest
    ∙ ap last_use (c.as_slice-records.ensures.records ∙ ap (λ (h : Head). h.records) c.head.view_is)
