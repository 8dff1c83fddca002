use Rattle.std.proofs.Common.{◌++◌, ap, ◌∙◌}
use Rattle.std.proofs.lemmas.Result.{on_ok_weaker}
use Rattle.pfc_base.specs.Cinfo.{four, eight, record_of}
use Rattle.pfc_cinfo.proofs.Gather.{behind, gather_record}
use Rattle.pfc_cinfo.proofs.encoding.put_record.Goals as goal

pub returns-clause-written : goal.returns-clause-written
returns-clause-written c =
    let r = c.row.inside in
    on_ok_weaker c.put_eight-6.result
    (λ last. last
    ∙ behind (eight 0) (c.in_ok-put_eight-5.ensures.ok
    ∙ behind (eight r.bypassed) (c.in_ok-put_eight-4.ensures.ok
    ∙ behind (eight r.missed) (c.in_ok-put_eight-3.ensures.ok
    ∙ behind (eight r.hit) (c.in_ok-put_four-4.ensures.ok
    ∙ behind (four 0) (c.in_ok-put_four-3.ensures.ok
    ∙ behind (four r.merged) (c.in_ok-put_four-2.ensures.ok
    ∙ behind (four r.duration) (c.in_ok-put_four.ensures.ok
    ∙ behind (four r.ios) (c.in_ok-put_eight-2.ensures.ok
    ∙ behind (eight r.detach) c.in_ok-put_eight.ensures.ok))))))))
    ∙ gather_record c.args.out.now.items (record { attach = r.attach; detach = r.detach; ios = r.ios; duration = r.duration; merged = r.merged; hit = r.hit; missed = r.missed; bypassed = r.bypassed })
    ∙ ap (λ s. c.args.out.now.items ++ record_of s) c.row.view_is)
    c.put_eight-6.ensures.ok
