use Rattle.std.proofs.Common.{◌++◌, length, ap, ◌∙◌}
use Rattle.std.proofs.lemmas.Result.{on_ok_weaker}
use Rattle.pfc_base.specs.Cinfo.{Head, four, eight, header_of}
use Rattle.pfc_cinfo.proofs.Gather.{behind, gather_header}
use Rattle.pfc_cinfo.proofs.encoding.put_header.Goals as goal

pub returns-clause-written : goal.returns-clause-written
returns-clause-written c =
    let head = c.head.inside in
    on_ok_weaker c.put_four-2.result
    (λ last claims. last
    ∙ ap (λ n. c.put_eight-4.new.out.items ++ four n) (ap length c.as_slice.ensures.records)
    ∙ behind (four (length head.records)) (c.in_ok-put_eight-4.ensures.ok
    ∙ behind (eight head.accesses) (c.in_ok-put_eight-3.ensures.ok
    ∙ behind (eight head.created) (c.in_ok-put_eight-2.ensures.ok
    ∙ behind (eight c.args.size) (c.in_ok-put_eight.ensures.ok
    ∙ behind (eight c.args.block) c.in_ok-put_four.ensures.ok))))
    ∙ gather_header c.args.out.now.items (record { block = c.args.block; size = c.args.size; head = record { created = head.created; accesses = head.accesses; records = head.records }; claims = claims })
    ∙ ap (λ (h : Head). c.args.out.now.items ++ header_of (record { block = c.args.block; size = c.args.size; head = h; claims = claims })) c.head.view_is)
    c.put_four-2.ensures.ok
