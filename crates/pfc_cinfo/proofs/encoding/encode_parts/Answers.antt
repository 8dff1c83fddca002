use Rattle.std.proofs.Common.{◌≡◌, ◌++◌, List, ℕ, ap, subst, ◌∙◌, All, arith}
use Rattle.std.specs.List.{flat_map}
use Rattle.pfc_base.specs.Cinfo.{Record, Head, Cinfo, FitsRecord, header_of, record_of}
use Rattle.pfc_cinfo.proofs.Encoded.{IsCinfo-from_steps, room-for_sum}
use Rattle.pfc_cinfo.proofs.encoding.encode_parts.Goals as goal

pub put_sum-requires-2 : goal.put_sum-requires-2
put_sum-requires-2 c =
    let cinfo : Cinfo = record { block = c.args.block; size = c.args.size; head = c.args.head.now; claims = c.args.claims.now } in
    let same : c.as_slice-records.result.now ≡ cinfo.head.records = c.as_slice-records.ensures.records ∙ ap (λ (h : Head). h.records) c.head.view_is in
    let bitmap = c.in_ok-bytes_into.ensures.ok in
    room-for_sum cinfo bitmap.0 c.put_header.new.out.items c.put_sum.new.out.items c.bytes_into.new.into.items c.put_records.new.out.items
    (c.in_ok-put_header.ensures.written c.args.claims.now ∙ ap (λ (l : List ℕ). l ++ header_of cinfo) c.in_ok-out.ensures.items)
    c.in_ok-put_sum.ensures bitmap.1
    (c.in_ok-put_records.ensures.written ∙ ap (λ (rs : List Record). c.bytes_into.new.into.items ++ flat_map record_of rs) same)

pub returns : goal.returns
returns c =
    let cinfo : Cinfo = record { block = c.args.block; size = c.args.size; head = c.args.head.now; claims = c.args.claims.now } in
    let same : c.as_slice-records.result.now ≡ cinfo.head.records = c.as_slice-records.ensures.records ∙ ap (λ (h : Head). h.records) c.head.view_is in
    let bitmap = c.in_ok-bytes_into.ensures.ok in
    IsCinfo-from_steps cinfo bitmap.0 c.put_header.new.out.items c.put_sum.new.out.items c.bytes_into.new.into.items c.put_records.new.out.items c.put_sum-2.new.out.items
    (record { block = c.requires.block; size = omega arith; head = c.in_ok-put_header.ensures.fits (subst (λ (rs : List Record). All FitsRecord rs) same c.in_ok-put_records.ensures.fits); count = c.requires.most; claims = c.requires.whole })
    bitmap.2
    (c.in_ok-put_header.ensures.written c.args.claims.now ∙ ap (λ (l : List ℕ). l ++ header_of cinfo) c.in_ok-out.ensures.items)
    c.in_ok-put_sum.ensures bitmap.1
    (c.in_ok-put_records.ensures.written ∙ ap (λ (rs : List Record). c.bytes_into.new.into.items ++ flat_map record_of rs) same)
    c.in_ok-put_sum-2.ensures
