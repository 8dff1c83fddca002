use Rattle.std.proofs.Common.{◌∙◌, length, ap, arith}
use Rattle.pfc_base.specs.Cinfo.{cinfo_in}
use Rattle.pfc_cinfo.proofs.Spelled.{length-records_in}
use Rattle.pfc_cinfo.proofs.Decoded.{bitmap_len-is, records-are}
use Rattle.pfc_cinfo.proofs.decoding.read_head.Goals as goal

pub from_vec-requires : goal.from_vec-requires
from_vec-requires c = omega (arith, ap length c.in_ok-records.ensures ∙ length-records_in _ _, c.four_from.ensures, c.requires.count)

pub returns : goal.returns
unfolding cinfo_in
returns c =
    let bytes = c.args.bytes.now in
    let len = bitmap_len-is bytes c.blocks-2.result c.div_ceil-at.result c.blocks-2.ensures c.div_ceil-at.ensures in
    let records = c.from_vec.ensures ∙ records-are bytes c.div_ceil-at.result c.four_from.result c.in_ok-records.records.items len c.four_from.ensures c.in_ok-records.ensures in
    λ i. record { created = c.eight_from.ensures i; accesses = c.eight_from-2.ensures i; records = records i }
