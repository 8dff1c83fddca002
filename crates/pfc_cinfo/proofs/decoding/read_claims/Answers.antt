use Rattle.pfc_cinfo.proofs.Decoded.{bitmap_len-is, bitmap_part, none-set, claims-are}
use Rattle.pfc_cinfo.proofs.decoding.read_claims.Goals as goal

pub unreachable-requires : goal.unreachable-requires
unreachable-requires c =
    let bytes = c.args.bytes.now in
    let len = bitmap_len-is bytes c.blocks-count.result c.div_ceil-end.result c.blocks-count.ensures c.div_ceil-end.ensures in
    none-set bytes _ c.blocks-count.result c.requires c.blocks-count.ensures (bitmap_part bytes c.div_ceil-end.result len) (rw c.in-None.is at c.in_ok-claims.ensures)

pub returns : goal.returns
returns c =
    let bytes = c.args.bytes.now in
    let len = bitmap_len-is bytes c.blocks-count.result c.div_ceil-end.result c.blocks-count.ensures c.div_ceil-end.ensures in
    let found = rw c.in-Some.is at c.in_ok-claims.ensures in
    claims-are bytes _ c.blocks-count.result c.in-Some.claims c.requires c.blocks-count.ensures (bitmap_part bytes c.div_ceil-end.result len) found.0 found.1
