use Rattle.std.proofs.Common.{◌≡◌, length, sym, subst}
use Rattle.pfc_base.specs.Cinfo.{Cinfo, cinfo_in}
use Rattle.pfc_cinfo.specs.Cinfo.{IsTiled}
use Rattle.pfc_cinfo.proofs.Decoded.{tiled}
use Rattle.pfc_cinfo.proofs.decoding.read.Goals as goal

pub invariant_of-result : goal.invariant_of-result
unfolding cinfo_in
invariant_of-result c =
    let block = c.eight_from.ensures in
    let size = c.eight_from-2.ensures in
    let claims = c.in_ok-claims.ensures in
    let head = c.in_ok-head.ensures in
    let whole : Cinfo = record { block = c.eight_from.result; size = c.eight_from-2.result; head = c.in_ok-head.head; claims = c.in_ok-claims.claims } in
    let same : whole ≡ cinfo_in c.args.bytes.now = λ i. record { block = block i; size = size i; head = head i; claims = claims i } in
    subst (λ (s : Cinfo). IsTiled s.block s.size (length s.claims)) (sym same) (tiled c.args.bytes.now c.requires)

pub returns : goal.returns
unfolding cinfo_in
returns c =
    let block = c.eight_from.ensures in
    let size = c.eight_from-2.ensures in
    let claims = c.in_ok-claims.ensures in
    let head = c.in_ok-head.ensures in
    λ i. record { block = block i; size = size i; head = head i; claims = claims i }
