use Rattle.std.proofs.Common.{◌≡◌, ◌/◌, ◌%◌, length, take, get_or, sym, ap, ◌∙◌, arith}
use Rattle.std.proofs.Math.Seq.{take-length}
use Rattle.std.specs.Int.Bits.{bit_xor}
use Rattle.pfc_base.specs.Crc.{after_bytes, after_bits}
use Rattle.pfc_base.proofs.CrcLinear.{byte_is, after_bytes_more, after_bytes_none}
use Rattle.pfc_base.proofs.crc.bytewise.Goals as goal

pub loop-b-init : goal.loop-b-init
loop-b-init c = sym (after_bytes_none c.args.start)

pub loop-b-preserved : goal.loop-b-preserved
loop-b-preserved c =
    let b = get_or c.args.bytes.now c.loop-b.b-index 0 in
    ap (λ x. bit_xor x (c.loop-b.c / 256)) (c.after_8.ensures ∙ ap (λ k. after_bits 8 (k % 256)) (c.from-in-loop-b.ensures ∙ ap (bit_xor c.loop-b.c) c.from.ensures))
    ∙ sym (byte_is c.loop-b.c b (c.type_inv.bytes c.loop-b.b-index).fits)
    ∙ ap (λ x. after_bits 8 (bit_xor x b)) c.loop-b.invariant
    ∙ sym (after_bytes_more c.args.bytes.now c.args.start c.loop-b.b-index (omega arith))

pub returns : goal.returns
returns c =
    let all : c.loop-b.b-index ≡ length c.args.bytes.now = omega (arith, c.loop-b-test.false, c.loop-b.auto.b-index-end) in
    c.loop-b.invariant ∙ ap (after_bytes c.args.start) (ap (λ k. take k c.args.bytes.now) all ∙ take-length c.args.bytes.now)
