use Rattle.std.proofs.Common.{bit_xor, sym, ◌∙◌, arith}
use Rattle.pfc_base.proofs.CrcLinear.{unrolled}
use Rattle.std.proofs.lemmas.Nat.{xor_lt}
use Rattle.pfc_base.proofs.CrcWord.{eight_is}
use Rattle.pfc_base.proofs.crc.eight.Goals as goal

pub returns : goal.returns
returns c =
    let w = bit_xor c.from.result c.from_le_bytes.result in
    let fits = xor_lt 64 c.from.result c.from_le_bytes.result (omega (arith, c.from.type_inv)) (omega (arith, c.from_le_bytes.type_inv)) in
    (λ i. bit_xor (c.after_64.ensures i) (bit_xor (c.after_56.ensures i) (bit_xor (c.after_48.ensures i) (bit_xor (c.after_40.ensures i)
    (bit_xor (c.after_32.ensures i) (bit_xor (c.after_24.ensures i) (bit_xor (c.after_16.ensures i) (c.after_8.ensures i))))))))
    ∙ sym (unrolled w fits)
    ∙ eight_is c.args.c c.args.a.now w c.told-a c.fits-a fits (λ i. bit_xor (c.from.ensures i) (c.from_le_bytes.ensures i))
