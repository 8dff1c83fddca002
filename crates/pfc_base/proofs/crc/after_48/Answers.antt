use Rattle.std.proofs.Common.{◌%◌, ◌∙◌, ap, get_or, arith}
use Rattle.std.proofs.lemmas.Nat.{and_mask}
use Rattle.pfc_base.proofs.CrcTables.{at5}
use Rattle.pfc_base.specs.declared.crc.tables.TheConstants.{T5}
use Rattle.pfc_base.proofs.crc.after_48.Goals as goal

pub returns : goal.returns
returns c = ap (λ k. get_or T5.now k 0) (and_mask c.args.x 8) ∙ at5 (c.args.x % 256) (omega arith)
