use Rattle.std.proofs.Common.{◌%◌, ◌∙◌, ap, get_or, arith}
use Rattle.std.proofs.lemmas.Nat.{and_mask}
use Rattle.pfc_base.proofs.CrcTables.{at7}
use Rattle.pfc_base.specs.declared.crc.tables.TheConstants.{T7}
use Rattle.pfc_base.proofs.crc.after_64.Goals as goal

pub returns : goal.returns
returns c = ap (λ k. get_or T7.now k 0) (and_mask c.args.x 8) ∙ at7 (c.args.x % 256) (omega arith)
