use Rattle.std.proofs.Common.{◌%◌, ◌∙◌, ap, get_or, arith}
use Rattle.std.proofs.lemmas.Nat.{and_mask}
use Rattle.pfc_base.proofs.CrcTables.{at3}
use Rattle.pfc_base.specs.declared.crc.tables.TheConstants.{T3}
use Rattle.pfc_base.proofs.crc.after_32.Goals as goal

pub returns : goal.returns
returns c = ap (λ k. get_or T3.now k 0) (and_mask c.args.x 8) ∙ at3 (c.args.x % 256) (omega arith)
