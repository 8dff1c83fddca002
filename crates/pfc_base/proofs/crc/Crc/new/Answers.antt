use Rattle.std.proofs.Common.{sym}
use Rattle.pfc_base.specs.Crc.{all_ones}
use Rattle.pfc_base.proofs.CrcLinear.{after_bytes_none}
use Rattle.pfc_base.proofs.crc.Crc.new.Goals as goal

pub returns : goal.returns
returns c = sym (after_bytes_none all_ones)
