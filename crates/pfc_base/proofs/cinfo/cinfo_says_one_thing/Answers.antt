use Rattle.std.proofs.Common.{sym, ◌∙◌}
use Rattle.pfc_base.proofs.CinfoReading.{cinfo_in-is}
use Rattle.pfc_base.proofs.cinfo.cinfo_says_one_thing.Goals as goal

pub returns-clause-only : goal.returns-clause-only
returns-clause-only c = cinfo_in-is

pub returns-clause-unique : goal.returns-clause-unique
returns-clause-unique c = λ bytes one other is also. cinfo_in-is bytes one is ∙ sym (cinfo_in-is bytes other also)
