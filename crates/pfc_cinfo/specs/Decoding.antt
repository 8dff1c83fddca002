-- What a reader of cinfo files answers.
use Rattle.std.specs.Prelude.{◌≡◌, ℕ, List, Some, None, Result, Ok, Err}
use Rattle.pfc_base.specs.Cinfo.{Cinfo, IsCinfo}
use Rattle.pfc_cinfo.specs.declared.damage.DecodeRefusal.{DecodeRefusal}
use Rattle.pfc_cinfo.specs.declared.damage.DecodeRefusal.TheVariants.{Damaged, Memory}
use Rattle.pfc_cinfo.specs.Damage.{first_damage}

-- A value is what the bytes say. A damage is the first test that fails, and then the bytes say nothing.
abbrev pub Decodes : List ℕ → Result Cinfo DecodeRefusal → Type 0
Decodes bytes (Ok cinfo) = IsCinfo bytes cinfo × (first_damage bytes ≡ None)
Decodes bytes (Err (Damaged damage)) = (first_damage bytes ≡ Some damage) × ((cinfo : Cinfo) → ¬ IsCinfo bytes cinfo)
Decodes bytes (Err Memory) = Unit {0}

-- this value, unless memory was refused
abbrev pub Gives : Result Cinfo DecodeRefusal → Cinfo → Type 0
Gives (Ok found) cinfo = found ≡ cinfo
Gives (Err (Damaged damage)) cinfo = ⊥
Gives (Err Memory) cinfo = Unit {0}
