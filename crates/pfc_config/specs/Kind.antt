-- The word that is printed for a kind of refusal.
use Rattle.std.specs.Prelude.{ℕ, List, codes}
use Rattle.pfc_config.specs.declared.refusal.Kind.{Kind}
use Rattle.pfc_config.specs.declared.refusal.Kind.TheVariants.{TooLong, Unsupported, Unknown, Arity, Number, Range, Twice}

abbrev pub kind_text : Kind → List ℕ
kind_text TooLong = codes "toolong"
kind_text Unsupported = codes "unsupported"
kind_text Unknown = codes "unknown"
kind_text Arity = codes "arity"
kind_text Number = codes "number"
kind_text Range = codes "range"
kind_text Twice = codes "twice"
