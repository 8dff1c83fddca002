-- What each call does to the half with the cinfo. The cases of an answer exclude each other.
use Rattle.std.specs.Prelude.{◌≡◌, ℕ, Some, None, Result, Ok, Err}
use Rattle.pfc_store.specs.declared.broken.InfoPutRefusal.{InfoPutRefusal}
use Rattle.pfc_store.specs.declared.broken.InfoPutRefusal.TheVariants.{Memory, Frozen, Device}
use Rattle.pfc_store.specs.Data.{Breaks}
use Rattle.pfc_store.specs.Views.{InfoView}

abbrev pub Puts : {I : Type 0} → (I → ℕ) → InfoView I → Result Unit InfoPutRefusal → InfoView I → Type 0
Puts faults old (Ok u) new = (old.frozen ≡ None) × (new ≡ record old { device = new.device; claimed = old.due })
Puts faults old (Err Memory) new = (old.frozen ≡ None) × (new ≡ old)
Puts faults old (Err (Frozen b)) new = (old.frozen ≡ Some b) × (new ≡ old)
Puts faults old (Err (Device b)) new = (old.frozen ≡ None) × Breaks (faults old.device) (faults new.device) b × (new ≡ record old { device = new.device; frozen = Some b })
