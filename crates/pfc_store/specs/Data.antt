-- What each call does to the half with the data. The cases of an answer exclude each other.
use Rattle.std.specs.Prelude.{◌≡◌, ◌⊎◌, ℕ, true, false, Some, None, Result, Ok, Err, slice_set}
use Rattle.pfc_base.specs.BlockSet.{is_member}
use Rattle.pfc_world.specs.Counts.{Rose}
use Rattle.pfc_store.specs.declared.broken.Broken.{Broken}
use Rattle.pfc_store.specs.declared.broken.Put.{Put}
use Rattle.pfc_store.specs.declared.broken.Put.TheVariants.{Wrote, AlreadyThere}
use Rattle.pfc_store.specs.declared.broken.ReadRefusal.{ReadRefusal}
use Rattle.pfc_store.specs.declared.broken.ReadRefusal.TheVariants as reading
use Rattle.pfc_store.specs.declared.broken.WriteRefusal.{WriteRefusal}
use Rattle.pfc_store.specs.declared.broken.WriteRefusal.TheVariants as writing
use Rattle.pfc_store.specs.declared.broken.SyncRefusal.{SyncRefusal}
use Rattle.pfc_store.specs.declared.broken.SyncRefusal.TheVariants as syncing
use Rattle.pfc_store.specs.Views.{DataView}

-- the counts of the device before and after this call, which rose in it
pub record Breaks (before after : ℕ) (broken : Broken) : Type 0 where
  pub before_is : broken.before ≡ before
  pub after_is : broken.after ≡ after
  pub rose : Rose before after

-- a read may be asked of the device: nothing failed yet, or the block is durable
abbrev pub MayRead : {D : Type 0} → DataView D → ℕ → Type 0
MayRead v i = (v.frozen ≡ None) ⊎ (is_member v.durable i ≡ true)

abbrev pub Reads : {D : Type 0} → (D → ℕ) → DataView D → ℕ → Result Unit ReadRefusal → DataView D → Type 0
Reads faults old i (Ok u) new = (is_member old.written i ≡ true) × MayRead old i × (new ≡ record old { device = new.device })
Reads faults old i (Err reading.Absent) new = (is_member old.written i ≡ false) × (new ≡ old)
Reads faults old i (Err (reading.Frozen b)) new = (is_member old.written i ≡ true) × (is_member old.durable i ≡ false) × (old.frozen ≡ Some b) × (new ≡ old)
Reads faults old i (Err (reading.Device b)) new = (is_member old.written i ≡ true) × MayRead old i × Breaks (faults old.device) (faults new.device) b × (new ≡ record old { device = new.device })

abbrev pub Writes : {D : Type 0} → (D → ℕ) → DataView D → ℕ → Result Put WriteRefusal → DataView D → Type 0
Writes faults old i (Ok Wrote) new = (old.frozen ≡ None) × (is_member old.written i ≡ false) × (new ≡ record old { device = new.device; written = slice_set old.written i true })
Writes faults old i (Ok AlreadyThere) new = (old.frozen ≡ None) × (is_member old.written i ≡ true) × (new ≡ old)
Writes faults old i (Err (writing.Frozen b)) new = (old.frozen ≡ Some b) × (new ≡ old)
Writes faults old i (Err (writing.Device b)) new = (old.frozen ≡ None) × (is_member old.written i ≡ false) × Breaks (faults old.device) (faults new.device) b × (new ≡ record old { device = new.device; frozen = Some b })

abbrev pub Syncs : {D : Type 0} → (D → ℕ) → DataView D → Result Unit SyncRefusal → DataView D → Type 0
Syncs faults old (Ok u) new = (old.frozen ≡ None) × (new ≡ record old { device = new.device; durable = old.written })
Syncs faults old (Err (syncing.Frozen b)) new = (old.frozen ≡ Some b) × (new ≡ old)
Syncs faults old (Err (syncing.Device b)) new = (old.frozen ≡ None) × Breaks (faults old.device) (faults new.device) b × (new ≡ record old { device = new.device; frozen = Some b })
