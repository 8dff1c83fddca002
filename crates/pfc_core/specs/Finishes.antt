-- The end of a read.
use Rattle.std.specs.Prelude.{◌≡◌, ◌<◌, ℕ, List, [], ◌∷◌, ◌++◌, Option, Some, None}
use Rattle.pfc_log.specs.declared.entry.Entry.{Entry}
use Rattle.pfc_log.specs.declared.entry.Entry.TheVariants as e
use Rattle.pfc_log.specs.declared.entry.Served.{Served}
use Rattle.pfc_core.specs.Marks.{Mark, listed, Loses}
use Rattle.pfc_core.specs.Calls.{Unpins}
use Rattle.pfc_core.specs.Disks.{EndsDisk}
use Rattle.pfc_core.specs.Access.{with_read}
use Rattle.pfc_core.specs.View.{CoreView}

-- a pin goes back where the core's list has it; a stranger changes nothing
pub record Releases (old : CoreView) (pin : Mark) (new : CoreView) : Type 0 where
  pub known : 0 < listed pin old.out → Unpins old pin new
  pub strange : listed pin old.out ≡ 0 → new ≡ old

-- pins go back in order
abbrev pub ReleasesAll : CoreView → List Mark → CoreView → Type 0
ReleasesAll old [] new = new ≡ old
ReleasesAll old (pin ∷ pins) new = (mid : CoreView) × Releases old pin mid × ReleasesAll mid pins new

-- what is entered for a read that ended with data, or without
abbrev pub served_entries : ℕ → Option Served → List Entry
served_entries n None = []
served_entries n (Some served) = e.Served n served ∷ []

-- the reading ends, with its entry, and the access has a read more
pub record Ends (old : CoreView) (reading : Mark) (served : Option Served) (new : CoreView) : Type 0 where
  pub loses : Loses old.out reading new.out
  pub enters : new ≡ record old { entries = old.entries ++ served_entries reading.client served; out = new.out; access = with_read served old.access }

-- a right to read from disk goes back where the core's list has it; a stranger changes nothing
pub record ReleasesDisk (old : CoreView) (disk : Mark) (new : CoreView) : Type 0 where
  pub known : 0 < listed disk old.out → EndsDisk old disk new
  pub strange : listed disk old.out ≡ 0 → new ≡ old

abbrev pub ReleasesDisks : CoreView → List Mark → CoreView → Type 0
ReleasesDisks old [] new = new ≡ old
ReleasesDisks old (disk ∷ disks) new = (mid : CoreView) × ReleasesDisk old disk mid × ReleasesDisks mid disks new

-- and then the pins go back in order, and the rights to read from disk
pub record Finishes (old : CoreView) (reading : Mark) (pins disks : List Mark) (served : Option Served) (new : CoreView) : Type 0 where
  pub after : CoreView
  pub ends : Ends old reading served after
  pub unpinned : CoreView
  pub releases : ReleasesAll after pins unpinned
  pub disks_end : ReleasesDisks unpinned disks new
