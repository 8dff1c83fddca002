-- The catalog as its callers see it, and what its calls do.
use Rattle.std.specs.Prelude.{◌≡◌, ℕ, ◌+◌, ◌<◌, Bool, true, false, List, Option, Some, None, IsSome, sum_by, unwrap_or, option_and_then}
use Rattle.std.specs.List.{IsDistinct}
use Rattle.std.specs.Map.{keys_of}
use Rattle.indexmap.specs.IndexMap.{insert_entry}
use Rattle.pfc_catalog.specs.declared.entry.Entry.{Entry}
use Rattle.pfc_catalog.specs.declared.entry.State.TheVariants.{Opening, Live}
use Rattle.pfc_catalog.specs.declared.catalog.Entered.{Entered}
use Rattle.pfc_catalog.specs.declared.catalog.Entered.TheVariants.{Join, Wait, New, NoShell}
use Rattle.pfc_catalog.specs.Entry.{capped, fresh, shell_of, is_home, is_busy, with_state}
use Rattle.pfc_catalog.specs.Files.{same_path, entry_at}
use Rattle.pfc_catalog.specs.Shells.{holder}
use Rattle.pfc_catalog.specs.View.{CatalogView}

-- the files, with this entry for this path: in its place, or last where the path wasn't there
abbrev pub put : List ℕ → Entry → List (List ℕ × Entry) → List (List ℕ × Entry)
put path e files = insert_entry same_path files path e

abbrev pub usage_in : List ℕ × Entry → ℕ
usage_in f = f.1.usage

-- the bytes of all files; the sum stays at 2 ^ 64 - 1
abbrev pub usage_of : List (List ℕ × Entry) → ℕ
usage_of files = capped (sum_by usage_in files)

abbrev pub Turned : Option Entry → List ℕ → CatalogView → Bool → CatalogView → Type 0
Turned None path old moved new = (moved ≡ false) × (new ≡ old)
Turned (Some e) path old moved new = (moved ≡ true) × (new ≡ record old { entries = put path e old.entries })

-- The file at this path is changed so, and nothing else is. Where there is no such file, or it isn't in a state for
-- it, the answer is false, and nothing changes.
abbrev pub Turns : (Entry → Option Entry) → List ℕ → CatalogView → Bool → CatalogView → Type 0
Turns move path old moved new = Turned (option_and_then move (entry_at path old.entries)) path old moved new

-- the file at this path, or a fresh one
abbrev pub entry_or_fresh : List ℕ → List (List ℕ × Entry) → Entry
entry_or_fresh path files = unwrap_or (entry_at path files) fresh

-- nobody holds the file at this path
abbrev pub is_at_home : List ℕ → List (List ℕ × Entry) → Bool
is_at_home path files = is_home (entry_or_fresh path files).state

-- the next instance number was given out
abbrev pub drawn : CatalogView → CatalogView
drawn c = record c { next = capped (c.next + 1) }

-- What an open of this path answers, and what it leaves.
abbrev pub Enters : List ℕ → CatalogView → Entered → CatalogView → Type 0
-- it is open already, and has one descriptor more
Enters path old (Join shell instance) new =
    (was : Entry) × (count : ℕ) × (entry_at path old.entries ≡ Some was) × (was.state ≡ Live shell instance count)
    × (new ≡ record old { entries = put path (with_state (Live shell instance (capped (count + 1))) was) old.entries })
-- it is being opened, or on its way home, or being removed
Enters path old Wait new = (was : Entry) × (entry_at path old.entries ≡ Some was) × (is_busy was.state ≡ true) × (new ≡ old)
-- nobody holds it, and it gets a shell that was free
Enters path old (New shell instance) new =
    (is_at_home path old.entries ≡ true) × (shell < 256) × (holder shell old.entries ≡ None) × (instance ≡ old.next)
    × (new ≡ drawn (record old { entries = put path (with_state (Opening shell instance) (entry_or_fresh path old.entries)) old.entries }))
-- nobody holds it, and all 256 shells are held
Enters path old (NoShell instance) new =
    (is_at_home path old.entries ≡ true) × ((s : ℕ) → s < 256 → IsSome (holder s old.entries)) × (instance ≡ old.next) × (new ≡ drawn old)

-- what the entry weighs, where there is one
abbrev pub weight : (Entry → ℕ) → Option Entry → ℕ
weight w None = 0
weight w (Some e) = w e

-- One path has one file, and one shell is held by one file.
pub record IsCatalog (files : List (List ℕ × Entry)) : Type 0 where
  pub paths : IsDistinct same_path (keys_of files)
  pub low : (path : List ℕ) (e : Entry) (s : ℕ) → entry_at path files ≡ Some e → shell_of e.state ≡ Some s → s < 256
  pub alone : (p q : List ℕ) (e f : Entry) (s : ℕ) → entry_at p files ≡ Some e → entry_at q files ≡ Some f → shell_of e.state ≡ Some s → shell_of f.state ≡ Some s → p ≡ q
