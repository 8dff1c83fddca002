-- A data device as a crash sees it, and what each call does to it. Each bound is from above: a device may leave fewer
-- images than it is allowed.
use Rattle.std.specs.Prelude.{◌≡◌, ◌⊎◌, ◌<◌, ◌≤◌, ◌+◌, ℕ, Bool, true, false, List, [], ◌∷◌, ◌++◌, All, IsTrue, length, min, max, slice_index}
use Rattle.pfc_base.specs.Block.{slice_of}
use Rattle.pfc_world.specs.Run.{Run, WasSince}

-- How durable a byte at a place is. What a failed sync, or a clear without Ok, found unsettled is left
-- over: no later sync settles it alone, it has to be written again.
pub data Place : Type 0 where
  settled : Place
  unsettled : Place
  left_over : Place

-- what a device reads, and what its places are, those past its end too
pub record Disk : Type 0 where
  pub reads : List ℕ
  pub places : ℕ → Place

abbrev pub not_settled : Place → Bool
not_settled settled = false
not_settled unsettled = true
not_settled left_over = true

abbrev pub is_left_over : Place → Bool
is_left_over settled = false
is_left_over unsettled = false
is_left_over left_over = true

-- a crash may change this place
abbrev pub Loose : Disk → ℕ → Type 0
Loose disk p = IsTrue (not_settled (disk.places p))

-- this place is settled
abbrev pub Firm : Disk → ℕ → Type 0
Firm disk p = not_settled (disk.places p) ≡ false

abbrev pub LeftOver : Disk → ℕ → Type 0
LeftOver disk p = IsTrue (is_left_over (disk.places p))

-- A list that a crash may leave: it has each settled byte, and past the end of what is read only places that aren't
-- settled.
pub record IsImage (disk : Disk) (image : List ℕ) : Type 0 where
  pub long : (p : ℕ) → p < length disk.reads → Firm disk p → p < length image
  pub kept : (p : ℕ) → p < length disk.reads → Firm disk p → slice_index image p ≡ slice_index disk.reads p
  pub past : (p : ℕ) → length disk.reads ≤ p → p < length image → Loose disk p

-- it was an image at that moment or later
abbrev pub ImageSince : Run Disk → ℕ → List ℕ → Type 0
ImageSince run t image = WasSince (λ disk. IsImage disk image) run t

-- the place lies from the one on and before the other
abbrev pub LiesBetween : ℕ → ℕ → ℕ → Type 0
LiesBetween from to p = (from ≤ p) × (p < to)

abbrev pub LiesOutside : ℕ → ℕ → ℕ → Type 0
LiesOutside from to p = (p < from) ⊎ (to ≤ p)

-- these bytes stand in the list from this place on
pub record StandsAt (at : ℕ) (bytes list : List ℕ) : Type 0 where
  pub room : (p : ℕ) → p < length bytes → at + p < length list
  pub same : (p : ℕ) → p < length bytes → slice_index list (at + p) ≡ slice_index bytes p

-- ---- the calls, with whether the answer was Ok

-- a range past the end is never read
pub record Read (at : ℕ) (into : List ℕ) (ok : Bool) (old new : Run Disk) : Type 0 where
  pub within : IsTrue ok → at + length into ≤ length old.now.reads
  pub bytes : IsTrue ok → into ≡ slice_of old.now.reads at (length into)
  pub same : new ≡ old

-- The range, and a gap before it, are no longer settled. After a Fault the range may read as anything.
pub record Write (at : ℕ) (bytes : List ℕ) (ok : Bool) (old new : Disk) : Type 0 where
  pub written : IsTrue ok → StandsAt at bytes new.reads
  pub stays : (p : ℕ) → p < length old.reads → LiesOutside at (at + length bytes) p → slice_index new.reads p ≡ slice_index old.reads p
  pub gap : (p : ℕ) → LiesBetween (length old.reads) at p → slice_index new.reads p ≡ 0
  pub no_shorter : length old.reads ≤ length new.reads
  pub no_longer : length new.reads ≤ max (length old.reads) (at + length bytes)
  pub loose : (p : ℕ) → Loose new p → Loose old p ⊎ LiesBetween (min at (length old.reads)) (at + length bytes) p
  pub left : (p : ℕ) → LeftOver new p → LeftOver old p × (IsTrue ok → LiesOutside at (at + length bytes) p)

-- Ok settles all but what is left over. After a Fault all that wasn't settled is left over.
pub record Sync (ok : Bool) (old new : Disk) : Type 0 where
  pub reads : new.reads ≡ old.reads
  pub loose : (p : ℕ) → Loose new p → Loose old p
  pub settled : IsTrue ok → (p : ℕ) → Loose new p → LeftOver old p
  pub left : IsTrue ok → (p : ℕ) → LeftOver new p → LeftOver old p

-- the old list or the empty one, with no place of the old list settled
pub record Loosened (old new : Disk) : Type 0 where
  pub reads : (new.reads ≡ old.reads) ⊎ (new.reads ≡ [])
  pub loose : (p : ℕ) → Loose new p → Loose old p ⊎ (p < length old.reads)

-- While a clear lasts, and after its Fault, the disk is loosened. After Ok it is empty and settled.
pub record Clear (ok : Bool) (old new : Run Disk) : Type 0 where
  pub during : List Disk
  pub time : (new.past ≡ old.past ++ old.now ∷ during) ⊎ (new ≡ old)
  pub loosened : All (Loosened old.now) during
  pub after : Loosened old.now new.now
  pub empty : IsTrue ok → new.now.reads ≡ []
  pub clean : IsTrue ok → (p : ℕ) → Firm new.now p
