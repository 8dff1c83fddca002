-- What the main files claim that a crash may leave.
use Rattle.std.specs.Prelude.{◌≡◌, ◌⊎◌, ℕ, Bool, false, List, Option, Some, None, IsTrue, IsSomeAnd, length}
use Rattle.pfc_base.specs.BlockSet.{is_member, IsWithin}
use Rattle.pfc_base.specs.Cinfo.{Cinfo, IsCinfo}
use Rattle.pfc_cinfo.specs.Cinfo.{IsTiled}
use Rattle.pfc_world.specs.Run.{Run, Throughout}
use Rattle.pfc_world.specs.Info.{Info, IsMain, MainSince}
use Rattle.pfc_store.specs.declared.broken.Broken.{Broken}

-- the main file is there and says this
abbrev pub Says : Option (List ℕ) → Cinfo → Type 0
Says main c = IsSomeAnd main (λ bytes. IsCinfo bytes c)

-- a cinfo of this size and block size, whose claims contain the one set and lie in the other
pub record ClaimsBetween (size k : ℕ) (low high : List Bool) (c : Cinfo) : Type 0 where
  pub size_is : c.size ≡ size
  pub block_is : c.block ≡ k
  pub contain : IsWithin low c.claims
  pub within : IsWithin c.claims high

-- the main file says so, or is absent and the lower set is empty
abbrev pub MainBetween : ℕ → ℕ → List Bool → List Bool → Option (List ℕ) → Type 0
MainBetween size k low high None = (i : ℕ) → is_member low i ≡ false
MainBetween size k low high (Some bytes) = (c : Cinfo) × IsCinfo bytes c × ClaimsBetween size k low high c

-- Within: so is each main file that a crash may leave, now, or at that moment or later.
abbrev pub WithinNow : ℕ → ℕ → List Bool → List Bool → Info → Type 0
WithinNow size k low high info = (main : Option (List ℕ)) → IsMain info main → MainBetween size k low high main

abbrev pub WithinSince : ℕ → ℕ → List Bool → List Bool → Run Info → ℕ → Type 0
WithinSince size k low high run t = (main : Option (List ℕ)) → MainSince run t main → MainBetween size k low high main

-- at each moment from old to new, a main file that a crash may leave is one of before or this one
abbrev pub Replaces : Option (List ℕ) → Run Info → Run Info → Type 0
Replaces next old new = Throughout (λ info. (main : Option (List ℕ)) → IsMain info main → IsMain old.now main ⊎ (main ≡ next)) old new

-- what a half with the cinfo keeps
pub record IsInfoHalf (tells : Bool) (size k : ℕ) (claimed due : List Bool) (frozen : Option Broken) (info : Info) : Type 0 where
  pub tiled : IsTiled k size (length due)
  pub bounds : length claimed ≡ length due
  pub nested : IsWithin claimed due
  pub settled : frozen ≡ None → IsTrue tells → IsTrue info.settled
  pub mains : IsTrue tells → WithinNow size k claimed due info
