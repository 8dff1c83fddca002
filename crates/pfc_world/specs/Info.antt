-- An info device as a crash sees it, and what each call does to it: a small file, the main file, that is replaced whole
-- by a temporary. Each bound is from above, as for a data device.
use Rattle.std.specs.Prelude.{◌≡◌, ◌⊎◌, ℕ, Bool, List, Option, Some, None, Any, IsTrue, IsSome, IsNone, length, min, take, Vec, option_map}
use Rattle.std.specs.declared.alloc.Global.{Global}
use Rattle.pfc_world.specs.Run.{Run, WasSince}

-- a temporary may hold anything, or is whole, or is whole and stable
pub data Temporary : Type 0 where
  ragged : Temporary
  whole : List ℕ → Temporary
  stable : List ℕ → Temporary

-- What a read gives; which main files a crash may leave besides, and whether it may leave one of any bytes; the
-- temporary; and whether the device is settled.
pub record Info : Type 0 where
  pub shown : Option (List ℕ)
  pub others : List (Option (List ℕ))
  pub torn : Bool
  pub temporary : Temporary
  pub settled : Bool

-- a main file that a crash may leave
abbrev pub IsMain : Info → Option (List ℕ) → Type 0
IsMain info main = (main ≡ info.shown) ⊎ (Any (λ other. main ≡ other) info.others ⊎ (IsTrue info.torn × IsSome main))

-- it was one at that moment or later
abbrev pub MainSince : Run Info → ℕ → Option (List ℕ) → Type 0
MainSince run t main = WasSince (λ info. IsMain info main) run t

-- each main file that a crash may leave was one before
abbrev pub FewerMains : Info → Info → Type 0
FewerMains old new = (main : Option (List ℕ)) → IsMain new main → IsMain old main

-- ---- the calls, with whether the answer was Ok

-- the first bytes, as many as this number or all
pub record IsCut (most : ℕ) (all cut : List ℕ) : Type 0 where
  pub front : take (length cut) all ≡ cut
  pub long : length cut ≡ min most (length all)

-- absent as the other, or the first bytes of it
abbrev pub IsCutOf : ℕ → Option (List ℕ) → Option (List ℕ) → Type 0
IsCutOf most None cut = IsNone cut
IsCutOf most (Some all) None = ⊥
IsCutOf most (Some all) (Some cut) = IsCut most all cut

-- the bytes of a main file
abbrev pub bytes_of : Option (Vec ℕ Global) → Option (List ℕ)
bytes_of main = option_map (λ bytes. bytes.items) main

-- the main file stays as it is
pub record KeepsMain (old new : Info) : Type 0 where
  pub shown : new.shown ≡ old.shown
  pub fewer : FewerMains old new
  pub settled : IsTrue old.settled → IsTrue new.settled

pub record WriteTemp (bytes : List ℕ) (ok : Bool) (old new : Info) : Type 0 where
  pub main : KeepsMain old new
  pub written : IsTrue ok → new.temporary ≡ whole bytes

pub record SyncTemp (ok : Bool) (old new : Info) : Type 0 where
  pub main : KeepsMain old new
  pub stable : IsTrue ok → (bytes : List ℕ) → old.temporary ≡ whole bytes → new.temporary ≡ stable bytes

-- The temporary takes the main file's place. Of one that isn't stable nothing is said, so it may hold any bytes.
pub record Rename (ok : Bool) (old new : Info) : Type 0 where
  pub done : IsTrue ok → (bytes : List ℕ) → old.temporary ≡ stable bytes → (main : Option (List ℕ)) → IsMain new main → main ≡ Some bytes
  pub either : (bytes : List ℕ) → old.temporary ≡ stable bytes → (main : Option (List ℕ)) → IsMain new main → IsMain old main ⊎ (main ≡ Some bytes)
  pub settled : IsTrue ok → IsTrue new.settled

pub record Remove (ok : Bool) (old new : Info) : Type 0 where
  pub done : IsTrue ok → (main : Option (List ℕ)) → IsMain new main → main ≡ None
  pub either : (main : Option (List ℕ)) → IsMain new main → IsMain old main ⊎ (main ≡ None)
  pub settled : IsTrue ok → IsTrue new.settled

-- after Ok a crash leaves what a read gives
pub record Settle (ok : Bool) (old new : Info) : Type 0 where
  pub shown : new.shown ≡ old.shown
  pub fewer : FewerMains old new
  pub one : IsTrue ok → (main : Option (List ℕ)) → IsMain new main → main ≡ old.shown
  pub settled : IsTrue ok → IsTrue new.settled
