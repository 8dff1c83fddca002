-- What a run finds on disk of a path's cinfo, how its log starts from that, and what the run leaves.
use Rattle.std.specs.Prelude.{◌≡◌, ◌≢◌, ◌⊎◌, ℕ, Bool, false, List, [], Option, Some, None, Ok, All, length}
use Rattle.pfc_base.specs.BlockSet.{is_member}
use Rattle.pfc_base.specs.Cinfo.{Cinfo, IsCinfo}
use Rattle.pfc_world.specs.Files.{Files, file_at}
use Rattle.pfc_client.specs.declared.request.Request.TheVariants.{Open}
use Rattle.pfc_client.specs.Requests.{request_of}
use Rattle.pfc_store.specs.Claims.{Says}
use Rattle.pfc_store.specs.Opens.{IsOurs}
use Rattle.pfc_log.specs.declared.start.Start.{Start}
use Rattle.pfc_log.specs.declared.start.Start.TheVariants as start
use Rattle.pfc_log.specs.Lawful.{IsCached, IsUnfrozen}
use Rattle.pfc_log.specs.Views.{claimed}
use Rattle.pfc_report.specs.declared.report.Section.{Section}
use Rattle.pfc_report.specs.Schedule.{Line, asked}

-- ---- what was found

-- the main file of a path, present or absent, is this one, whatever a crash takes
abbrev pub IsOnly : (Option (List ℕ) → Type 0) → Option (List ℕ) → Type 0
IsOnly IsMain found = (main : Option (List ℕ)) → IsMain main → main ≡ found

-- The main file that was found is there still, or it is gone, which one of this size and block size never is.
pub record IsLeft (size k : ℕ) (found main : Option (List ℕ)) : Type 0 where
  pub either : (main ≡ found) ⊎ (main ≡ None)
  pub kept : IsOurs size k found → main ≡ found

-- A set is what the main file claims that was found, where that is of this size and block size; else no block is in it.
pub record ClaimsFound (size k : ℕ) (found : Option (List ℕ)) (set : List Bool) : Type 0 where
  pub kept : IsOurs size k found → (c : Cinfo) × Says found c × (c.size ≡ size) × (c.block ≡ k) × (set ≡ c.claims)
  pub empty : (IsOurs size k found → ⊥) → (i : ℕ) → is_member set i ≡ false

-- with that set the log of a cached file starts
abbrev pub StartsFound : ℕ → ℕ → Option (List ℕ) → Start → Type 0
StartsFound size k found (start.Stored set) = ClaimsFound size k found set
StartsFound size k found (start.Uncached why) = Unit {0}

-- ---- what is left

-- the main file claims these blocks and no other; an absent one claims none
abbrev pub ClaimsOnly : ℕ → ℕ → (ℕ → Bool) → Option (List ℕ) → Type 0
ClaimsOnly size k claims None = (i : ℕ) → claims i ≡ false
ClaimsOnly size k claims (Some bytes) = (c : Cinfo) × IsCinfo bytes c × (c.size ≡ size) × (c.block ≡ k) × ((i : ℕ) → is_member c.claims i ≡ claims i)

-- The log of a cached file starts with what was found. What is left claims what the log does at its end, unless the store froze.
pub record Continues (size k : ℕ) (IsMain IsMain' : Option (List ℕ) → Type 0) (section : Section) : Type 0 where
  pub starts : (found : Option (List ℕ)) → IsOnly IsMain found → StartsFound size k found section.log.first
  pub ends : IsUnfrozen section.log.entries → (main : Option (List ℕ)) → IsMain' main → ClaimsOnly size k (λ i. claimed section.log.first i section.log.entries) main

-- ---- of each path

-- a request opens this path
abbrev pub OpensPath : List ℕ → List ℕ → Type 0
OpensPath path line = (number : ℕ) × (request_of line ≡ Ok (Open number path))

-- no client is asked to open it
abbrev pub IsUnopened : List ℕ → List Line → Type 0
IsUnopened path lines = (n : ℕ) → All (λ line. OpensPath path line → ⊥) (asked n lines)

-- no log of it starts with a store
abbrev pub IsUncached : List ℕ → List Section → Type 0
IsUncached path logs = All (λ section. IsCached section.log.first → section.path ≢ path) logs

-- The main files of all paths, as the run begins and as it ends. A cached log in which something happened continues what was
-- found. A main file to be kept is there still where no log is cached, and whatever was there where nobody opened the path.
pub record AreContinued (files : Files) (k : ℕ) (lines : List Line) (IsMain IsMain' : List ℕ → Option (List ℕ) → Type 0) (logs : List Section) : Type 0 where
  pub used : All (λ section. IsCached section.log.first → section.log.entries ≢ [] → (file : List ℕ) → file_at files section.path ≡ Some file → Continues (length file) k (IsMain section.path) (IsMain' section.path) section) logs
  pub unused : (path file : List ℕ) (found : Option (List ℕ)) → file_at files path ≡ Some file → IsUncached path logs → IsOnly (IsMain path) found → IsOurs (length file) k found → IsOnly (IsMain' path) found
  pub unopened : (path : List ℕ) → IsUnopened path lines → (main : Option (List ℕ)) → IsMain' path main → IsMain path main
