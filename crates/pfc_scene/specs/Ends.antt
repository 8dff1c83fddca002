-- What is left of clients and cores at the end of a run.
use Rattle.std.specs.Prelude.{◌≡◌, ◌≢◌, ◌⊎◌, ℕ, ◌<◌, ◌≤◌, Bool, List, [], ◌∷◌, ◌++◌, length, map, replicate, slice_index_or, Option, Some, None, false}
use Rattle.pfc_base.specs.BlockSet.{is_member}
use Rattle.pfc_actor.specs.Books.{BookView}
use Rattle.pfc_world.specs.Files.{Files, HasSize}
use Rattle.pfc_log.specs.Lawful.{IsCached, IsComplete}
use Rattle.pfc_log.specs.Views.{claimed, durable}
use Rattle.pfc_core.specs.Turns.{IsSettled}
use Rattle.pfc_core.specs.View.{CoreView}
use Rattle.pfc_report.specs.declared.report.Told.{Told}
use Rattle.pfc_report.specs.declared.report.Section.{Section}
use Rattle.pfc_report.specs.Schedule.{Line, asked, asked_clients}
use Rattle.pfc_actor.specs.Backings.{BackingView, ClaimsIn, IsMainIn, IsOpen, path_in}
use Rattle.pfc_actor.specs.Clients.{ClientView}
use Rattle.pfc_scene.specs.Scenes.{SceneView, IsScene}

-- the section of a core, whose log is complete, and of which nothing is left to be claimed; where the world is told the core has the
-- size of its file
pub record IsSection (told : Bool) (files : Files) (x : Section) (c : CoreView) : Type 0 where
  pub path_is : x.path ≡ c.path
  pub first_is : x.log.first ≡ c.first
  pub entries_are : x.log.entries ≡ c.entries
  pub complete : IsComplete c.first c.entries
  pub settled : IsSettled c
  pub durables : (i : ℕ) → is_member c.durable i ≡ durable c.first i c.entries
  pub claims : (i : ℕ) → is_member c.claimed i ≡ claimed c.first i c.entries
  pub sized : HasSize told files c.path c.size

-- one for each core, in order
abbrev pub AreSections : Bool → Files → List Section → List CoreView → Type 0
AreSections told files [] [] = Unit {0}
AreSections told files [] (c ∷ cores) = ⊥
AreSections told files (x ∷ logs) [] = ⊥
AreSections told files (x ∷ logs) (c ∷ cores) = IsSection told files x c × AreSections told files logs cores

-- the number of a client's line, its calls and its faults
abbrev pub row_of : ClientView → ℕ × ℕ × ℕ
row_of a = (a.line.number, a.line.calls, a.line.faults)

abbrev pub told_of : ClientView → Told
told_of a = record { number = a.book.number; replies = a.book.replies }

-- what each client is asked by these lines
abbrev pub asked_by : List Line → List (ℕ × List (List ℕ))
asked_by lines = map (λ n. (n, asked n lines)) (asked_clients lines)

-- and one client more, behind what it was asked before
abbrev pub all_asked : List Line → ℕ × List (List ℕ) → ℕ × List (List ℕ)
all_asked lines x = (x.0, x.1 ++ asked x.0 lines)

-- the book of a client that was asked nothing yet
abbrev pub fresh_book : ℕ → BookView
fresh_book n = record { number = n; asked = []; replies = []; stays = replicate 16 None; shut = false }

-- ---- how volumes go home

-- the store of each cached core in which something happened is at home
abbrev pub AreOpen : List CoreView → List BackingView → Type 0
AreOpen cores backings = (i : ℕ) (d : CoreView) (e : BackingView) → i < length cores → IsCached (slice_index_or cores i d).first → (slice_index_or cores i d).entries ≢ [] → IsOpen (slice_index_or backings i e).stand

-- a main file of this path is one of what stood there
pub record ComesFrom (path : List ℕ) (main : Option (List ℕ)) (backings : List BackingView) : Type 0 where
  pub place : ℕ
  pub low : place < length backings
  pub backing : BackingView
  pub is : (e : BackingView) → slice_index_or backings place e ≡ backing
  pub path_is : path_in backing.stand ≡ Some path
  pub in_it : IsMainIn backing.info main
  pub claims : ClaimsIn backing.stand backing.claimed backing.durable main

-- Those from place n on went home. Each main file that is home now is of one of them, or it was home before, and none of them is of
-- its path.
abbrev pub PutsFrom : ℕ → List BackingView → (List ℕ → Option (List ℕ) → Type 0) → (List ℕ → Option (List ℕ) → Type 0) → Type 0
PutsFrom n backings IsMain IsMain' = (path : List ℕ) (main : Option (List ℕ)) → IsMain' path main →
    ComesFrom path main backings ⊎ (IsMain path main × ((i : ℕ) (e : BackingView) → n ≤ i → i < length backings → path_in (slice_index_or backings i e).stand ≡ Some path → ⊥))

-- what the scene is, where a report with these logs comes of it
pub record Settles (told : Bool) (files : Files) (v : SceneView) (logs : List Section) : Type 0 where
  pub scene : IsScene v
  pub sections : AreSections told files logs v.cores
  pub opened : AreOpen v.cores v.backings
