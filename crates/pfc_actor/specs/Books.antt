-- What contracts see of a client's book, and what it keeps.
use Rattle.std.specs.Prelude.{◌≡◌, ◌<◌, ◌≤◌, ℕ, Bool, false, List, Option, Some, None, length, take, sum_by, slice_get, Result}
use Rattle.pfc_world.specs.Files.{Files}
use Rattle.pfc_client.specs.declared.reply.Reply.{Reply}
use Rattle.pfc_client.specs.declared.request.Request.{Request}
use Rattle.pfc_client.specs.declared.request.RequestRefusal.{RequestRefusal}
use Rattle.pfc_client.specs.Requests.{request_of, OpensNothing}
use Rattle.pfc_client.specs.Session.{place_at}
use Rattle.pfc_client.specs.Permitted.{File, Table, Walk, files_of, nothing_open}
use Rattle.pfc_core.specs.Marks.{Mark, StayKind}

-- the client's number, its request lines, the replies so far, the stay in each descriptor's file, and whether it closes
-- without being asked to
pub record BookView : Type 0 where
  pub number : ℕ
  pub asked : List (List ℕ)
  pub replies : List Reply
  pub stays : List (Option Mark)
  pub shut : Bool

abbrev pub file_in : Mark → File
file_in m = (m.path, m.size)

-- the files that are open
abbrev pub table : BookView → Table
table b = files_of file_in b.stays

abbrev pub weight_in : (Mark → ℕ) → Option Mark → ℕ
weight_in w None = 0
weight_in w (Some m) = w m

-- the stays, weighed
abbrev pub open_weight : (Mark → ℕ) → List (Option Mark) → ℕ
open_weight w stays = sum_by (weight_in w) stays

-- a stay of this client
pub record IsStay (number : ℕ) (m : Mark) : Type 0 where
  pub kind_is : m.kind ≡ StayKind
  pub client_is : m.client ≡ number

-- The replies so far are permitted, and end at the files that are open, while the client is asked.
pub record IsAnswered (told : Bool) (files : Files) (asked : List (List ℕ)) (replies : List Reply) (kept : List (Option Mark)) (shut : Bool) : Type 0 where
  pub end : Table
  pub walk : Walk told files nothing_open (take (length replies) asked) replies end
  pub same : shut ≡ false → end ≡ files_of file_in kept

pub record IsBook (told : Bool) (files : Files) (number : ℕ) (asked : List (List ℕ)) (replies : List Reply) (kept : List (Option Mark)) (shut : Bool) (capacity : ℕ) : Type 0 where
  pub answered : IsAnswered told files asked replies kept shut
  pub few : length replies ≤ length asked
  pub room : length asked ≤ capacity
  pub stays : (i : ℕ) (m : Mark) → place_at kept i ≡ Some m → IsStay number m

-- the line that is answered next says this
pub record IsNext (b : BookView) (said : Result Request RequestRefusal) : Type 0 where
  pub some : length b.replies < length b.asked
  pub is : (line : List ℕ) → slice_get b.asked (length b.replies) ≡ Some line → request_of line ≡ said

-- the line that is answered next opens nothing, and memory was refused for its pieces
pub record LacksMemory (b : BookView) : Type 0 where
  pub said : Result Request RequestRefusal
  pub next : IsNext b said
  pub nothing : OpensNothing said
