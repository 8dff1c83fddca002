-- Which replies a client may be told: the plain ones, and what may stand in their place.
use Rattle.std.specs.Prelude.{◌≡◌, ℕ, ◌<◌, ◌≤◌, ◌⊎◌, Bool, true, false, List, [], ◌∷◌, length, replicate, slice_set, count_by, sum_by, map, IsTrue, MatchBool, Option, Some, None, is_some, option_map, IsSomeAnd, Result, Ok, Err, ⊤}
use Rattle.pfc_base.specs.Block.{slice_of}
use Rattle.pfc_base.specs.declared.block.Piece.{Piece}
use Rattle.pfc_span.specs.declared.pieces.Pieces.{Pieces}
use Rattle.pfc_span.specs.declared.pieces.Pieces.TheVariants as pieces
use Rattle.pfc_span.specs.Pieces.{pieces_in, asked_of, piece_len}
use Rattle.pfc_world.specs.Files.{Files, file_at, size_at, HasSize}
use Rattle.pfc_world.specs.Counts.{RoseBy}
use Rattle.pfc_client.specs.declared.request.Request.{Request}
use Rattle.pfc_client.specs.declared.request.Request.TheVariants.{Open, Read, Close}
use Rattle.pfc_client.specs.declared.request.RequestRefusal.{RequestRefusal}
use Rattle.pfc_client.specs.declared.request.RequestRefusal.TheVariants as refusal
use Rattle.pfc_client.specs.declared.reply.Reply.{Reply}
use Rattle.pfc_client.specs.declared.reply.Reply.TheVariants as r
use Rattle.pfc_client.specs.Requests.{request_of}
use Rattle.pfc_client.specs.Session.{place_at, is_free}

-- an open file: its path, and its size in bytes
abbrev pub File : Type 0
File = List ℕ × ℕ

-- the file that is open at each descriptor
abbrev pub Table : Type 0
Table = List (Option File)

-- the files of what a session has open
abbrev pub files_of : {K : Type 0} → (K → File) → List (Option K) → Table
files_of f session = map (option_map f) session

abbrev pub nothing_open : Table
nothing_open = replicate 16 None

-- These are the bytes of the piece, cut at the end of the file. Where the world isn't told their number alone is said.
abbrev pub IsPiece : Bool → Files → File → Piece → List ℕ → Type 0
IsPiece told files file piece bytes =
    (length bytes ≡ piece_len file.1 piece) × (IsTrue told → IsSomeAnd (file_at files file.0) (λ all. bytes ≡ slice_of all piece.off piece.len))

-- these are the bytes of each piece, in their order
abbrev pub ArePieces : Bool → Files → File → List Piece → List (List ℕ) → Type 0
ArePieces told files file [] [] = ⊤
ArePieces told files file (piece ∷ list) (bytes ∷ parts) = IsPiece told files file piece bytes × ArePieces told files file list parts
ArePieces told files file [] (bytes ∷ parts) = ⊥
ArePieces told files file (piece ∷ list) [] = ⊥

-- the most bytes of one read
abbrev pub most_bytes : ℕ
most_bytes = 16777216

-- the plain reply to an open at a free descriptor: the file's size, or that there is none
abbrev pub Opens : Bool → Files → Table → ℕ → List ℕ → Reply → Table → Type 0
Opens told files table number path (r.Size size) new = HasSize told files path size × (new ≡ slice_set table number (Some (path, size)))
Opens told files table number path r.NoFile new = (IsTrue told → size_at files path ≡ None) × (new ≡ table)
Opens told files table number path _ new = ⊥

-- the reply with the bytes of what is asked
abbrev pub Gives : Bool → Files → File → Pieces → Reply → Type 0
Gives told files file (pieces.One piece) reply = (bytes : List ℕ) × IsPiece told files file piece bytes × (reply ≡ r.Bytes bytes)
Gives told files file (pieces.Vector list) reply = (parts : List (List ℕ)) × ArePieces told files file list parts × (reply ≡ r.Vector parts)

-- the plain reply to a read of what is open at a descriptor
abbrev pub Reads : Bool → Files → Option File → Pieces → Reply → Type 0
Reads told files None asked reply = reply ≡ r.Descriptor
Reads told files (Some file) asked reply =
    (most_bytes < asked_of (pieces_in asked) × (reply ≡ r.Range)) ⊎ (asked_of (pieces_in asked) ≤ most_bytes × Gives told files file asked reply)

-- the plain reply to a line, and the table after it
abbrev pub Plain : Bool → Files → Table → Result Request RequestRefusal → Reply → Table → Type 0
Plain told files table (Err refusal.Form) reply new = (reply ≡ r.Request) × (new ≡ table)
Plain told files table (Err refusal.Path) reply new = (reply ≡ r.Path) × (new ≡ table)
Plain told files table (Ok (Open number path)) reply new =
    MatchBool (is_free table number) (Opens told files table number path reply new) ((reply ≡ r.Descriptor) × (new ≡ table))
Plain told files table (Ok (Read number asked)) reply new = Reads told files (place_at table number) asked reply × (new ≡ table)
Plain told files table (Ok (Close number)) reply new =
    MatchBool (is_some (place_at table number)) ((reply ≡ r.Closed) × (new ≡ slice_set table number None)) ((reply ≡ r.Descriptor) × (new ≡ table))

-- a plain reply that only the origin can give
abbrev pub NeedsOrigin : Reply → Type 0
NeedsOrigin (r.Size size) = ⊤
NeedsOrigin r.NoFile = ⊤
NeedsOrigin (r.Bytes bytes) = 0 < length bytes
NeedsOrigin (r.Vector parts) = 0 < sum_by length parts
NeedsOrigin _ = ⊥

-- the plain reply, or a failed fetch in the place of one that only the origin can give, or want of memory
abbrev pub Permits : Bool → Files → Table → Result Request RequestRefusal → Reply → Table → Type 0
Permits told files table request r.Fetch new =
    (plain : Reply) × (after : Table) × Plain told files table request plain after × NeedsOrigin plain × (new ≡ table)
Permits told files table request r.Memory new = new ≡ table
Permits told files table request reply new = Plain told files table request reply new

-- each reply is permitted, one after the other, from this table to that
abbrev pub Walk : Bool → Files → Table → List (List ℕ) → List Reply → Table → Type 0
Walk told files old [] [] new = new ≡ old
Walk told files old (line ∷ lines) (reply ∷ replies) new =
    (mid : Table) × Permits told files old (request_of line) reply mid × Walk told files mid lines replies new
Walk told files old [] (reply ∷ replies) new = ⊥
Walk told files old (line ∷ lines) [] new = ⊥

-- each reply is the plain one
abbrev pub PlainWalk : Bool → Files → Table → List (List ℕ) → List Reply → Table → Type 0
PlainWalk told files old [] [] new = new ≡ old
PlainWalk told files old (line ∷ lines) (reply ∷ replies) new =
    (mid : Table) × Plain told files old (request_of line) reply mid × PlainWalk told files mid lines replies new
PlainWalk told files old [] (reply ∷ replies) new = ⊥
PlainWalk told files old (line ∷ lines) [] new = ⊥

abbrev pub is_fetch : Reply → Bool
is_fetch r.Fetch = true
is_fetch _ = false

abbrev pub is_memory : Reply → Bool
is_memory r.Memory = true
is_memory _ = false

-- The permitted replies to these lines, where the count of the client's own link's faults was this and is that.
pub record ArePermitted (told : Bool) (files : Files) (lines : List (List ℕ)) (replies : List Reply) (before after : ℕ) : Type 0 where
  pub walk : (end : Table) × Walk told files nothing_open lines replies end
  pub faults : RoseBy before (count_by is_fetch replies) after

-- the plain replies to these lines
abbrev pub ArePlain : Bool → Files → List (List ℕ) → List Reply → Type 0
ArePlain told files lines replies = (end : Table) × PlainWalk told files nothing_open lines replies end
