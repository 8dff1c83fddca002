-- The reply to one request is one that is permitted.
use Rattle.std.proofs.Common.{◌≡◌, ℕ, ◌<◌, ◌≤◌, ◌+◌, List, [], ◌∷◌, length, take, drop, replicate, refl, sym, ap, ◌∙◌, arith, length-take, length-drop, Bool, true, false, inl, inr, subst}
use Rattle.std.specs.Prelude.{Option, Some, None, IsSomeAnd, IsTrue, is_some, option_map, slice_set, sum_by, Result, Ok}
use Rattle.std.proofs.lemmas.List.{append-nil, length-replicate}
use Rattle.std.proofs.lemmas.List.Sums.{sum_by-cons}
use Rattle.std.proofs.Math.Seq.{take-append_seam, drop-append_seam}
use Rattle.pfc_base.specs.Block.{slice_of}
use Rattle.pfc_base.specs.declared.block.Piece.{Piece}
use Rattle.pfc_span.specs.declared.pieces.Pieces.{Pieces}
use Rattle.pfc_span.specs.declared.pieces.Pieces.TheVariants as pieces
use Rattle.pfc_span.specs.Pieces.{pieces_in, asked_of, piece_len, total_of, bytes_of}
use Rattle.pfc_world.specs.Files.{Files, file_at, size_at, HasSize}
use Rattle.pfc_client.specs.declared.request.Request.{Request}
use Rattle.pfc_client.specs.declared.request.RequestRefusal.{RequestRefusal}
use Rattle.pfc_client.specs.declared.request.Request.TheVariants.{Open, Read, Close}
use Rattle.pfc_client.specs.declared.reply.Reply.{Reply}
use Rattle.pfc_client.specs.declared.reply.Reply.TheVariants as r
use Rattle.pfc_client.specs.Replies.{reply_with}
use Rattle.pfc_client.specs.Vectors.{in_pieces}
use Rattle.pfc_client.specs.Session.{place_at, is_free}
use Rattle.pfc_client.specs.Permitted.{files_of, File, Table, Plain, Permits, Reads, Gives, NeedsOrigin, IsPiece, ArePieces, most_bytes}
use Rattle.pfc_client.proofs.Sessions.{place_at-files_of, is_free-files_of, files_of-put, files_of-take}

found : (told : Bool) (files : Files) (table : Table) (number : ℕ) (path : List ℕ) → is_free table number ≡ true → (size : Option ℕ) → size_at files path ≡ size →
    Permits told files table (Ok (Open number path)) r.Fetch table
found told files table number path free (Some size) e = (r.Size size, slice_set table number (Some (path, size)), rw free ((λ _. e), refl), tt, refl)
found told files table number path free None e = (r.NoFile, table, rw free ((λ _. e), refl), tt, refl)

-- a question for the size that failed
pub open-fetch : {K : Type 0} (f : K → File) (session : List (Option K)) (told : Bool) (files : Files) (number : ℕ) (path : List ℕ) → is_free session number ≡ true →
    Permits told files (files_of f session) (Ok (Open number path)) r.Fetch (files_of f session)
open-fetch f session told files number path free = found told files (files_of f session) number path (is_free-files_of f session number ∙ free) (size_at files path) refl

-- the file is open
pub open-size : {K : Type 0} (f : K → File) (session after : List (Option K)) (told : Bool) (files : Files) (number : ℕ) (path : List ℕ) (size : ℕ) (k : K) →
    is_free session number ≡ true → after ≡ slice_set session number (Some k) → HasSize told files (f k).0 (f k).1 → (f k).0 ≡ path → size ≡ (f k).1 →
    Plain told files (files_of f session) (Ok (Open number path)) (r.Size size) (files_of f after)
open-size f session after told files number path size k free put right p s =
    let same : f k ≡ (path, size) = ap (λ x. (x, (f k).1)) p ∙ ap (λ x. (path, x)) (sym s) in
    rw (is_free-files_of f session number, free) (
      (λ t. ap (size_at files) (sym p) ∙ right t ∙ ap Some (sym s)),
      ap (files_of f) put ∙ files_of-put f session number k ∙ ap (λ x. slice_set (files_of f session) number (Some x)) same,
    )

-- the descriptor is free again
pub close-open : {K : Type 0} (f : K → File) (session after : List (Option K)) (told : Bool) (files : Files) (number : ℕ) (k : K) →
    place_at session number ≡ Some k → after ≡ slice_set session number None →
    Plain told files (files_of f session) (Ok (Close number)) r.Closed (files_of f after)
close-open f session after told files number k is took =
    rw (place_at-files_of f session number, is) (refl, ap (files_of f) took ∙ files_of-take f session number)

told-piece : (all : Option (List ℕ)) (size : ℕ) (piece : Piece) → option_map length all ≡ Some size →
    (bytes : List ℕ) × (length bytes ≡ piece_len size piece) × IsSomeAnd all (λ file. bytes ≡ slice_of file piece.off piece.len)
told-piece None size piece e = cc
told-piece (Some file) size piece e =
    let same : length file ≡ size = cc in
    (slice_of file piece.off piece.len, omega (arith, length-take piece.len (drop piece.off file), length-drop piece.off file, same), refl)

-- some bytes that the plain reply may have
some-piece : (told : Bool) (files : Files) (file : File) (piece : Piece) → HasSize told files file.0 file.1 → (bytes : List ℕ) × IsPiece told files file piece bytes
some-piece false files file piece h = (replicate (piece_len file.1 piece) 0, (length-replicate (piece_len file.1 piece) 0, λ t. absurd (cc)))
some-piece true files file piece h =
    let bytes = told-piece (file_at files file.0) file.1 piece (h refl) in
    (bytes.0, (bytes.1, λ _. bytes.2))

-- some bytes for each piece
some-pieces : (told : Bool) (files : Files) (file : File) (list : List Piece) → HasSize told files file.0 file.1 → (parts : List (List ℕ)) × ArePieces told files file list parts × (sum_by length parts ≡ total_of file.1 list)
some-pieces told files file [] right = ([], tt, refl)
some-pieces told files file (piece ∷ list) right =
    let first = some-piece told files file piece right in
    let rest = some-pieces told files file list right in
    (first.0 ∷ rest.0, (first.1, rest.1), omega (arith, first.1.0, rest.2, sum_by-cons length first.0 rest.0, sum_by-cons (piece_len file.1) piece list))

total-one : (size : ℕ) (piece : Piece) → total_of size (piece ∷ []) ≡ piece_len size piece
total-one size piece = omega (arith, sum_by-cons (piece_len size) piece [])

-- some reply with bytes
some-gives : (told : Bool) (files : Files) (file : File) (asked : Pieces) → HasSize told files file.0 file.1 → 0 < total_of file.1 (pieces_in asked) → (reply : Reply) × Gives told files file asked reply × NeedsOrigin reply
some-gives told files file (pieces.One piece) right some =
    let bytes = some-piece told files file piece right in
    (r.Bytes bytes.0, (bytes.0, bytes.1, refl), omega (arith, some, total-one file.1 piece, bytes.1.0))
some-gives told files file (pieces.Vector list) right some =
    let parts = some-pieces told files file list right in
    (r.Vector parts.0, (parts.0, parts.1, refl), omega (arith, some, parts.2))

-- a fetch that failed, of pieces with bytes
pub read-fetch : {K : Type 0} (f : K → File) (session : List (Option K)) (told : Bool) (files : Files) (number : ℕ) (asked : Pieces) (k : K) →
    Some k ≡ place_at session number → HasSize told files (f k).0 (f k).1 → asked_of (pieces_in asked) ≤ most_bytes → 0 < total_of (f k).1 (pieces_in asked) →
    Permits told files (files_of f session) (Ok (Read number asked)) r.Fetch (files_of f session)
read-fetch f session told files number asked k is right most some =
    let given = some-gives told files (f k) asked right some in (
      given.0,
      files_of f session,
      (rw (place_at-files_of f session number, ← is) (inr (most, given.1)), refl),
      given.2,
      refl,
    )

too-long : (told : Bool) (files : Files) (place : Option File) (asked : Pieces) → is_some place ≡ true → most_bytes < asked_of (pieces_in asked) → Reads told files place asked r.Range
too-long told files None asked some long = cc
too-long told files (Some file) asked some long = inl (long, refl)

pub is_some-map : {K A : Type 0} (f : K → A) (o : Option K) → is_some (option_map f o) ≡ is_some o
is_some-map f None = refl
is_some-map f (Some k) = refl

none-open : (told : Bool) (files : Files) (place : Option File) (asked : Pieces) → is_some place ≡ false → Reads told files place asked r.Descriptor
none-open told files None asked none = refl
none-open told files (Some file) asked none = cc

-- a read of what isn't open
pub read-unopened : {K : Type 0} (f : K → File) (session : List (Option K)) (told : Bool) (files : Files) (number : ℕ) (asked : Pieces) →
    is_some (place_at session number) ≡ false → Plain told files (files_of f session) (Ok (Read number asked)) r.Descriptor (files_of f session)
read-unopened f session told files number asked none =
    (none-open told files (place_at (files_of f session) number) asked (ap is_some (place_at-files_of f session number) ∙ is_some-map f (place_at session number) ∙ none), refl)

-- a read of more bytes than one gives
pub read-too-long : {K : Type 0} (f : K → File) (session : List (Option K)) (told : Bool) (files : Files) (number : ℕ) (asked : Pieces) →
    is_some (place_at session number) ≡ true → most_bytes < asked_of (pieces_in asked) → Plain told files (files_of f session) (Ok (Read number asked)) r.Range (files_of f session)
read-too-long f session told files number asked some long =
    (too-long told files (place_at (files_of f session) number) asked (ap is_some (place_at-files_of f session number) ∙ is_some-map f (place_at session number) ∙ some) long, refl)

-- the bytes of a piece stand before those of the others
front-bytes : (file : List ℕ) (piece : Piece) (list : List Piece) (bytes : List ℕ) → bytes ≡ bytes_of file (piece ∷ list) → take (piece_len (length file) piece) bytes ≡ slice_of file piece.off piece.len
front-bytes file piece list bytes is =
    let slice : List ℕ = slice_of file piece.off piece.len in
    let long : piece_len (length file) piece ≡ length slice = omega (arith, length-take piece.len (drop piece.off file), length-drop piece.off file) in
    (λ i. take (long i) (is i)) ∙ take-append_seam slice (bytes_of file list)

rest-bytes : (file : List ℕ) (piece : Piece) (list : List Piece) (bytes : List ℕ) → bytes ≡ bytes_of file (piece ∷ list) → drop (piece_len (length file) piece) bytes ≡ bytes_of file list
rest-bytes file piece list bytes is =
    let slice : List ℕ = slice_of file piece.off piece.len in
    let long : piece_len (length file) piece ≡ length slice = omega (arith, length-take piece.len (drop piece.off file), length-drop piece.off file) in
    (λ i. drop (long i) (is i)) ∙ drop-append_seam slice (bytes_of file list)

first-told : (all : Option (List ℕ)) (size : ℕ) (piece : Piece) (list : List Piece) (bytes : List ℕ) → option_map length all ≡ Some size → IsSomeAnd all (λ file. bytes ≡ bytes_of file (piece ∷ list)) →
    IsSomeAnd all (λ file. take (piece_len size piece) bytes ≡ slice_of file piece.off piece.len)
first-told None size piece list bytes sized is = cc
first-told (Some file) size piece list bytes sized is =
    let same : length file ≡ size = cc in subst (λ n. take (piece_len n piece) bytes ≡ slice_of file piece.off piece.len) same (front-bytes file piece list bytes is)

rest-told : (all : Option (List ℕ)) (size : ℕ) (piece : Piece) (list : List Piece) (bytes : List ℕ) → option_map length all ≡ Some size → IsSomeAnd all (λ file. bytes ≡ bytes_of file (piece ∷ list)) →
    IsSomeAnd all (λ file. drop (piece_len size piece) bytes ≡ bytes_of file list)
rest-told None size piece list bytes sized is = cc
rest-told (Some file) size piece list bytes sized is =
    let same : length file ≡ size = cc in subst (λ n. drop (piece_len n piece) bytes ≡ bytes_of file list) same (rest-bytes file piece list bytes is)

-- bytes that are those of all pieces are cut into those of each
cut-pieces : (told : Bool) (files : Files) (file : File) (list : List Piece) (bytes : List ℕ) → HasSize told files file.0 file.1 → length bytes ≡ total_of file.1 list →
    (IsTrue told → IsSomeAnd (file_at files file.0) (λ all. bytes ≡ bytes_of all list)) → ArePieces told files file list (in_pieces file.1 list bytes)
cut-pieces told files file [] bytes sized long right = tt
cut-pieces told files file (piece ∷ list) bytes sized long right =
    let n : ℕ = piece_len file.1 piece in
    let whole : length bytes ≡ n + total_of file.1 list = long ∙ sum_by-cons (piece_len file.1) piece list in
    let front : length (take n bytes) ≡ n = omega (arith, whole, length-take n bytes) in
    let behind : length (drop n bytes) ≡ total_of file.1 list = omega (arith, whole, length-drop n bytes) in (
      (front, λ t. first-told (file_at files file.0) file.1 piece list bytes (sized t) (right t)),
      cut-pieces told files file list (drop n bytes) sized behind (λ t. rest-told (file_at files file.0) file.1 piece list bytes (sized t) (right t)),
    )

-- the parts have all bytes
pub bytes-in-cut : (size : ℕ) (list : List Piece) (bytes : List ℕ) → length bytes ≡ total_of size list → sum_by length (in_pieces size list bytes) ≡ length bytes
bytes-in-cut size [] bytes long = sym long
bytes-in-cut size (piece ∷ list) bytes long =
    let n : ℕ = piece_len size piece in
    let whole : length bytes ≡ n + total_of size list = long ∙ sum_by-cons (piece_len size) piece list in
    let behind : length (drop n bytes) ≡ total_of size list = omega (arith, whole, length-drop n bytes) in
    omega (arith, whole, behind, length-take n bytes, bytes-in-cut size list (drop n bytes) behind, sum_by-cons length (take n bytes) (in_pieces size list (drop n bytes)))

one-told : (all : Option (List ℕ)) (piece : Piece) (bytes : List ℕ) → IsSomeAnd all (λ file. bytes ≡ bytes_of file (piece ∷ [])) → IsSomeAnd all (λ file. bytes ≡ slice_of file piece.off piece.len)
one-told None piece bytes is = is
one-told (Some file) piece bytes is = is ∙ append-nil (slice_of file piece.off piece.len)

gives-bytes : (told : Bool) (files : Files) (file : File) (asked : Pieces) (bytes : List ℕ) → HasSize told files file.0 file.1 → length bytes ≡ total_of file.1 (pieces_in asked) →
    (IsTrue told → IsSomeAnd (file_at files file.0) (λ all. bytes ≡ bytes_of all (pieces_in asked))) → Gives told files file asked (reply_with asked file.1 bytes)
gives-bytes told files file (pieces.One piece) bytes sized long right = (bytes, (long ∙ total-one file.1 piece, λ t. one-told (file_at files file.0) piece bytes (right t)), refl)
gives-bytes told files file (pieces.Vector list) bytes sized long right = (in_pieces file.1 list bytes, cut-pieces told files file list bytes sized long right, refl)

-- the bytes of all pieces make the plain reply
pub read-gives : {K : Type 0} (f : K → File) (session : List (Option K)) (told : Bool) (files : Files) (number : ℕ) (asked : Pieces) (k : K) (bytes : List ℕ) →
    Some k ≡ place_at session number → asked_of (pieces_in asked) ≤ most_bytes → HasSize told files (f k).0 (f k).1 → length bytes ≡ total_of (f k).1 (pieces_in asked) →
    (IsTrue told → IsSomeAnd (file_at files (f k).0) (λ all. bytes ≡ bytes_of all (pieces_in asked))) →
    Plain told files (files_of f session) (Ok (Read number asked)) (reply_with asked (f k).1 bytes) (files_of f session)
read-gives f session told files number asked k bytes is most sized long right =
    (rw (place_at-files_of f session number, ← is) (inr (most, gives-bytes told files (f k) asked bytes sized long right)), refl)

-- a plain reply with bytes is permitted
pub data-permitted : (told : Bool) (files : Files) (table : Table) (request : Result Request RequestRefusal) (asked : Pieces) (size : ℕ) (bytes : List ℕ) (new : Table) →
    Plain told files table request (reply_with asked size bytes) new → Permits told files table request (reply_with asked size bytes) new
data-permitted told files table request (pieces.One piece) size bytes new plain = plain
data-permitted told files table request (pieces.Vector list) size bytes new plain = plain
