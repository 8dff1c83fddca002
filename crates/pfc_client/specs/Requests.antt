-- What a line asks. Its words stand behind exactly one space each.
use Rattle.std.specs.Prelude.{◌≡◌, ℕ, ◌==◌, nat_lt, Bool, List, [], ◌∷◌, length, codes, Option, Some, None, Result, Ok, Err, if◌then◌else◌, refl, ⊤}
use Rattle.std.specs.Cmp.Lexicographic.{pointwise}
use Rattle.pfc_base.specs.Pieces.{pieces_of, pieces_of-some}
use Rattle.pfc_base.specs.declared.block.Piece.{Piece}
use Rattle.pfc_base.specs.Path.{is_path}
use Rattle.pfc_base.specs.Number.{decimal_of}
use Rattle.pfc_span.specs.declared.pieces.Pieces.TheVariants.{One, Vector}
use Rattle.pfc_client.specs.declared.request.Request.{Request}
use Rattle.pfc_client.specs.declared.request.Request.TheVariants.{Open, Read, Close}
use Rattle.pfc_client.specs.declared.request.RequestRefusal.{RequestRefusal}
use Rattle.pfc_client.specs.declared.request.RequestRefusal.TheVariants as refusal

abbrev pub is_word : List ℕ → List ℕ → Bool
is_word = pointwise ◌==◌

-- the third word of an open isn't empty, and need not be a path
abbrev pub opening : Option ℕ → List ℕ → Result Request RequestRefusal
opening None third = Err refusal.Form
opening (Some number) third =
    if length third == 0 then Err refusal.Form else if is_path third then Ok (Open number third) else Err refusal.Path

abbrev pub reading : Option ℕ → Option ℕ → Option ℕ → Result Request RequestRefusal
reading None off len = Err refusal.Form
reading (Some number) None len = Err refusal.Form
reading (Some number) (Some off) None = Err refusal.Form
reading (Some number) (Some off) (Some len) = Ok (Read number (One (record { off = off; len = len })))

abbrev pub closing : Option ℕ → Result Request RequestRefusal
closing None = Err refusal.Form
closing (Some number) = Ok (Close number)

-- `close <number>`, `open <number> <path>`, `read <number> <off> <len>`, and no other form
abbrev pub plain_words : List (List ℕ) → Result Request RequestRefusal
plain_words (verb ∷ number ∷ []) = if is_word verb (codes "close") then closing (decimal_of number) else Err refusal.Form
plain_words (verb ∷ number ∷ third ∷ []) = if is_word verb (codes "open") then opening (decimal_of number) third else Err refusal.Form
plain_words (verb ∷ number ∷ off ∷ len ∷ []) = if is_word verb (codes "read") then reading (decimal_of number) (decimal_of off) (decimal_of len) else Err refusal.Form
plain_words (verb ∷ number ∷ off ∷ len ∷ other ∷ more) = Err refusal.Form
plain_words (verb ∷ []) = Err refusal.Form
plain_words [] = Err refusal.Form

abbrev pub piece_with : Option ℕ → Option ℕ → Option Piece
piece_with None len = None
piece_with (Some off) None = None
piece_with (Some off) (Some len) = Some (record { off = off; len = len })

abbrev pub piece_by : List (List ℕ) → Option Piece
piece_by (off ∷ len ∷ []) = piece_with (decimal_of off) (decimal_of len)
piece_by _ = None

-- `<off>:<len>`
abbrev pub piece_of : List ℕ → Option Piece
piece_of word = piece_by (pieces_of 58 word)

abbrev pub put_first : Option Piece → Option (List Piece) → Option (List Piece)
put_first None list = None
put_first (Some piece) None = None
put_first (Some piece) (Some list) = Some (piece ∷ list)

-- the pieces of all words, if each is one
abbrev pub all_pieces : List (List ℕ) → Option (List Piece)
all_pieces [] = Some []
all_pieces (word ∷ words) = put_first (piece_of word) (all_pieces words)

-- at most 1024 of them
abbrev pub few_pieces : List (List ℕ) → Option (List Piece)
few_pieces words = if nat_lt 1024 (length words) then None else all_pieces words

abbrev pub vectoring : Option ℕ → Option (List Piece) → Result Request RequestRefusal
vectoring None list = Err refusal.Form
vectoring (Some number) None = Err refusal.Form
vectoring (Some number) (Some list) = Ok (Read number (Vector list))

-- or `readv <number> <off>:<len> ..` with 1 to 1024 pieces
abbrev pub by_words : List (List ℕ) → Result Request RequestRefusal
by_words (verb ∷ number ∷ third ∷ more) =
    if is_word verb (codes "readv") then vectoring (decimal_of number) (few_pieces (third ∷ more)) else plain_words (verb ∷ number ∷ third ∷ more)
by_words words = plain_words words

-- a line has at most 65536 bytes
abbrev pub request_of : List ℕ → Result Request RequestRefusal
request_of line = if nat_lt 65536 (length line) then Err refusal.Form else by_words (pieces_of 32 line)

-- nothing is opened
abbrev pub OpensNothing : Result Request RequestRefusal → Type 0
OpensNothing (Ok (Open number path)) = ⊥
OpensNothing _ = ⊤

-- but for a vector read, five words and more are no request
pub plain_words-long : (verb number off len rest : List ℕ) → plain_words (verb ∷ number ∷ off ∷ len ∷ pieces_of 32 rest) ≡ Err refusal.Form
plain_words-long verb number off len rest = let some = pieces_of-some 32 rest in rw some.2 refl
