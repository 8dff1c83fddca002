-- The texts of replies.
use Rattle.std.specs.Prelude.{ℕ, List, [], ◌∷◌, ◌++◌, length, codes}
use Rattle.std.specs.List.{flat_map}
use Rattle.std.specs.Fmt.{decimal}
use Rattle.hex.specs.Hex.{encode_lower}
use Rattle.pfc_span.specs.declared.pieces.Pieces.{Pieces}
use Rattle.pfc_span.specs.declared.pieces.Pieces.TheVariants as pieces
use Rattle.pfc_client.specs.Vectors.{in_pieces, vector_text}
use Rattle.pfc_client.specs.declared.reply.Reply.{Reply}
use Rattle.pfc_client.specs.declared.reply.Reply.TheVariants as r

-- how many bytes there are, and two digits for each
abbrev pub bytes_text : List ℕ → List ℕ
bytes_text [] = codes "data 0 -"
bytes_text (b ∷ bs) = codes "data " ++ decimal (length (b ∷ bs)) ++ codes " " ++ encode_lower (b ∷ bs)

-- the reply to these pieces of a file of this size that has these bytes in all
abbrev pub reply_with : Pieces → ℕ → List ℕ → Reply
reply_with (pieces.One piece) size bytes = r.Bytes bytes
reply_with (pieces.Vector list) size bytes = r.Vector (in_pieces size list bytes)

abbrev pub reply_text_of : Reply → List ℕ
reply_text_of (r.Size n) = codes "ok " ++ decimal n
reply_text_of r.Closed = codes "ok"
reply_text_of (r.Bytes bytes) = bytes_text bytes
reply_text_of (r.Vector parts) = vector_text parts
reply_text_of r.Request = codes "error request"
reply_text_of r.Path = codes "error path"
reply_text_of r.Descriptor = codes "error descriptor"
reply_text_of r.Range = codes "error range"
reply_text_of r.NoFile = codes "error nofile"
reply_text_of r.Fetch = codes "error fetch"
reply_text_of r.Memory = codes "error memory"

-- the line of a reply
abbrev pub line_text : Reply → List ℕ
line_text reply = reply_text_of reply ++ codes "\n"

-- the line that names a client
abbrev pub head_text : ℕ → List ℕ
head_text number = codes "client " ++ decimal number ++ codes "\n"

-- what is printed of a client: its number and its replies, a line each, or nothing where it was asked nothing
abbrev pub client_text : ℕ → List Reply → List ℕ
client_text number [] = []
client_text number (reply ∷ replies) = head_text number ++ flat_map line_text (reply ∷ replies)
