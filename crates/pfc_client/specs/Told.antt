-- What a client's replies say it did.
use Rattle.std.specs.Prelude.{ℕ, Bool, true, false, List, length, count_by, sum_by, Result, Ok, if◌then◌else◌}
use Rattle.std.specs.List.{zip}
use Rattle.pfc_span.specs.Pieces.{pieces_in, asked_of}
use Rattle.pfc_client.specs.declared.request.Request.{Request}
use Rattle.pfc_client.specs.declared.request.Request.TheVariants.{Open, Read}
use Rattle.pfc_client.specs.declared.request.RequestRefusal.{RequestRefusal}
use Rattle.pfc_client.specs.declared.reply.Reply.{Reply}
use Rattle.pfc_client.specs.declared.reply.Reply.TheVariants as r
use Rattle.pfc_client.specs.Requests.{request_of}

-- the reply tells that the origin was asked for a size, if it is one to an open
abbrev pub follows_stat : Reply → Bool
follows_stat (r.Size size) = true
follows_stat r.NoFile = true
follows_stat r.Fetch = true
follows_stat r.Memory = true
follows_stat _ = false

-- an open for which the origin was asked for a size
abbrev pub stats_at : Result Request RequestRefusal → Reply → ℕ
stats_at (Ok (Open number path)) reply = if follows_stat reply then 1 else 0
stats_at _ reply = 0

abbrev pub is_lost : Reply → Bool
is_lost r.Fetch = true
is_lost r.Memory = true
is_lost _ = false

-- the bytes asked by a read that failed
abbrev pub lost_at : Result Request RequestRefusal → Reply → ℕ
lost_at (Ok (Read number pieces)) reply = if is_lost reply then asked_of (pieces_in pieces) else 0
lost_at _ reply = 0

-- how often the origin was asked for a size by these lines, which were answered so
abbrev pub stats : List (List ℕ) → List Reply → ℕ
stats lines replies = sum_by (λ x. stats_at (request_of x.0) x.1) (zip lines replies)

-- the bytes asked by the reads that failed
abbrev pub lost : List (List ℕ) → List Reply → ℕ
lost lines replies = sum_by (λ x. lost_at (request_of x.0) x.1) (zip lines replies)

abbrev pub is_size : Reply → Bool
is_size (r.Size size) = true
is_size _ = false

abbrev pub is_data : Reply → Bool
is_data (r.Bytes bytes) = true
is_data (r.Vector parts) = true
is_data _ = false

abbrev pub bytes_in : Reply → ℕ
bytes_in (r.Bytes bytes) = length bytes
bytes_in (r.Vector parts) = sum_by length parts
bytes_in _ = 0

-- how many opens succeeded
abbrev pub opens : List Reply → ℕ
opens replies = count_by is_size replies

-- how many reads ended with data
abbrev pub reads : List Reply → ℕ
reads replies = count_by is_data replies

-- and how many bytes
abbrev pub bytes : List Reply → ℕ
bytes replies = sum_by bytes_in replies
