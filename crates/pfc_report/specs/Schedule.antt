-- What a schedule says. Its lines end with the byte 0a, and a line's words stand behind exactly one space each.
use Rattle.std.specs.Prelude.{ℕ, ◌==◌, ◌+◌, nat_lt, nat_le, Bool, ◌&&◌, List, [], ◌∷◌, ◌++◌, length, codes, Option, Some, None, option_map, option_and_then, Result, Ok, Err, filter, filter_map, if◌then◌else◌}
use Rattle.std.specs.List.{join_with_byte, range_with_len}
use Rattle.pfc_base.specs.Pieces.{pieces_of}
use Rattle.pfc_base.specs.Number.{decimal_of}
use Rattle.pfc_base.specs.Path.{is_path}
use Rattle.pfc_client.specs.Requests.{is_word}

-- A line that does something: it adds a request to those of a client, or a client, a writer or the sync of a path makes so many
-- steps.
pub data Line : Type 0 where
  Ask : (client : ℕ) (rest : List ℕ) → Line
  Go : (client times : ℕ) → Line
  Write : (writer times : ℕ) → Line
  Sync : (path : List ℕ) (times : ℕ) → Line

-- the decimal that a word spells, where it lies from 1 to this
abbrev pub decimal_to : ℕ → List ℕ → Option ℕ
decimal_to most word = option_and_then (λ n. if nat_le 1 n && nat_le n most then Some n else None) (decimal_of word)

abbrev pub client_of : List ℕ → Option ℕ
client_of word = decimal_to 64 word

abbrev pub times_of : List ℕ → Option ℕ
times_of word = decimal_to 10000 word

-- `ask <n> <rest>`: the rest may have any words, also none, but the space before it stands
abbrev pub asking : Option ℕ → List (List ℕ) → Option Line
asking None words = None
asking (Some n) [] = None
asking (Some n) (word ∷ words) = Some (Ask n (join_with_byte 32 (word ∷ words)))

-- who steps, alone or with how often
abbrev pub stepping : (ℕ → ℕ → Line) → Option ℕ → List (List ℕ) → Option Line
stepping line None words = None
stepping line (Some n) [] = Some (line n 1)
stepping line (Some n) (k ∷ []) = option_map (line n) (times_of k)
stepping line (Some n) (k ∷ other ∷ words) = None

-- and the same of a path
abbrev pub path_stepping : (List ℕ → ℕ → Line) → List ℕ → List (List ℕ) → Option Line
path_stepping line path words = if is_path path then stepping (λ n k. line path k) (Some 0) words else None

-- the line of these words, if they have a line's form, where there are so many writers
abbrev pub line_by : ℕ → List (List ℕ) → Option Line
line_by writers [] = None
line_by writers (verb ∷ []) = None
line_by writers (verb ∷ number ∷ words) =
    if is_word verb (codes "ask") then asking (client_of number) words
    else if is_word verb (codes "go") then stepping Go (client_of number) words
    else if is_word verb (codes "write") then stepping Write (decimal_to writers number) words
    else if is_word verb (codes "sync") then path_stepping Sync number words
    else None

-- what one line says: nothing where it is empty or a remark, one thing, or it has no line's form
abbrev pub said_by : ℕ → List ℕ → Option (List Line)
said_by writers [] = Some []
said_by writers (b ∷ bs) = if b == 35 then Some [] else option_map (λ line. line ∷ []) (line_by writers (pieces_of 32 (b ∷ bs)))

-- what a line says before those behind it; the first line without a form counts
abbrev pub said_first : ℕ → Option (List Line) → Result (List Line) ℕ → Result (List Line) ℕ
said_first number None rest = Err number
said_first number (Some said) (Ok lines) = Ok (said ++ lines)
said_first number (Some said) (Err bad) = Err bad

-- what the lines from this number on say, or the number of the first without a form
abbrev pub all_said : ℕ → ℕ → List (List ℕ) → Result (List Line) ℕ
all_said writers number [] = Ok []
all_said writers number (line ∷ lines) = said_first number (said_by writers line) (all_said writers (number + 1) lines)

-- a schedule has at most 67108864 bytes
abbrev pub schedule_limit : ℕ
schedule_limit = 67108864

-- What a whole schedule says, where there are so many writers, or the number of its first bad line, from 1 on; 0 for its length.
unfoldable pub schedule_of : ℕ → List ℕ → Result (List Line) ℕ
schedule_of writers text = if nat_lt schedule_limit (length text) then Err 0 else all_said writers 1 (pieces_of 10 text)

-- ---- what clients are asked

-- the request that a line adds for client n
abbrev pub request_for : ℕ → Line → Option (List ℕ)
request_for n (Ask m rest) = if m == n then Some rest else None
request_for n (Go m times) = None
request_for n (Write w times) = None
request_for n (Sync path times) = None

-- what client n is asked, in order
abbrev pub asked : ℕ → List Line → List (List ℕ)
asked n lines = filter_map (request_for n) lines

abbrev pub is_asked : List Line → ℕ → Bool
is_asked lines n = nat_lt 0 (length (asked n lines))

-- the clients that are asked anything, in order of number
unfoldable pub asked_clients : List Line → List ℕ
asked_clients lines = filter (is_asked lines) (range_with_len 1 64)
