-- The pieces of a vector read, word by word.
use Rattle.std.proofs.Common.{◌≡◌, ℕ, suc, ◌+◌, ◌<◌, ◌≤◌, List, [], ◌∷◌, ◌++◌, length, take, drop, drop-cons, get_or, refl, sym, ap, ◌∙◌, arith, append_assoc, length-append, Bool, true, false}
use Rattle.std.specs.Prelude.{Option, Some, None, Result, Ok, Err, OnErr, option_map, codes, nat_lt, if◌then◌else◌}
use Rattle.std.proofs.lemmas.Bool.{lt-ltb, le-ltb}
use Rattle.std.proofs.lemmas.List.{append-nil}
use Rattle.pfc_base.specs.Number.{decimal_of}
use Rattle.pfc_base.specs.Pieces.{pieces_of, pieces_of-some}
use Rattle.pfc_base.specs.declared.block.Piece.{Piece}
use Rattle.std.specs.List.{flat_map}
use Rattle.std.specs.Fmt.{decimal}
use Rattle.pfc_base.specs.Block.{slice_of}
use Rattle.pfc_base.proofs.Lists.{drop-drop}
use Rattle.pfc_span.specs.Pieces.{piece_len}
use Rattle.pfc_client.specs.Vectors.{in_pieces, piece_text, vector_text}
use Rattle.pfc_client.specs.Requests.{request_of, by_words, is_word, piece_by, piece_of, put_first, all_pieces, few_pieces, vectoring, OpensNothing}

-- these pieces, and those of the words behind them, if there are few
abbrev pub behind : List Piece → List (List ℕ) → Option (List Piece)
behind these words = if nat_lt 1024 (length these + length words) then None else option_map (λ list. these ++ list) (all_pieces words)

these-all : (o : Option (List Piece)) → option_map (λ list. [] ++ list) o ≡ o
these-all None = refl
these-all (Some list) = refl

pub behind-none : (words : List (List ℕ)) → behind [] words ≡ few_pieces words
behind-none words =
    let n : 0 + length words ≡ length words = omega arith in
    (λ i. if nat_lt 1024 (n i) then None else these-all (all_pieces words) i)

moved : (these : List Piece) (piece : Piece) (o : Option (List Piece)) → option_map (λ list. these ++ list) (put_first (Some piece) o) ≡ option_map (λ list. (these ++ piece ∷ []) ++ list) o
moved these piece None = refl
moved these piece (Some list) = ap Some (sym (append_assoc these (piece ∷ []) list))

-- one word more is read
pub behind-more : (these : List Piece) (piece : Piece) (word : List ℕ) (words : List (List ℕ)) → piece_of word ≡ Some piece → behind these (word ∷ words) ≡ behind (these ++ piece ∷ []) words
behind-more these piece word words is =
    let n : length these + length (word ∷ words) ≡ length (these ++ piece ∷ []) + length words = omega (arith, length-append these (piece ∷ [])) in
    let list : option_map (λ list. these ++ list) (all_pieces (word ∷ words)) ≡ option_map (λ list. (these ++ piece ∷ []) ++ list) (all_pieces words) =
    ap (λ o. option_map (λ list. these ++ list) (put_first o (all_pieces words))) is ∙ moved these piece (all_pieces words) in
    (λ i. if nat_lt 1024 (n i) then None else list i)

-- too many words
pub behind-many : (these : List Piece) (words : List (List ℕ)) → 1024 < length these + length words → behind these words ≡ None
behind-many these words many = let t : nat_lt 1024 (length these + length words) ≡ true = lt-ltb 1024 (length these + length words) many in rw t refl

none-either : (b : Bool) (o : Option (List Piece)) → o ≡ None → (if b then None else o) ≡ None
none-either true o none = refl
none-either false o none = none

-- a word that is no piece
pub behind-bad : (these : List Piece) (word : List ℕ) (words : List (List ℕ)) → piece_of word ≡ None → behind these (word ∷ words) ≡ None
behind-bad these word words bad =
    let none : option_map (λ list. these ++ list) (all_pieces (word ∷ words)) ≡ None = ap (λ o. option_map (λ list. these ++ list) (put_first o (all_pieces words))) bad in
    none-either (nat_lt 1024 (length these + length (word ∷ words))) (option_map (λ list. these ++ list) (all_pieces (word ∷ words))) none

-- no word is left
pub behind-done : (these : List Piece) → length these ≤ 1024 → behind these [] ≡ Some these
behind-done these few =
    let n : nat_lt 1024 (length these + 0) ≡ false = le-ltb 1024 (length these + 0) (omega (arith, few)) in
    let whole : these ++ [] ≡ these = append-nil these in
    rw n (ap Some whole)

pub opens-nothing : (number : Option ℕ) (list : Option (List Piece)) → OpensNothing (vectoring number list)
opens-nothing None list = tt
opens-nothing (Some number) None = tt
opens-nothing (Some number) (Some list) = tt

-- a line with this verb and three words or more is a vector read
pub vector-line : (verb number words : List ℕ) → is_word verb (codes "readv") ≡ true → by_words (verb ∷ number ∷ pieces_of 32 words) ≡ vectoring (decimal_of number) (few_pieces (pieces_of 32 words))
vector-line verb number words is = let some = pieces_of-some 32 words in rw some.2 (rw is refl)

-- a piece has two numbers and no third
pub long-piece : (off len more : List ℕ) → piece_by (off ∷ len ∷ pieces_of 58 more) ≡ None
long-piece off len more = let some = pieces_of-some 58 more in rw some.2 refl

-- a line that isn't too long is read by its words
pub short-line : (line : List ℕ) → length line ≤ 65536 → request_of line ≡ by_words (pieces_of 32 line)
short-line line short = let n : nat_lt 65536 (length line) ≡ false = le-ltb 65536 (length line) short in rw n refl

pub any-err : {A E : Type 0} (o : Result A E) (X : Type 0) → X → OnErr o X
any-err (Ok a) X x = tt
any-err (Err e) X x = x

-- the words of the pieces from one on
pub text-step : (size : ℕ) (pieces : List Piece) (i n at : ℕ) (bytes : List ℕ) (d : Piece) → i < length pieces → n ≡ piece_len size (get_or pieces i d) →
    flat_map piece_text (in_pieces size (drop i pieces) (drop at bytes)) ≡ piece_text (slice_of bytes at n) ++ flat_map piece_text (in_pieces size (drop (i + 1) pieces) (drop (at + n) bytes))
text-step size pieces i n at bytes d low long =
    let piece : Piece = get_or pieces i d in
    let next : suc i ≡ i + 1 = omega arith in
    let here : drop i pieces ≡ piece ∷ drop (i + 1) pieces = drop-cons pieces i d low ∙ ap (λ m. piece ∷ drop m pieces) next in
    let F : List Piece → List ℕ = λ list. flat_map piece_text (in_pieces size list (drop at bytes)) in
    let step : F (piece ∷ drop (i + 1) pieces) ≡ piece_text (take n (drop at bytes)) ++ flat_map piece_text (in_pieces size (drop (i + 1) pieces) (drop n (drop at bytes))) =
    ap (λ m. piece_text (take m (drop at bytes)) ++ flat_map piece_text (in_pieces size (drop (i + 1) pieces) (drop m (drop at bytes)))) (sym long) in
    ap F here ∙ step ∙ ap (λ rest. piece_text (take n (drop at bytes)) ++ flat_map piece_text (in_pieces size (drop (i + 1) pieces) rest)) (drop-drop n at bytes)

pub count-in : (size : ℕ) (list : List Piece) (bytes : List ℕ) → length (in_pieces size list bytes) ≡ length list
count-in size [] bytes = refl
count-in size (piece ∷ list) bytes = omega (arith, count-in size list (drop (piece_len size piece) bytes))

-- the text of all pieces, part by part
pub vector-told : (size : ℕ) (list : List Piece) (bytes old verb count words : List ℕ) → verb ≡ old ++ codes "vector " → count ≡ verb ++ decimal (length list) →
    words ≡ count ++ flat_map piece_text (in_pieces size list bytes) → words ≡ old ++ vector_text (in_pieces size list bytes)
vector-told size list bytes old verb count words first second third =
    let text : List ℕ = flat_map piece_text (in_pieces size list bytes) in
    let number : List ℕ = decimal (length list) in
    let same : length list ≡ length (in_pieces size list bytes) = sym (count-in size list bytes) in
    third ∙ ap (λ c. c ++ text) (second ∙ ap (λ v. v ++ number) first)
    ∙ append_assoc (old ++ codes "vector ") number text
    ∙ append_assoc old (codes "vector ") (number ++ text)
    ∙ ap (λ n. old ++ (codes "vector " ++ (decimal n ++ text))) same
