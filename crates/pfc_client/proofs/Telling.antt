-- One reply more.
use Rattle.std.proofs.Common.{◌≡◌, ℕ, ◌+◌, ◌≤◌, List, [], ◌∷◌, ◌++◌, length, refl, ap, ◌∙◌, arith}
use Rattle.std.specs.Prelude.{Some, slice_get, sum_by}
use Rattle.std.specs.List.{zip}
use Rattle.std.proofs.lemmas.List.Sums.{sum_by_push}
use Rattle.pfc_client.specs.declared.reply.Reply.{Reply}
use Rattle.pfc_client.specs.Requests.{request_of}
use Rattle.pfc_client.specs.Told.{stats, lost, stats_at, lost_at}

zip_none : {A B : Type 0} (ks : List A) → zip {X = B} ks [] ≡ []
zip_none [] = refl
zip_none (x ∷ ks) = refl

zip_one : {A B : Type 0} (ks : List A) (x a : A) (b : B) → x ≡ a → zip (x ∷ ks) (b ∷ []) ≡ (a, b) ∷ []
zip_one ks x a b e = ap (λ l. (x, b) ∷ l) (zip_none ks) ∙ ap (λ y. (y, b) ∷ []) e

zip_more : {A B : Type 0} (ks : List A) (bs : List B) (a : A) (b : B) → slice_get ks (length bs) ≡ Some a → zip ks (bs ++ b ∷ []) ≡ zip ks bs ++ (a, b) ∷ []
zip_more [] bs a b h = cc
zip_more (x ∷ ks) [] a b h = let e : x ≡ a = cc in zip_one ks x a b e
zip_more (x ∷ ks) (y ∷ bs) a b h = ap (λ l. (x, y) ∷ l) (zip_more ks bs a b h)

pub stats_more : (lines : List (List ℕ)) (replies : List Reply) (line : List ℕ) (reply : Reply) → slice_get lines (length replies) ≡ Some line →
    stats lines (replies ++ reply ∷ []) ≡ stats lines replies + stats_at (request_of line) reply
stats_more lines replies line reply at =
    ap (sum_by (λ x. stats_at (request_of x.0) x.1)) (zip_more lines replies line reply at) ∙ sum_by_push (λ x. stats_at (request_of x.0) x.1) (zip lines replies) (line, reply)

pub lost_more : (lines : List (List ℕ)) (replies : List Reply) (line : List ℕ) (reply : Reply) → slice_get lines (length replies) ≡ Some line →
    lost lines (replies ++ reply ∷ []) ≡ lost lines replies + lost_at (request_of line) reply
lost_more lines replies line reply at =
    ap (sum_by (λ x. lost_at (request_of x.0) x.1)) (zip_more lines replies line reply at) ∙ sum_by_push (λ x. lost_at (request_of x.0) x.1) (zip lines replies) (line, reply)

-- a line more changes nothing of the replies so far
zip_longer : {A B : Type 0} (ks more : List A) (bs : List B) → length bs ≤ length ks → zip (ks ++ more) bs ≡ zip ks bs
zip_longer [] more [] h = zip_none more
zip_longer [] more (y ∷ bs) h = absurd (omega (arith, h))
zip_longer (x ∷ ks) more [] h = refl
zip_longer (x ∷ ks) more (y ∷ bs) h = ap (λ l. (x, y) ∷ l) (zip_longer ks more bs (omega (arith, h)))

pub stats_longer : (lines more : List (List ℕ)) (replies : List Reply) → length replies ≤ length lines → stats (lines ++ more) replies ≡ stats lines replies
stats_longer lines more replies h = ap (sum_by (λ x. stats_at (request_of x.0) x.1)) (zip_longer lines more replies h)

pub lost_longer : (lines more : List (List ℕ)) (replies : List Reply) → length replies ≤ length lines → lost (lines ++ more) replies ≡ lost lines replies
lost_longer lines more replies h = ap (sum_by (λ x. lost_at (request_of x.0) x.1)) (zip_longer lines more replies h)
