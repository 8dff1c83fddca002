-- A front of a part of a text is a front of the text.
use Rattle.std.proofs.Common.{◌≡◌, ℕ, zero, suc, ◌+◌, ◌<◌, ◌≤◌, min, List, [], ◌∷◌, ◌++◌, length, take, drop, refl, sym, ap, ◌∙◌, arith, take_all, append_assoc, Bool}
use Rattle.std.specs.Prelude.{slice_index_or}
use Rattle.std.specs.List.{flat_map}
use Rattle.std.proofs.lemmas.List.{append-nil, take-append-drop, drop_more}
use Rattle.std.proofs.lemmas.List.Concat.{flat_map-append}
use Rattle.pfc_base.proofs.Lists.{take-nil}
use Rattle.pfc_world.specs.Texts.{Appends, AppendsFront}
use Rattle.pfc_client.specs.declared.reply.Reply.{Reply}
use Rattle.pfc_client.specs.Replies.{client_text, head_text, line_text}

take-append_min : (n : ℕ) (xs ys : List ℕ) → take (min n (length xs)) (xs ++ ys) ≡ take n xs
take-append_min n [] ys = let e : min n 0 ≡ 0 = omega arith in rw e (sym (take-nil n))
take-append_min zero (x ∷ xs) ys = let e : min 0 (suc (length xs)) ≡ 0 = omega arith in rw e refl
take-append_min (suc n) (x ∷ xs) ys =
    let e : min (suc n) (suc (length xs)) ≡ suc (min n (length xs)) = omega arith in rw e (ap (λ l. x ∷ l) (take-append_min n xs ys))

take-part : (n : ℕ) (before piece after : List ℕ) → take (length before + min n (length piece)) (before ++ (piece ++ after)) ≡ before ++ take n piece
take-part n [] piece after = let e : 0 + min n (length piece) ≡ min n (length piece) = omega arith in rw e (take-append_min n piece after)
take-part n (x ∷ before) piece after =
    let e : suc (length before) + min n (length piece) ≡ suc (length before + min n (length piece)) = omega arith in
    rw e (ap (λ l. x ∷ l) (take-part n before piece after))

pub front-of_part : (told : Bool) (a m b before piece after whole : List ℕ) → whole ≡ before ++ (piece ++ after) →
    Appends told a m before → AppendsFront told m b piece → AppendsFront told a b whole
front-of_part told a m b before piece after whole e all front = (
  length before + min front.0 (length piece),
  λ t. front.1 t ∙ ap (λ x. x ++ take front.0 piece) (all t) ∙ append_assoc a before (take front.0 piece)
      ∙ ap (λ x. a ++ x) (sym (ap (take (length before + min front.0 (length piece))) e ∙ take-part front.0 before piece after)),
)

pub nothing-more : (told : Bool) (a : List ℕ) → Appends told a a []
nothing-more told a t = sym (append-nil a)

pub front-empty : (told : Bool) (a : List ℕ) → AppendsFront told a a []
front-empty told a = (0, λ t. sym (append-nil a))

pub client_text-some : (number : ℕ) (replies : List Reply) → 0 < length replies → client_text number replies ≡ head_text number ++ flat_map line_text replies
client_text-some number [] h = absurd (omega arith)
client_text-some number (reply ∷ replies) h = refl

-- what is before a reply, its line, and what is behind it
pub client_text-at : (number i : ℕ) (replies : List Reply) (reply : Reply) → 0 < length replies → i < length replies → slice_index_or replies i reply ≡ reply →
    client_text number replies ≡ (head_text number ++ flat_map line_text (take i replies)) ++ (line_text reply ++ flat_map line_text (drop (i + 1) replies))
client_text-at number i replies reply some low is =
    let rest : drop i replies ≡ reply ∷ drop (i + 1) replies = drop_more replies i reply low ∙ ap (λ r. r ∷ drop (i + 1) replies) is in
    client_text-some number replies some
    ∙ ap (λ rs. head_text number ++ flat_map line_text rs) (sym (take-append-drop i replies))
    ∙ ap (λ x. head_text number ++ x) (flat_map-append line_text (take i replies) (drop i replies) ∙ ap (λ rs. flat_map line_text (take i replies) ++ flat_map line_text rs) rest)
    ∙ sym (append_assoc (head_text number) (flat_map line_text (take i replies)) (line_text reply ++ flat_map line_text (drop (i + 1) replies)))

-- all of it
pub client_text-all : (number i : ℕ) (replies : List Reply) → 0 < length replies → length replies ≤ i →
    client_text number replies ≡ (head_text number ++ flat_map line_text (take i replies)) ++ ([] ++ [])
client_text-all number i replies some high =
    client_text-some number replies some ∙ ap (λ rs. head_text number ++ flat_map line_text rs) (sym (take_all i replies high))
    ∙ sym (append-nil (head_text number ++ flat_map line_text (take i replies)))

-- what is before the text of one item, that text, and what is behind it
pub flat_map-at : {X : Type 0} (f : X → List ℕ) (xs : List X) (i : ℕ) (x : X) → i < length xs → slice_index_or xs i x ≡ x →
    flat_map f xs ≡ flat_map f (take i xs) ++ (f x ++ flat_map f (drop (i + 1) xs))
flat_map-at f xs i x low is =
    let rest : drop i xs ≡ x ∷ drop (i + 1) xs = drop_more xs i x low ∙ ap (λ y. y ∷ drop (i + 1) xs) is in
    ap (flat_map f) (sym (take-append-drop i xs)) ∙ flat_map-append f (take i xs) (drop i xs) ∙ ap (λ ys. flat_map f (take i xs) ++ flat_map f ys) rest

-- all of it
pub flat_map-all : {X : Type 0} (f : X → List ℕ) (xs : List X) (i : ℕ) → length xs ≤ i → flat_map f xs ≡ flat_map f (take i xs) ++ ([] ++ [])
flat_map-all f xs i high = ap (flat_map f) (sym (take_all i xs high)) ∙ sym (append-nil (flat_map f (take i xs)))
