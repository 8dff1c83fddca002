-- A book with one reply more.
use Rattle.std.proofs.Common.{◌≡◌, ℕ, zero, suc, ◌+◌, ◌<◌, ◌≤◌, List, [], ◌∷◌, ◌++◌, length, take, refl, sym, ap, ◌∙◌, subst, arith, Bool, true, false, inl, inr}
use Rattle.std.specs.Prelude.{◌⊎◌, Option, Some, None, slice_get, slice_set, replicate, Ok, IsSome}
use Rattle.std.proofs.lemmas.List.{take_more}
use Rattle.std.proofs.lemmas.List.Sums.{sum_by-cons}
use Rattle.std.proofs.lemmas.Option.{slice_get-get_or}
use Rattle.std.proofs.Math.ListN.{get_or}
use Rattle.pfc_world.specs.Files.{Files, HasSize}
use Rattle.pfc_core.specs.Marks.{Mark}
use Rattle.pfc_client.specs.declared.reply.Reply.{Reply}
use Rattle.pfc_client.specs.declared.reply.Reply.TheVariants as r
use Rattle.pfc_client.specs.declared.request.Request.TheVariants as q
use Rattle.pfc_client.specs.Requests.{request_of}
use Rattle.pfc_client.specs.Session.{place_at, is_free}
use Rattle.pfc_client.specs.Permitted.{Permits, Walk, files_of, nothing_open}
use Rattle.pfc_client.proofs.Walks.{walk-more}
use Rattle.pfc_client.proofs.Permitting.{open-size, close-open}
use Rattle.pfc_actor.specs.Books.{file_in, weight_in, open_weight, IsBook, IsStay}

-- a place that is put holds what was put, or what it held
place_put : (kept : List (Option Mark)) (n i : ℕ) (o : Option Mark) → (place_at (slice_set kept n o) i ≡ o) ⊎ (place_at (slice_set kept n o) i ≡ place_at kept i)
place_put [] n i o = inr refl
place_put (x ∷ kept) zero zero o = inl refl
place_put (x ∷ kept) zero (suc i) o = inr refl
place_put (x ∷ kept) (suc n) zero o = inr refl
place_put (x ∷ kept) (suc n) (suc i) o = place_put kept n i o

none_placed : (n i : ℕ) (m : Mark) → place_at (replicate n None) i ≡ Some m → ⊥
none_placed zero i m h = cc
none_placed (suc n) zero m h = cc
none_placed (suc n) (suc i) m h = none_placed n i m h

nothing_files : (n : ℕ) → files_of file_in (replicate n None) ≡ replicate n None
nothing_files zero = refl
nothing_files (suc n) = ap (λ l. None ∷ l) (nothing_files n)

pub made : (told : Bool) (files : Files) (number capacity : ℕ) → IsBook told files number [] [] (replicate 16 None) false capacity
made told files number capacity = record {
  answered = record { end = nothing_open; walk = refl; same = λ going. sym (nothing_files 16) };
  few = omega arith;
  room = omega arith;
  stays = λ i m at. absurd (none_placed 16 i m at);
}

length_one : (replies : List Reply) (reply : Reply) → length (replies ++ reply ∷ []) ≡ length replies + 1
length_one [] reply = refl
length_one (x ∷ replies) reply = omega (arith, length_one replies reply)

-- a reply that is permitted from what was open to what is open now
pub replied : (told : Bool) (files : Files) (number : ℕ) (asked : List (List ℕ)) (replies after : List Reply) (reply : Reply) (kept now : List (Option Mark)) (shut : Bool) (capacity capacity2 : ℕ) →
    IsBook told files number asked replies kept shut capacity → after ≡ replies ++ reply ∷ [] → capacity ≤ capacity2 → shut ≡ false → length replies < length asked →
    ((line : List ℕ) → slice_get asked (length replies) ≡ Some line → Permits told files (files_of file_in kept) (request_of line) reply (files_of file_in now)) →
    ((i : ℕ) (m : Mark) → place_at now i ≡ Some m → IsStay number m) → IsBook told files number asked after now shut capacity2
replied told files number asked replies after reply kept now shut capacity capacity2 book items big going some permits stays =
    let line : List ℕ = get_or asked (length replies) [] in
    let at : slice_get asked (length replies) ≡ Some line = slice_get-get_or asked (length replies) [] some in
    let longer : length (replies ++ reply ∷ []) ≡ length replies + 1 = length_one replies reply in
    let front : take (length replies + 1) asked ≡ take (length replies) asked ++ line ∷ [] = take_more asked (length replies) [] some in
    let walk = walk-more told files nothing_open (files_of file_in kept) (files_of file_in now) (take (length replies) asked) replies line reply
    (subst (Walk told files nothing_open (take (length replies) asked) replies) (book.answered.same going) book.answered.walk) (permits line at) in
    rw items (record {
      answered = record { end = files_of file_in now; walk = rw (longer, front) walk; same = λ g. refl };
      few = omega (arith, longer, some);
      room = omega (arith, big, book.room);
      stays = stays;
    })

pub opened : (told : Bool) (files : Files) (number : ℕ) (asked : List (List ℕ)) (replies after : List Reply) (kept now : List (Option Mark)) (shut : Bool) (capacity capacity2 place size : ℕ) (stay : Mark) →
    IsBook told files number asked replies kept shut capacity → after ≡ replies ++ r.Size size ∷ [] → capacity ≤ capacity2 → shut ≡ false → length replies < length asked →
    ((line : List ℕ) → slice_get asked (length replies) ≡ Some line → request_of line ≡ Ok (q.Open place stay.path)) → is_free kept place ≡ true → now ≡ slice_set kept place (Some stay) →
    size ≡ stay.size → HasSize told files stay.path stay.size → IsStay number stay → IsBook told files number asked after now shut capacity2
opened told files number asked replies after kept now shut capacity capacity2 place size stay book items big going some asks free put is right mine =
    replied told files number asked replies after (r.Size size) kept now shut capacity capacity2 book items big going some
    (λ line at. rw (asks line at) (open-size file_in kept now told files place stay.path size stay free put right refl is))
    (λ i m at. elim (place_put kept place i (Some stay)) [
      | inl e ↦ let same : stay ≡ m = cc in subst (IsStay number) same mine
      | inr e ↦ book.stays i m (sym e ∙ sym (ap (λ l. place_at l i) put) ∙ at)
    ])

with_stay : {C : Type 0} (o : Option Mark) → IsSome o → ((stay : Mark) → o ≡ Some stay → C) → C
with_stay None h f = cc
with_stay (Some stay) h f = f stay refl

pub closed : (told : Bool) (files : Files) (number : ℕ) (asked : List (List ℕ)) (replies after : List Reply) (kept now : List (Option Mark)) (shut : Bool) (capacity capacity2 place : ℕ) →
    IsBook told files number asked replies kept shut capacity → after ≡ replies ++ r.Closed ∷ [] → capacity ≤ capacity2 → shut ≡ false → length replies < length asked →
    ((line : List ℕ) → slice_get asked (length replies) ≡ Some line → request_of line ≡ Ok (q.Close place)) → IsSome (place_at kept place) → now ≡ slice_set kept place None →
    IsBook told files number asked after now shut capacity2
closed told files number asked replies after kept now shut capacity capacity2 place book items big going some asks is took = with_stay (place_at kept place) is (λ stay found.
    replied told files number asked replies after r.Closed kept now shut capacity capacity2 book items big going some
    (λ line at. rw (asks line at) (close-open file_in kept now told files place stay found took))
    (λ i m at. elim (place_put kept place i None) [
      | inl e ↦ cc
      | inr e ↦ book.stays i m (sym e ∙ sym (ap (λ l. place_at l i) took) ∙ at)
    ]))

-- what was open at a place goes, with no reply
pub shut : (told : Bool) (files : Files) (number : ℕ) (asked : List (List ℕ)) (replies : List Reply) (kept now : List (Option Mark)) (was : Bool) (capacity place : ℕ) →
    IsBook told files number asked replies kept was capacity → now ≡ slice_set kept place None → IsBook told files number asked replies now true capacity
shut told files number asked replies kept now was capacity place book took = record {
  answered = record { end = book.answered.end; walk = book.answered.walk; same = λ going. absurd (cc) };
  few = book.few;
  room = book.room;
  stays = λ i m at. elim (place_put kept place i None) [
    | inl e ↦ cc
    | inr e ↦ book.stays i m (sym e ∙ sym (ap (λ l. place_at l i) took) ∙ at)
  ];
}

-- where nothing is open nothing weighs
pub none_left : (kept : List (Option Mark)) → ((j : ℕ) → j < length kept → place_at kept j ≡ None) → (w : Mark → ℕ) → open_weight w kept ≡ 0
none_left [] none w = refl
none_left (o ∷ kept) none w =
    let first : o ≡ None = none 0 (omega arith) in
    let rest = none_left kept (λ j l. none (suc j) (omega (arith, l))) w in
    let e = ap (weight_in w) first in omega (arith, sum_by-cons (weight_in w) o kept, e, rest)
