-- Lists that stand the other way round, and lists with more at their end, weighed.
use Rattle.std.proofs.Common.{◌≡◌, ◌+◌, ◌-◌, ◌<◌, ℕ, List, [], ◌∷◌, ◌++◌, length, map, reverse, refl, sym, ap, ◌∙◌, arith, subst}
use Rattle.std.specs.Prelude.{sum_by, All}
use Rattle.std.proofs.lemmas.List.{length-reverse, get_or-reverse}
use Rattle.std.proofs.lemmas.List.Sorted.{IsPermutation-reverse, sum_by-IsPermutation}
use Rattle.std.proofs.lemmas.List.Sums.{sum_by-append, sum_by-cons}
use Rattle.pfc_core.specs.Marks.{Mark}
use Rattle.pfc_read.specs.declared.segment.Segment.{Segment}
use Rattle.pfc_read.specs.Segments.{Waiting, weigh, in_pending, in_found, in_owed}

pub All-reverse : {X : Type 0} (P : X → Type 0) (xs : List X) → All P xs → All P (reverse xs)
All-reverse P xs all k d h =
    let long : length (reverse xs) ≡ length xs = length-reverse xs in
    let low : k < length xs = omega (arith, h, long) in
    subst P (sym (get_or-reverse xs k d low)) (all (length xs - 1 - k) d (omega (arith, low)))

pub sum_by-reverse : {X : Type 0} (f : X → ℕ) (xs : List X) → sum_by f (reverse xs) ≡ sum_by f xs
sum_by-reverse f xs = sum_by-IsPermutation f xs (reverse xs) (IsPermutation-reverse xs)

-- the marks of a list of tokens, weighed
sum_by-map : {X : Type 0} (w : Mark → ℕ) (f : X → Mark) (xs : List X) → sum_by w (map f xs) ≡ sum_by (λ x. w (f x)) xs
sum_by-map w f [] = refl
sum_by-map w f (x ∷ xs) = sum_by-cons w (f x) (map f xs) ∙ ap (λ n. w (f x) + n) (sum_by-map w f xs) ∙ sym (sum_by-cons (λ q. w (f q)) x xs)

pub sum_by-map-reverse : {X : Type 0} (w : Mark → ℕ) (f : X → Mark) (xs : List X) → sum_by w (map f (reverse xs)) ≡ sum_by w (map f xs)
sum_by-map-reverse w f xs = sum_by-map w f (reverse xs) ∙ sum_by-reverse (λ q. w (f q)) xs ∙ sym (sum_by-map w f xs)

-- each list stands the other way round
pub record AreTurned {W : Type 0} (before after : Waiting W) : Type 0 where
  pub pendings : after.pendings ≡ reverse before.pendings
  pub disks : after.disks ≡ reverse before.disks
  pub owed : after.owed ≡ reverse before.owed

pub weigh-turned : {W : Type 0} (f : Segment → ℕ) (before after : Waiting W) → AreTurned before after → weigh f after ≡ weigh f before
weigh-turned f before after is =
    let a : sum_by (in_pending f) after.pendings ≡ sum_by (in_pending f) before.pendings = ap (sum_by (in_pending f)) is.pendings ∙ sum_by-reverse (in_pending f) before.pendings in
    let b : sum_by (in_found f) after.disks ≡ sum_by (in_found f) before.disks = ap (sum_by (in_found f)) is.disks ∙ sum_by-reverse (in_found f) before.disks in
    let c : sum_by (in_owed f) after.owed ≡ sum_by (in_owed f) before.owed = ap (sum_by (in_owed f)) is.owed ∙ sum_by-reverse (in_owed f) before.owed in
    omega (arith, a, b, c)

-- each list has these more at its end
pub record HasMore {W : Type 0} (before more after : Waiting W) : Type 0 where
  pub pendings : after.pendings ≡ before.pendings ++ more.pendings
  pub disks : after.disks ≡ before.disks ++ more.disks
  pub owed : after.owed ≡ before.owed ++ more.owed

pub weigh-more : {W : Type 0} (f : Segment → ℕ) (before more after : Waiting W) → HasMore before more after → weigh f after ≡ weigh f before + weigh f more
weigh-more f before more after is =
    let a : sum_by (in_pending f) after.pendings ≡ sum_by (in_pending f) before.pendings + sum_by (in_pending f) more.pendings = ap (sum_by (in_pending f)) is.pendings ∙ sum_by-append (in_pending f) before.pendings more.pendings in
    let b : sum_by (in_found f) after.disks ≡ sum_by (in_found f) before.disks + sum_by (in_found f) more.disks = ap (sum_by (in_found f)) is.disks ∙ sum_by-append (in_found f) before.disks more.disks in
    let c : sum_by (in_owed f) after.owed ≡ sum_by (in_owed f) before.owed + sum_by (in_owed f) more.owed = ap (sum_by (in_owed f)) is.owed ∙ sum_by-append (in_owed f) before.owed more.owed in
    omega (arith, a, b, c)
