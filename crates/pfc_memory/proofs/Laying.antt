-- A list that is laid over another.
use Rattle.std.proofs.Common.{◌≡◌, inl, inr, ⊎_elim, ◌<◌, ◌+◌, ◌-◌, min, max, ℕ, List, length, take, drop, replicate, ◌++◌, zero, suc, ap, refl, sym, ◌∙◌, arith, get_or}
use Rattle.std.proofs.lemmas.Bool.{cases_lt}
use Rattle.std.proofs.lemmas.List.{take_min, drop_min, take_all, length-take, length-drop, length-append, length-replicate, append_assoc, get_or_append_left, get_or-append_right, get_or-drop, get_or-take, get_or_past}
use Rattle.pfc_world.specs.Disk.{LiesOutside}

-- the list up to a place, and a gap before that filled
abbrev pub before : {X : Type 0} → X → ℕ → List X → List X
before d at old = take at old ++ replicate (at - length old) d

-- the list with these laid over it from a place on
abbrev pub over : {X : Type 0} → X → ℕ → List X → List X → List X
over d at xs old = before d at old ++ (xs ++ drop (at + length xs) old)

before-long : {X : Type 0} (d : X) (at : ℕ) (old : List X) → length (before d at old) ≡ at
before-long d at old =
    let a = length-append (take at old) (replicate (at - length old) d) in
    let t = length-take at old in
    let r = length-replicate (at - length old) d in
    omega (arith, a, t, r)

filled : {X : Type 0} (n p : ℕ) (d : X) → get_or (replicate n d) p d ≡ d
filled zero p d = refl
filled (suc n) zero d = refl
filled (suc n) (suc p) d = filled n p d

before-at : {X : Type 0} (d : X) (at : ℕ) (old : List X) (p : ℕ) → p < at → get_or (before d at old) p d ≡ get_or old p d
before-at d at old p h = ⊎_elim
    (λ l. get_or_append_left (take at old) _ d p (let t = length-take at old in omega (arith, t, l, h)) ∙ get_or-take at old p d h)
    (λ r. get_or-append_right (take at old) _ (length old) p d (let t = length-take at old in omega (arith, t, r, h)) r ∙ filled (at - length old) (p - length old) d ∙ sym (get_or_past old p d r))
    (cases_lt p (length old))

pub over-long : {X : Type 0} (d : X) (at : ℕ) (xs old : List X) → length (over d at xs old) ≡ max (length old) (at + length xs)
over-long d at xs old =
    let a = length-append (before d at old) (xs ++ drop (at + length xs) old) in
    let b = length-append xs (drop (at + length xs) old) in
    let e = before-long d at old in
    let r = length-drop (at + length xs) old in
    omega (arith, a, b, e, r)

pub over-inside : {X : Type 0} (d e : X) (at : ℕ) (xs old : List X) (p : ℕ) → p < length xs → get_or (over d at xs old) (at + p) e ≡ get_or xs p e
over-inside d e at xs old p h =
    get_or-append_right (before d at old) _ at (at + p) e (before-long d at old) (omega arith)
    ∙ ap (λ n. get_or (xs ++ drop (at + length xs) old) n e) (omega arith)
    ∙ get_or_append_left xs _ e p h

pub over-outside : {X : Type 0} (d : X) (at : ℕ) (xs old : List X) (p : ℕ) → LiesOutside at (at + length xs) p → get_or (over d at xs old) p d ≡ get_or old p d
over-outside d at xs old p (inl h) = get_or_append_left (before d at old) _ d p (let e = before-long d at old in omega (arith, e, h)) ∙ before-at d at old p h
over-outside d at xs old p (inr h) =
    get_or-append_right (before d at old) _ at p d (before-long d at old) (omega (arith, h))
    ∙ get_or-append_right xs _ (length xs) (p - at) d refl (omega (arith, h))
    ∙ get_or-drop (at + length xs) old (p - at - length xs) d
    ∙ ap (λ n. get_or old n d) (omega (arith, h))

short_take : {X : Type 0} (at : ℕ) (old : List X) → take at (take at old) ≡ take at old
short_take at old = take_all at (take at old) (let e = length-take at old in omega (arith, e))

short_pad : {X : Type 0} (d : X) (at : ℕ) (old : List X) → replicate (at - length (take at old)) d ≡ replicate (at - length old) d
short_pad d at old = ap (λ n. replicate n d) (let e = length-take at old in omega (arith, e))

-- it is put together from pieces
pub over-pieces : {X : Type 0} (d : X) (at : ℕ) (xs old : List X) → ((take at (take (min at (length old)) old) ++ replicate (at - length (take (min at (length old)) old)) d) ++ xs) ++ drop (min (at + length xs) (length old)) old ≡ over d at xs old
over-pieces d at xs old = rw (take_min at old, drop_min (at + length xs) old, short_take at old, short_pad d at old) (append_assoc (before d at old) xs (drop (at + length xs) old))
