-- How the words of a line begin: blanks in front change none, and the first ends at the first blank.
use Rattle.std.proofs.Common.{◌≡◌, ◌≢◌, inl, inr, ℕ, suc, ◌+◌, ◌<◌, Bool, false, not, List, [], ◌∷◌, length, take, drop, filter, get_or, refl, ap, ◌∙◌, arith}
use Rattle.std.specs.List.{prefix_len, take_while}
use Rattle.std.proofs.lemmas.Bool.{cases_Bool}
use Rattle.std.proofs.lemmas.List.Sums.{take_while-cons}
use Rattle.pfc_base.specs.Pieces.{same-test, other-test}
use Rattle.pfc_config.specs.Words.{is_blank, pieces_by, is_filled, is_comment, words_of}

abbrev pub is_inked : ℕ → Bool
is_inked b = not (is_blank b)

one-plus : (n : ℕ) → 1 + n ≡ suc n
one-plus n = omega arith

pub words_of-drop_blanks : (bs : List ℕ) → words_of (drop (prefix_len is_blank bs) bs) ≡ words_of bs
unfolding words_of
words_of-drop_blanks [] = refl
words_of-drop_blanks (b ∷ bs) = elim (cases_Bool (is_blank b)) [
  | inl h ↦ rw (h, one-plus) (words_of-drop_blanks bs)
  | inr h ↦ simp h
]

-- no blank stands in front any more
pub prefix_len-behind : (bs : List ℕ) → prefix_len is_blank (drop (prefix_len is_blank bs) bs) ≡ 0
prefix_len-behind [] = refl
prefix_len-behind (b ∷ bs) = elim (cases_Bool (is_blank b)) [
  | inl h ↦ rw (h, one-plus) (prefix_len-behind bs)
  | inr h ↦ simp h
]

-- the first piece is what stands before the first blank
first_piece : (bs : List ℕ) → (ps : List (List ℕ)) × (pieces_by is_blank bs ≡ take (prefix_len is_inked bs) bs ∷ ps)
    × (filter is_filled ps ≡ filter is_filled (pieces_by is_blank (drop (prefix_len is_inked bs) bs)))
first_piece [] = ([], refl, refl)
first_piece (b ∷ bs) = elim (cases_Bool (is_blank b)) [
  | inl h ↦ (pieces_by is_blank bs, simp h, simp h)
  | inr h ↦ let more = first_piece bs in (more.0, simp (h, one-plus, more.1), simp (h, one-plus, more.2))
]

-- nothing stands there where neither a blank nor another byte does
pub nothing_left : (bs : List ℕ) → prefix_len is_blank bs ≡ 0 → prefix_len is_inked bs ≡ 0 → bs ≡ []
nothing_left [] h k = refl
nothing_left (b ∷ bs) h k = elim (cases_Bool (is_blank b)) [
  | inl e ↦ absurd (omega (arith, simp e at h))
  | inr e ↦ absurd (omega (arith, simp e at k))
]

not_blank : (b : ℕ) → b ≡ 35 → is_blank b ≡ false
not_blank b e = rw e refl

pub words_of-comment : (bs : List ℕ) → 0 < length bs → get_or bs 0 0 ≡ 35 → words_of bs ≡ []
unfolding words_of
words_of-comment [] h e = refl
words_of-comment (b ∷ bs) h e =
    let ink = not_blank b e in
    let more = first_piece bs in
    let same = same-test b 35 e in
    rw (ink, more.1, same) refl

is_plain : List ℕ → Bool
is_plain word = not (is_comment word)

inked_first : (b : ℕ) (bs : List ℕ) → is_blank b ≡ false → b ≢ 35 →
    words_of (b ∷ bs) ≡ (b ∷ take (prefix_len is_inked bs) bs) ∷ words_of (drop (prefix_len is_inked bs) bs)
unfolding words_of is_plain
inked_first b bs e ne =
    let more = first_piece bs in
    let front = b ∷ take (prefix_len is_inked bs) bs in
    let pieces : pieces_by is_blank (b ∷ bs) ≡ front ∷ more.0 = simp (e, more.1) in
    let other = other-test b 35 ne in
    let first : take_while is_plain (front ∷ filter is_filled more.0) ≡ front ∷ take_while is_plain (filter is_filled more.0) =
    take_while-cons is_plain front (filter is_filled more.0) ∙ rw other refl in
    ap (λ ps. take_while is_plain (filter is_filled ps)) pieces ∙ first ∙ ap (λ ws. front ∷ take_while is_plain ws) more.2

pub words_of-first : (bs : List ℕ) → 0 < prefix_len is_inked bs → get_or bs 0 0 ≢ 35 →
    words_of bs ≡ take (prefix_len is_inked bs) bs ∷ words_of (drop (prefix_len is_inked bs) bs)
words_of-first [] h ne = absurd (omega arith)
words_of-first (b ∷ bs) h ne = elim (cases_Bool (is_blank b)) [
  | inl e ↦ absurd (omega (arith, simp e at h))
  | inr e ↦ simp (e, one-plus) (inked_first b bs e ne)
]
