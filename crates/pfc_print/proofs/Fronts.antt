-- What is written of files, one after the other.
use Rattle.std.proofs.Common.{◌≡◌, ℕ, ◌+◌, ◌<◌, ◌≤◌, Bool, true, false, ◌||◌, List, [], ◌∷◌, ◌++◌, length, map, take, drop, get_or, refl, sym, ap, subst, ◌∙◌, inl, inr, append_assoc, take_all, arith}
use Rattle.std.specs.Prelude.{Result, Ok, Err, is_err, OnOk}
use Rattle.std.specs.Borrow.{Bor}
use Rattle.std.proofs.Math.Seq.{take-append-add}
use Rattle.std.proofs.lemmas.List.{append-nil, map-append, map_more, drop_more, take-append-drop}
use Rattle.pfc_world.specs.Counts.{HasCause}
use Rattle.pfc_world.specs.Texts.{Texts, Appends, AppendsFront}
use Rattle.pfc_print.specs.Text.{fault_text}
use Rattle.pfc_print.specs.Shown.{IsShown, AreShown, IsCut, IsPart, IsPrinted, Writes, WritesFront}

-- the names behind references
abbrev pub names_of : List (Bor (List ℕ)) → List (List ℕ)
names_of files = map (λ file. file.now) files

pub parts-at : (files : List (Bor (List ℕ))) (i : ℕ) (d : Bor (List ℕ)) → i < length files → names_of files ≡ names_of (take i files) ++ (get_or files i d).now ∷ names_of (drop (i + 1) files)
parts-at files i d lt =
    ap names_of (sym (take-append-drop i files)) ∙ map-append (λ file. file.now) (take i files) (drop i files)
    ∙ ap (λ (l : List (Bor (List ℕ))). names_of (take i files) ++ names_of l) (drop_more files i d lt)

pub parts-all : (files : List (Bor (List ℕ))) (i : ℕ) → length files ≤ i → names_of files ≡ names_of (take i files) ++ []
parts-all files i le = ap names_of (sym (take_all i files le)) ∙ sym (append-nil (names_of (take i files)))

pub one-more : (files : List (Bor (List ℕ))) (i : ℕ) (d : Bor (List ℕ)) → i < length files → names_of (take i files) ++ (get_or files i d).now ∷ [] ≡ names_of (take (i + 1) files)
one-more files i d lt = sym (map_more (λ file. file.now) files i d lt)

or-assoc : (a b c : Bool) → ((a || b) || c) ≡ (a || (b || c))
or-assoc true b c = refl
or-assoc false b c = refl

or-none : (e : Bool) → e ≡ (e || false)
or-none true = refl
or-none false = refl

-- one more file at the end
pub AreShown-push : (told : Bool) (texts : Texts) (verbose : Bool) (names : List (List ℕ)) (name text more : List ℕ) (d e : Bool) →
    AreShown told texts verbose names text d → IsShown told texts verbose name more e → AreShown told texts verbose (names ++ name ∷ []) (text ++ more) (d || e)
AreShown-push told texts verbose [] name text more d e shown next =
    (more, e, [], false, next, (refl, refl), ap (λ (l : List ℕ). l ++ more) shown.0 ∙ sym (append-nil more), ap (λ b. b || e) shown.1 ∙ or-none e)
AreShown-push told texts verbose (n ∷ names) name text more d e (first, one, rest, others, this, tail, whole, flag) next = (
  first,
  one,
  rest ++ more,
  others || e,
  this,
  AreShown-push told texts verbose names name rest more others e tail next,
  ap (λ (l : List ℕ). l ++ more) whole ∙ append_assoc first rest more,
  ap (λ b. b || e) flag ∙ or-assoc one others e,
)

-- ---- what comes to the sink

pub more-after : (sink : Bool) (a m b before piece : List ℕ) → Appends sink a m before → Appends sink m b piece → Appends sink a b (before ++ piece)
more-after sink a m b before piece p q t = q t ∙ ap (λ (l : List ℕ). l ++ piece) (p t) ∙ append_assoc a before piece

front-after : (sink : Bool) (a m b before piece : List ℕ) → Appends sink a m before → AppendsFront sink m b piece → AppendsFront sink a b (before ++ piece)
front-after sink a m b before piece p (n, q) = (
  length before + n,
  λ t. q t ∙ ap (λ (l : List ℕ). l ++ take n piece) (p t) ∙ append_assoc a before (take n piece) ∙ ap (λ (l : List ℕ). a ++ l) (sym (take-append-add before piece n)),
)

pub front-whole : (sink : Bool) (a b text : List ℕ) → Appends sink a b text → AppendsFront sink a b text
front-whole sink a b text p = (length text, λ t. p t ∙ ap (λ (l : List ℕ). a ++ l) (sym (take_all (length text) text (omega arith))))

pub front-nothing : (sink : Bool) (a text : List ℕ) → AppendsFront sink a a text
front-nothing sink a text = (0, λ t. sym (append-nil a))

-- the first files are written
pub printed-so_far : (told : Bool) (texts : Texts) (verbose : Bool) (files first others : List (List ℕ)) (d : Bool) (sink : Bool) (a b : List ℕ) → files ≡ first ++ others →
    Writes (λ text. AreShown told texts verbose first text d) sink a b → WritesFront (IsPrinted told texts verbose files) sink a b
printed-so_far told texts verbose files first others d sink a b parts (text, shown, written) =
    (text, inl (record { first = first; others = others; parts = parts; damaged = d; shown = shown }), front-whole sink a b text written)

-- a front of one more
pub printed-next : (told : Bool) (texts : Texts) (verbose : Bool) (files first others : List (List ℕ)) (name more : List ℕ) (d e : Bool) (sink : Bool) (a m b : List ℕ) →
    files ≡ first ++ name ∷ others → Writes (λ text. AreShown told texts verbose first text d) sink a m → IsShown told texts verbose name more e → AppendsFront sink m b more →
    WritesFront (IsPrinted told texts verbose files) sink a b
printed-next told texts verbose files first others name more d e sink a m b parts (text, shown, written) next front = (
  text ++ more,
  inl (record {
    first = first ++ name ∷ [];
    others = others;
    parts = parts ∙ sym (append_assoc first (name ∷ []) others);
    damaged = d || e;
    shown = AreShown-push told texts verbose first name text more d e shown next;
  }),
  front-after sink a m b text more written front,
)

-- a front of the line for a file that can't be read
pub printed-fault : (told : Bool) (texts : Texts) (verbose : Bool) (files first others : List (List ℕ)) (name : List ℕ) (d : Bool) (sink : Bool) (a m b : List ℕ) →
    files ≡ first ++ name ∷ others → Writes (λ text. AreShown told texts verbose first text d) sink a m → AppendsFront sink m b (fault_text name) →
    WritesFront (IsPrinted told texts verbose files) sink a b
printed-fault told texts verbose files first others name d sink a m b parts (text, shown, written) front = (
  text ++ fault_text name,
  inr (record { before = first; name = name; others = others; parts = parts; damaged = d; shown = text; printed = shown; cut = refl }),
  front-after sink a m b text (fault_text name) written front,
)

pub cut-there : (told : Bool) (texts : Texts) (verbose : Bool) (files first others : List (List ℕ)) (name : List ℕ) (d : Bool) (sink : Bool) (a m b : List ℕ) →
    files ≡ first ++ name ∷ others → Writes (λ text. AreShown told texts verbose first text d) sink a m → Appends sink m b (fault_text name) →
    Writes (IsCut told texts verbose files) sink a b
cut-there told texts verbose files first others name d sink a m b parts (text, shown, written) line = (
  text ++ fault_text name,
  record { before = first; name = name; others = others; parts = parts; damaged = d; shown = text; printed = shown; cut = refl },
  more-after sink a m b text (fault_text name) written line,
)

-- the first files are written, and nothing of the next
pub part-there : (told : Bool) (texts : Texts) (verbose : Bool) (files first others : List (List ℕ)) (name : List ℕ) (d : Bool) (sink : Bool) (a m b : List ℕ) →
    files ≡ first ++ name ∷ others → Writes (λ text. AreShown told texts verbose first text d) sink a m → b ≡ m → Writes (IsPart told texts verbose files) sink a b
part-there told texts verbose files first others name d sink a m b parts (text, shown, written) same =
    (text, record { before = first; name = name; others = others; parts = parts; damaged = d; shown = shown }, λ t. same ∙ written t)

pub shown-next : (told : Bool) (texts : Texts) (verbose : Bool) (first longer : List (List ℕ)) (name more : List ℕ) (d e both : Bool) (sink : Bool) (a m b : List ℕ) →
    first ++ name ∷ [] ≡ longer → both ≡ (d || e) → Writes (λ text. AreShown told texts verbose first text d) sink a m → IsShown told texts verbose name more e → Appends sink m b more →
    Writes (λ text. AreShown told texts verbose longer text both) sink a b
shown-next told texts verbose first longer name more d e both sink a m b names flag (text, shown, written) next line = (
  text ++ more,
  subst (λ (l : List (List ℕ)). AreShown told texts verbose l (text ++ more) both) names
      (subst (λ (v : Bool). AreShown told texts verbose (first ++ name ∷ []) (text ++ more) v) (sym flag) (AreShown-push told texts verbose first name text more d e shown next)),
  more-after sink a m b text more written line,
)

-- ---- what a call's answer tells

pub at_ok : {T E : Type 0} (r : Result T E) (b : Bool) (P : Type 0) → b ≡ is_err r → b ≡ false → OnOk r P → P
at_ok (Ok x) b P e f p = p
at_ok (Err y) b P e f p = absurd (cc (e, f))

pub count-grows : {T E : Type 0} (before after : ℕ) (r : Result T E) → HasCause before after r → before ≤ after
count-grows before after (Ok x) h = h
count-grows before after (Err y) h = h.0
