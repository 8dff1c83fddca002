-- How a line changes what is set.
use Rattle.std.proofs.Common.{◌≡◌, inl, inr, ℕ, suc, ◌+◌, Bool, true, false, cond, ◌&&◌, List, [], ◌∷◌, ◌++◌, length, Option, Some, None, Ok, refl, sym, ap, subst, ◌∙◌, arith}
use Rattle.std.specs.Option.{option_map_or, option_or, is_some, option_map}
use Rattle.std.specs.List.{find, list_any, position_from}
use Rattle.std.proofs.lemmas.Bool.{cases_Bool}
use Rattle.std.proofs.lemmas.Slice.Eq.{bytes_eq-Decides}
use Rattle.std.proofs.lemmas.List.Folds.{find-append}
use Rattle.pfc_config.specs.Words.{words_of}
use Rattle.pfc_config.specs.Directive.{is_word, row_of, has_default, directive_of, directive_set, values_set, values_of}
use Rattle.pfc_config.specs.Line.{is_line_of, first_of, args_of, kind_alone, ReadsLine}
use Rattle.pfc_config.specs.Config.{is_twice, kind_of, set_in, number_in, config_by, or_default, with_room}
use Rattle.pfc_config.specs.Settings.{set_by, ram_line, AreSetBy}
use Rattle.pfc_config.specs.declared.settings.Settings.{Settings}
use Rattle.pfc_config.specs.declared.setting.Setting.{Setting}
use Rattle.pfc_config.specs.declared.refusal.Kind.{Kind}
use Rattle.pfc_config.specs.declared.refusal.Kind.TheVariants.{Twice}
use Rattle.pfc_config.specs.declared.setting.Setting.TheVariants as set
use Rattle.pfc_config.specs.declared.directive.Directive.{Directive}
use Rattle.pfc_config.specs.declared.directive.Directive.TheVariants.{BlockSize, Ram, Prefetch, WriteQueue, Flush, DiskUsage, User, Spaces, Trace}
use Rattle.pfc_config.proofs.Names.{same_word}

pub directive_of-name : (directive : Directive) → directive_of (row_of directive).name ≡ Some directive
directive_of-name BlockSize = refl
directive_of-name directive = refl

sets_default : (setting : Setting) → has_default (directive_set setting) ≡ true
sets_default (set.BlockSize bytes) = refl
sets_default setting = refl

named : (word : List ℕ) (e d : Directive) (rest : Option Directive) → cond (is_word word (row_of e).name) (Some e) rest ≡ Some d →
    (rest ≡ Some d → word ≡ (row_of d).name) → word ≡ (row_of d).name
named word e d rest h more = elim (cases_Bool (is_word word (row_of e).name)) [
  | inl is ↦ let same : Some e ≡ Some d = simp is at h in
      let e-d : e ≡ d = cc in
      same_word word (row_of e).name is ∙ ap (λ x. (row_of x).name) e-d
  | inr other ↦ more (simp other at h)
]

-- the directive that a word names has this name
name_of-directive : (word : List ℕ) (d : Directive) → directive_of word ≡ Some d → word ≡ (row_of d).name
name_of-directive word d h =
    named word BlockSize d _ h (λ h. named word Ram d _ h (λ h. named word Prefetch d _ h (λ h. named word WriteQueue d _ h
    (λ h. named word Flush d _ h (λ h. named word DiskUsage d _ h (λ h. named word User d _ h (λ h. named word Spaces d _ h
    (λ h. named word Trace d None h (λ h. cc)))))))))

same_name : (a b : Directive) → is_word (row_of a).name (row_of b).name ≡ true → a ≡ b
same_name a b h =
    let names = same_word (row_of a).name (row_of b).name h in
    let one = directive_of-name a in
    let two = directive_of-name b in
    let both = ap directive_of names in
    let ab : Some a ≡ Some b = sym one ∙ both ∙ two in
    cc

list_any-find : (p : List ℕ → Bool) (xs : List (List ℕ)) → list_any p xs ≡ is_some (find p xs)
list_any-find p [] = refl
list_any-find p (x ∷ xs) = elim (cases_Bool (p x)) [
  | inl h ↦ simp h
  | inr h ↦ simp h (list_any-find p xs)
]

is_some-map : {A B : Type 0} (f : A → B) (o : Option A) → is_some (option_map f o) ≡ is_some o
is_some-map f None = refl
is_some-map f (Some x) = refl

option_map-none : {A B : Type 0} (f : A → B) (o : Option A) → option_map f o ≡ None → o ≡ None
option_map-none f None h = refl
option_map-none f (Some x) h = cc

option_or-none : {A : Type 0} (o : Option A) → option_or o None ≡ o
option_or-none None = refl
option_or-none (Some x) = refl

same_test : (word : List ℕ) → is_word word word ≡ true
same_test word = (bytes_eq-Decides word word).1 refl

-- a line that sets something is refused where its directive was set before
pub is_twice-some : (capacity : ℕ) (before : List (List ℕ)) (old : Settings) (line : List ℕ) (setting : Setting) → AreSetBy capacity before old →
    first_of (words_of line) ≡ (row_of (directive_set setting)).name → is_twice before line ≡ is_some (set_by old (directive_set setting))
is_twice-some capacity before old line setting are name =
    let d = directive_set setting in
    let f = λ (l : List ℕ). values_of capacity d (args_of (words_of l)) in
    let is : directive_of (first_of (words_of line)) ≡ Some d = ap directive_of name ∙ directive_of-name d in
    ap (λ (o : Option Directive). option_map_or (λ e. has_default e && list_any (is_line_of e) before) o false) is
    ∙ ap (λ (b : Bool). b && list_any (is_line_of d) before) (sets_default setting)
    ∙ list_any-find (is_line_of d) before ∙ sym (is_some-map f (find (is_line_of d) before))
    ∙ sym (ap (λ (o : Option (List ℕ)). is_some o) (are.values d (sets_default setting)))

idle : (before : List (List ℕ)) (line : List ℕ) → ((directive : Directive) → has_default directive ≡ true → is_line_of directive line ≡ false) →
    (o : Option Directive) → directive_of (first_of (words_of line)) ≡ o → option_map_or (λ d. has_default d && list_any (is_line_of d) before) o false ≡ false
idle before line h None e = refl
idle before line h (Some d) e = elim (cases_Bool (has_default d)) [
  | inl sets ↦
      let name = name_of-directive (first_of (words_of line)) d e in
      let yes : is_line_of d line ≡ true = ap (λ (word : List ℕ). is_word word (row_of d).name) name ∙ same_test (row_of d).name in
      let none : is_line_of d line ≡ false = h d sets in
      cc
  | inr sets ↦ ap (λ (b : Bool). b && list_any (is_line_of d) before) sets
]

-- a line that sets nothing is never refused so
pub is_twice-none : (before : List (List ℕ)) (line : List ℕ) → ((directive : Directive) → has_default directive ≡ true → is_line_of directive line ≡ false) →
    is_twice before line ≡ false
is_twice-none before line h = idle before line h (directive_of (first_of (words_of line))) refl

position_from-one : (p : List ℕ → Bool) (i : ℕ) (xs : List (List ℕ)) (x : List ℕ) →
    position_from p i (xs ++ x ∷ []) ≡ option_or (position_from p i xs) (cond (p x) (Some (i + length xs)) None)
position_from-one p i [] x = let e : i ≡ i + 0 = omega arith in ap (λ (n : ℕ). cond (p x) (Some n) None) e
position_from-one p i (y ∷ xs) x = elim (cases_Bool (p y)) [
  | inl h ↦ simp h
  | inr h ↦ let e : i + 1 + length xs ≡ i + suc (length xs) = omega arith in simp (h, ← e) (position_from-one p (i + 1) xs x)
]

position_from-none : (p : List ℕ → Bool) (i : ℕ) (xs : List (List ℕ)) → find p xs ≡ None → position_from p i xs ≡ None
position_from-none p i [] h = refl
position_from-none p i (x ∷ xs) h = elim (cases_Bool (p x)) [
  | inl e ↦ let none = simp e at h in cc
  | inr e ↦ simp e (position_from-none p (i + 1) xs (simp e at h))
]

-- another line changes nothing
find-other : (p : List ℕ → Bool) (xs : List (List ℕ)) (x : List ℕ) → p x ≡ false → find p (xs ++ x ∷ []) ≡ find p xs
find-other p xs x h = find-append p xs (x ∷ []) ∙ ap (λ (b : Bool). option_or (find p xs) (cond b (Some x) None)) h ∙ option_or-none (find p xs)

find-here : (p : List ℕ → Bool) (xs : List (List ℕ)) (x : List ℕ) → p x ≡ true → find p xs ≡ None → find p (xs ++ x ∷ []) ≡ Some x
find-here p xs x h none = find-append p xs (x ∷ []) ∙ ap (λ (o : Option (List ℕ)). option_or o (cond (p x) (Some x) None)) none ∙ ap (λ (b : Bool). cond b (Some x) None) h

position-other : (p : List ℕ → Bool) (xs : List (List ℕ)) (x : List ℕ) → p x ≡ false → position_from p 1 (xs ++ x ∷ []) ≡ position_from p 1 xs
position-other p xs x h = position_from-one p 1 xs x ∙ ap (λ (b : Bool). option_or (position_from p 1 xs) (cond b (Some (1 + length xs)) None)) h ∙ option_or-none (position_from p 1 xs)

position-here : (p : List ℕ → Bool) (xs : List (List ℕ)) (x : List ℕ) (n : ℕ) → p x ≡ true → find p xs ≡ None → n ≡ length xs + 1 → position_from p 1 (xs ++ x ∷ []) ≡ Some n
position-here p xs x n h none e =
    let count : 1 + length xs ≡ n = omega arith in
    position_from-one p 1 xs x ∙ ap (λ (o : Option ℕ). option_or o (cond (p x) (Some (1 + length xs)) None)) (position_from-none p 1 xs none)
    ∙ ap (λ (b : Bool). cond b (Some (1 + length xs)) None) h ∙ ap Some count

pub sets_none : (capacity : ℕ) (before : List (List ℕ)) (line : List ℕ) (old : Settings) → AreSetBy capacity before old →
    ((directive : Directive) → has_default directive ≡ true → is_line_of directive line ≡ false) → AreSetBy capacity (before ++ line ∷ []) old
sets_none capacity before line old are h = record {
  values = λ d sets. are.values d sets ∙ sym (ap (option_map (λ (l : List ℕ). values_of capacity d (args_of (words_of l)))) (find-other (is_line_of d) before line (h d sets)));
  line = are.line ∙ sym (position-other (is_line_of Ram) before line (h Ram refl));
}

pub sets_some : (capacity number : ℕ) (before : List (List ℕ)) (line : List ℕ) (setting : Setting) (old new : Settings) →
    AreSetBy capacity before old → number ≡ length before + 1 → ReadsLine capacity line (Ok (Some setting)) →
    set_by old (directive_set setting) ≡ None →
    ((other : Directive) → set_by new other ≡ cond (is_word (row_of (directive_set setting)).name (row_of other).name) (Some (values_set setting)) (set_by old other)) →
    ram_line new ≡ cond (is_word (row_of (directive_set setting)).name (row_of Ram).name) (Some number) (ram_line old) →
    AreSetBy capacity (before ++ line ∷ []) new
sets_some capacity number before line setting old new are n reads first values ram =
    let d = directive_set setting in
    let all = before ++ line ∷ [] in
    let test = λ (e : Directive). ap (λ (word : List ℕ). is_word word (row_of e).name) reads.1 in
    let none : find (is_line_of d) before ≡ None =
    option_map-none (λ (l : List ℕ). values_of capacity d (args_of (words_of l))) (find (is_line_of d) before) (sym (are.values d (sets_default setting)) ∙ first) in
    let own : set_by new d ≡ set_in capacity d all =
    values d ∙ ap (λ (b : Bool). cond b (Some (values_set setting)) (set_by old d)) (same_test (row_of d).name) ∙ sym (ap Some reads.2)
    ∙ sym (ap (option_map (λ (l : List ℕ). values_of capacity d (args_of (words_of l)))) (find-here (is_line_of d) before line (test d ∙ same_test (row_of d).name) none)) in
    record {
      values = λ e sets. elim (cases_Bool (is_word (row_of d).name (row_of e).name)) [
        | inl same ↦ subst (λ (x : Directive). set_by new x ≡ set_in capacity x all) (same_name d e same) own
        | inr other ↦ values e ∙ ap (λ (b : Bool). cond b (Some (values_set setting)) (set_by old e)) other ∙ are.values e sets
            ∙ sym (ap (option_map (λ (l : List ℕ). values_of capacity e (args_of (words_of l)))) (find-other (is_line_of e) before line (test e ∙ other)))
      ];
      line = elim (cases_Bool (is_word (row_of d).name (row_of Ram).name)) [
        | inl same ↦
            let none_ram = subst (λ (x : Directive). find (is_line_of x) before ≡ None) (same_name d Ram same) none in
            ram ∙ ap (λ (b : Bool). cond b (Some number) (ram_line old)) same ∙ sym (position-here (is_line_of Ram) before line number (test Ram ∙ same) none_ram n)
        | inr other ↦ ram ∙ ap (λ (b : Bool). cond b (Some number) (ram_line old)) other ∙ are.line ∙ sym (position-other (is_line_of Ram) before line (test Ram ∙ other))
      ];
    }

pub kind_of-alone : (capacity : ℕ) (before : List (List ℕ)) (line : List ℕ) (twice : Bool) → kind_alone capacity line ≡ None → is_twice before line ≡ twice →
    kind_of capacity before line ≡ cond twice (Some Twice) None
kind_of-alone capacity before line twice alone is =
    ap (λ (o : Option Kind). option_map_or (λ (k : Kind). Some k) o (cond (is_twice before line) (Some Twice) None)) alone
    ∙ ap (λ (b : Bool). cond b (Some Twice) None) is

pub is_some-not : {A : Type 0} (o : Option A) → is_some o ≡ false → o ≡ None
is_some-not None h = refl
is_some-not (Some x) h = cc

pub none_set : (capacity : ℕ) (settings : Settings) → ((directive : Directive) → set_by settings directive ≡ None) → AreSetBy capacity [] settings
none_set capacity settings h = record {
  values = λ d sets. h d;
  line = ap (option_map (λ (ram : ℕ × ℕ). ram.1)) (option_map-none (λ (ram : ℕ × ℕ). ram.0 ∷ []) settings.ram (h Ram));
}

-- the configuration of settings is that of the lines that made them
pub config_by-set : (capacity : ℕ) (lines : List (List ℕ)) (settings : Settings) → AreSetBy capacity lines settings →
    with_room (ram_line settings) (config_by (or_default capacity (set_by settings)))
    ≡ with_room (number_in Ram lines) (config_by (or_default capacity (λ directive. set_in capacity directive lines)))
config_by-set capacity lines settings are =
    rw (are.values BlockSize refl, are.values Ram refl, are.values Prefetch refl, are.values WriteQueue refl, are.values Flush refl, are.values DiskUsage refl, are.line) refl
