-- What the names of the directives are to each other, and to other words.
use Rattle.std.proofs.Common.{◌≡◌, inl, inr, ℕ, true, false, List, [], Option, Some, Result, Ok, Err, MatchResult, refl, ap, ◌∙◌}
use Rattle.std.proofs.lemmas.Bool.{cases_Bool}
use Rattle.std.proofs.lemmas.Slice.Eq.{bytes_eq-Decides}
use Rattle.pfc_config.specs.Directive.{is_word, row_of, ReadsArgs, TakesArgs}
use Rattle.pfc_config.specs.Line.{is_ours}
use Rattle.std.specs.Result.{IsOkAnd}
use Rattle.pfc_config.specs.declared.setting.Setting.{Setting}
use Rattle.pfc_config.specs.declared.refusal.Kind.{Kind}
use Rattle.pfc_config.specs.declared.directive.Directive.{Directive}
use Rattle.pfc_config.specs.declared.directive.Directive.TheVariants.{BlockSize}

pub ours : (directive : Directive) → is_ours (row_of directive).name ≡ true
ours BlockSize = refl
ours directive = refl

pub unnamed : (directive : Directive) → is_word [] (row_of directive).name ≡ false
unnamed BlockSize = refl
unnamed directive = refl

pub same_word : (word name : List ℕ) → is_word word name ≡ true → word ≡ name
same_word word name h = (bytes_eq-Decides word name).0 h

-- a word that isn't ours names no directive
pub not_ours : (directive : Directive) (word : List ℕ) → is_ours word ≡ false → is_word word (row_of directive).name ≡ false
not_ours directive word h = elim (cases_Bool (is_word word (row_of directive).name)) [
  | inl e ↦ let is = same_word word (row_of directive).name e in
      let yes : is_ours word ≡ true = ap is_ours is ∙ ours directive in cc
  | inr e ↦ e
]

-- what was read of the words is taken where it is handed on
pub takes_mapped : (capacity : ℕ) (directive : Directive) (args : List (List ℕ)) (read : Result Setting Kind) (taken : Result (Option Setting) Kind) →
    ReadsArgs capacity directive args read → MatchResult read (λ x. IsOkAnd taken (λ y. y ≡ Some x)) (λ e. taken ≡ Err e) →
    TakesArgs capacity directive args taken
takes_mapped capacity directive args (Ok x) (Ok y) h m = rw m h
takes_mapped capacity directive args (Ok x) (Err y) h m = absurd m
takes_mapped capacity directive args (Err x) taken h m = rw m h
