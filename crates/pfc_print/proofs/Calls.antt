-- What the words say of what is written.
use Rattle.std.proofs.Common.{◌≡◌, ℕ, zero, suc, ◌≤◌, Bool, true, false, ◌||◌, List, [], ◌∷◌, take, codes, refl, sym, ap, subst, ◌∙◌, inl, inr, ◌⊎◌, arith}
use Rattle.std.specs.Prelude.{IsTrue, IsSomeAnd, Some, None, Option, option_map, unwrap_or}
use Rattle.std.specs.Borrow.{Bor}
use Rattle.std.proofs.lemmas.List.{append-nil}
use Rattle.std.proofs.lemmas.List.Elements.{All-tail}
use Rattle.clap.specs.Words.{Row, all_of, fault_of, first_of, matches_of}
use Rattle.pfc_base.specs.Cinfo.{Cinfo, IsCinfo}
use Rattle.pfc_world.specs.Files.{file_at}
use Rattle.pfc_world.specs.Texts.{Texts}
use Rattle.pfc_print.specs.Words.{print_command, line_of, AreTaken, is_verbose, says_true, files_in}
use Rattle.pfc_print.specs.Text.{usage_text}
use Rattle.pfc_print.specs.Shown.{read_limit, IsShown, AreShown, IsCut, IsPart, IsPrinted, IsWhole, IsFault, IsStopped, IsMeant, AreCinfos, Writes, WritesFront}
use Rattle.pfc_print.proofs.Fronts.{names_of, front-nothing}

pub files-named : (found : Option (Bor (List (Bor (List ℕ))))) (none files : Bor (List (Bor (List ℕ)))) → files ≡ unwrap_or found none → none.now ≡ [] →
    names_of files.now ≡ unwrap_or (option_map (λ s. names_of s.now) found) []
files-named None none files e empty = ap (λ (f : Bor (List (Bor (List ℕ)))). names_of f.now) e ∙ ap names_of empty
files-named (Some s) none files e empty = ap (λ (f : Bor (List (Bor (List ℕ)))). names_of f.now) e

-- what clap found in the words is what they ask
pub as-asked : (words line : List (List ℕ)) (rows : List Row) (verbose : Bool) (files : List (List ℕ)) → line ≡ line_of words → fault_of print_command line ≡ [] →
    rows ≡ matches_of print_command line → verbose ≡ says_true (first_of (codes "verbose") rows) → files ≡ unwrap_or (all_of (codes "cinfo") rows) [] →
    AreTaken words × (verbose ≡ is_verbose words) × (files ≡ files_in words)
as-asked words line rows verbose files e taken found v f =
    let rows-are = found ∙ ap (matches_of print_command) e in (
      sym (ap (fault_of print_command) e) ∙ taken,
      v ∙ ap (λ (r : List Row). says_true (first_of (codes "verbose") r)) rows-are,
      f ∙ ap (λ (r : List Row). unwrap_or (all_of (codes "cinfo") r) []) rows-are,
    )

pub whole-call : (told : Bool) (texts : Texts) (words : List (List ℕ)) (verbose : Bool) (names : List (List ℕ)) (d sink : Bool) (a b : List ℕ) →
    AreTaken words → verbose ≡ is_verbose words → names ≡ files_in words → Writes (λ text. AreShown told texts verbose names text d) sink a b → Writes (IsWhole told texts words d) sink a b
whole-call told texts words verbose names d sink a b taken v n (text, shown, written) =
    (text, (taken, subst (λ (w : Bool). AreShown told texts w (files_in words) text d) v (subst (λ (l : List (List ℕ)). AreShown told texts verbose l text d) n shown)), written)

pub fault-call : (told : Bool) (texts : Texts) (words : List (List ℕ)) (verbose : Bool) (names : List (List ℕ)) (sink : Bool) (a b : List ℕ) →
    AreTaken words → verbose ≡ is_verbose words → names ≡ files_in words → Writes (IsCut told texts verbose names) sink a b → Writes (IsFault told texts words) sink a b
fault-call told texts words verbose names sink a b taken v n (text, cut, written) =
    (text, (taken, subst (λ (w : Bool). IsCut told texts w (files_in words) text) v (subst (λ (l : List (List ℕ)). IsCut told texts verbose l text) n cut)), written)

pub stopped-call : (told : Bool) (texts : Texts) (words : List (List ℕ)) (verbose : Bool) (names : List (List ℕ)) (sink : Bool) (a b : List ℕ) →
    AreTaken words → verbose ≡ is_verbose words → names ≡ files_in words → Writes (IsPart told texts verbose names) sink a b → Writes (IsStopped told texts words) sink a b
stopped-call told texts words verbose names sink a b taken v n (text, part, written) =
    (text, inr (taken, subst (λ (w : Bool). IsPart told texts w (files_in words) text) v (subst (λ (l : List (List ℕ)). IsPart told texts verbose l text) n part)), written)

-- nothing was written
pub stopped-first : (told : Bool) (texts : Texts) (words : List (List ℕ)) (sink : Bool) (a : List ℕ) → Writes (IsStopped told texts words) sink a a
stopped-first told texts words sink a = ([], inl refl, λ t. sym (append-nil a))

pub front-call : (told : Bool) (texts : Texts) (words : List (List ℕ)) (verbose : Bool) (names : List (List ℕ)) (sink : Bool) (a b : List ℕ) →
    AreTaken words → verbose ≡ is_verbose words → names ≡ files_in words → WritesFront (IsPrinted told texts verbose names) sink a b → WritesFront (IsMeant told texts words) sink a b
front-call told texts words verbose names sink a b taken v n (text, printed, written) =
    (text, inr (taken, subst (λ (w : Bool). IsPrinted told texts w (files_in words) text) v (subst (λ (l : List (List ℕ)). IsPrinted told texts verbose l text) n printed)), written)

empty-or_not : {X : Type 0} (l : List X) → (l ≡ []) ⊎ ¬ (l ≡ [])
empty-or_not [] = inl refl
empty-or_not (x ∷ xs) = inr (λ e. absurd cc)

-- nothing is a front of what was meant
pub nothing-call : (told : Bool) (texts : Texts) (words : List (List ℕ)) (sink : Bool) (a : List ℕ) → WritesFront (IsMeant told texts words) sink a a
nothing-call told texts words sink a =
    elim (empty-or_not (fault_of print_command (line_of words))) [
      | inr refused ↦ (usage_text, inl (refused, refl), front-nothing sink a usage_text)
      | inl taken ↦ ([], inr (taken, inl (record { first = []; others = files_in words; parts = refl; damaged = false; shown = (refl, refl) })), front-nothing sink a [])
    ]

-- ---- where nothing hinders

both-of : {X : Type 0} (o : Option X) (P Q : X → Type 0) → IsSomeAnd o P → IsSomeAnd o Q → (x : X) × P x × Q x
both-of None P Q p q = absurd p
both-of (Some x) P Q p q = (x, p, q)

one-undamaged : (told : Bool) (texts : Texts) (verbose : Bool) (name text : List ℕ) (d : Bool) → IsTrue told → IsSomeAnd (file_at texts name) (λ all. (c : Cinfo) × IsCinfo (take read_limit all) c) →
    IsShown told texts verbose name text d → d ≡ false
one-undamaged told texts verbose name text false tells cinfo shown = refl
one-undamaged told texts verbose name text true tells cinfo shown =
    let all = both-of (file_at texts name) (λ all. shown.bytes ≡ take read_limit all) (λ all. (c : Cinfo) × IsCinfo (take read_limit all) c) (shown.read tells) cinfo in
    absurd (shown.none refl all.2.0 (subst (λ (bytes : List ℕ). IsCinfo bytes all.2.0) (sym all.1) all.2.1))

pub undamaged : (told : Bool) (texts : Texts) (verbose : Bool) (names : List (List ℕ)) (text : List ℕ) (d : Bool) → IsTrue told → AreCinfos texts names →
    AreShown told texts verbose names text d → d ≡ false
undamaged told texts verbose [] text d tells cinfos shown = shown.1
undamaged told texts verbose (name ∷ names) text d tells cinfos (first, one, rest, others, this, tail, whole, flag) =
    let here = one-undamaged told texts verbose name first one tells (cinfos 0 name (omega arith)) this in
    let later = undamaged told texts verbose names rest others tells (All-tail (λ n. IsSomeAnd (file_at texts n) (λ all. (c : Cinfo) × IsCinfo (take read_limit all) c)) name names cinfos) tail in
    flag ∙ (λ i. here i || later i)

pub only-two : (n : ℕ) → n ≤ 5 → ¬ (n ≡ 1) → ¬ (n ≡ 2) → ¬ (n ≡ 3) → ¬ (n ≡ 4) → (n ≡ 0) ⊎ (n ≡ 5)
only-two zero le a b c d = inl refl
only-two (suc zero) le a b c d = absurd (a refl)
only-two (suc (suc zero)) le a b c d = absurd (b refl)
only-two (suc (suc (suc zero))) le a b c d = absurd (c refl)
only-two (suc (suc (suc (suc zero)))) le a b c d = absurd (d refl)
only-two (suc (suc (suc (suc (suc zero))))) le a b c d = inr refl
only-two (suc (suc (suc (suc (suc (suc n)))))) le a b c d = absurd (omega arith)

pub not-damaged : (told : Bool) (texts : Texts) (verbose : Bool) (names : List (List ℕ)) (sink : Bool) (a b : List ℕ) → IsTrue told → AreCinfos texts names →
    ¬ Writes (λ text. AreShown told texts verbose names text true) sink a b
not-damaged told texts verbose names sink a b tells cinfos (text, shown, written) =
    let none : true ≡ false = undamaged told texts verbose names text true tells cinfos shown in
    absurd cc
