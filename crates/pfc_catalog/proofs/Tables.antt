-- The table of shells beside the files.
use Rattle.std.proofs.Common.{◌≡◌, inl, inr, ℕ, zero, suc, ◌<◌, List, [], ◌∷◌, ◌++◌, length, Bool, true, false, Option, Some, None, refl, sym, ap, ◌∙◌, subst, arith, replicate, length-set, get_or, ◌+◌}
use Rattle.std.proofs.lemmas.List.{length-replicate}
use Rattle.std.specs.Prelude.{slice_get, slice_set, if◌then◌else◌, IsSome, IfSome, IfNone, is_some}
use Rattle.std.proofs.lemmas.Bool.{eqb-true, eq-eqb}
use Rattle.std.proofs.lemmas.Option.{none-some, same_Some, slice_get_within, slice_get-get_or}
use Rattle.indexmap.specs.IndexMap.{set_value_at}
use Rattle.pfc_catalog.specs.declared.entry.Entry.{Entry}
use Rattle.pfc_catalog.specs.declared.entry.State.{State}
use Rattle.pfc_catalog.specs.declared.entry.State.TheVariants as states
use Rattle.pfc_catalog.specs.Entry.{shell_of, live_shell}
use Rattle.pfc_catalog.specs.Shells.{is_shell, holder, live_at, MayHold, freed, given}
use Rattle.pfc_catalog.specs.Kept.{HeldBy, IsTable}
use Rattle.pfc_catalog.proofs.Places.{by_bool, same-nat, get-set_same, get-set_other, get-value_same, get-value_other, get-push, get-push_before}

abbrev Files : Type 0
Files = List (List ℕ × Entry)

is_shell-true : (s : ℕ) (o : Option ℕ) → is_shell s o ≡ true → o ≡ Some s
is_shell-true s None h = absurd cc
is_shell-true s (Some t) h = ap (λ (n : ℕ). Some n) (eqb-true t s h)

shell-is : (s : ℕ) (o : Option ℕ) → o ≡ Some s → is_shell s o ≡ true
shell-is s None h = absurd (none-some s h)
shell-is s (Some t) h = eq-eqb t s (same_Some t s h)

pub get-within : {X : Type 0} (xs : List X) (i : ℕ) → i < length xs → (x : X) × (slice_get xs i ≡ Some x)
get-within [] i h = absurd (omega (arith, h))
get-within (x ∷ xs) zero h = (x, refl)
get-within (x ∷ xs) (suc i) h = get-within xs i (omega (arith, h))

-- no file holds the shell
pub holder-none : (s : ℕ) (fs : Files) → ((i : ℕ) (f : List ℕ × Entry) → slice_get fs i ≡ Some f → shell_of f.1.state ≡ Some s → ⊥) → holder s fs ≡ None
holder-none s [] none = refl
holder-none s (f ∷ fs) none =
    by_bool (is_shell s (shell_of f.1.state))
    (λ yes. absurd (none 0 f refl (is_shell-true s (shell_of f.1.state) yes)))
    (λ no. ap (λ (b : Bool). if b then Some f.0 else holder s fs) no ∙ holder-none s fs (λ i g h. none (suc i) g h))

-- some file does
pub holder-some : (s : ℕ) (fs : Files) (i : ℕ) (f : List ℕ × Entry) → slice_get fs i ≡ Some f → shell_of f.1.state ≡ Some s → IsSome (holder s fs)
holder-some s [] i f h at = absurd (none-some f h)
holder-some s (g ∷ gs) zero f h at =
    let yes : is_shell s (shell_of g.1.state) ≡ true = shell-is s (shell_of g.1.state) (subst (λ (x : List ℕ × Entry). shell_of x.1.state ≡ Some s) (sym (same_Some g f h)) at) in
    subst (λ (b : Bool). IsSome (if b then Some g.0 else holder s gs)) (sym yes) refl
holder-some s (g ∷ gs) (suc i) f h at =
    by_bool (is_shell s (shell_of g.1.state))
    (λ yes. subst (λ (b : Bool). IsSome (if b then Some g.0 else holder s gs)) (sym yes) refl)
    (λ no. subst (λ (b : Bool). IsSome (if b then Some g.0 else holder s gs)) (sym no) (holder-some s gs i f h at))

some-none : {X : Type 0} (o : Option X) → IsSome o → o ≡ None → ⊥
some-none None h n = absurd cc
some-none (Some x) h n = none-some x (sym n)

none-there : (n s i : ℕ) → slice_get (replicate n None) s ≡ Some (Some i) → ⊥
none-there zero s i h = none-some (Some i) h
none-there (suc n) zero i h = none-some i (same_Some None (Some i) h)
none-there (suc n) (suc s) i h = none-there n s i h

-- no file holds any shell
pub table-new : (shells : List (Option ℕ)) → shells ≡ replicate 256 None → IsTable [] shells
table-new shells is = record {
  long = ap length is ∙ length-replicate {A = Option ℕ} 256 None;
  held = λ s i h. absurd (none-there 256 s i (subst (λ (l : List (Option ℕ)). slice_get l s ≡ Some (Some i)) is h));
  holds = λ i s f h at. absurd (none-some f h);
}

module _ (fs : Files) (shells : List (Option ℕ)) (kept : IsTable fs shells) where
  -- a shell that is free in the table is held by none
  pub table-free : (s : ℕ) → slice_get shells s ≡ Some None → holder s fs ≡ None
  table-free s h = holder-none s fs (λ i f there at. none-some i (same_Some None (Some i) (sym h ∙ kept.holds i s f there at)))

  pub table-taken : (s i : ℕ) → slice_get shells s ≡ Some (Some i) → IsSome (holder s fs)
  table-taken s i h = let by = kept.held s i h in holder-some s fs i by.0 by.1 by.2

  -- a shell that a file holds is below 256
  pub table-low : (i s : ℕ) (f : List ℕ × Entry) → slice_get fs i ≡ Some f → shell_of f.1.state ≡ Some s → s < 256
  table-low i s f h at = let w = slice_get_within shells s _ (kept.holds i s f h at) in omega (arith, w, kept.long)

  pub all-low : (i : ℕ) (f : List ℕ × Entry) → slice_get fs i ≡ Some f → (o : Option ℕ) → shell_of f.1.state ≡ o → IfSome o (λ s. s < 256)
  all-low i f h None is = tt
  all-low i f h (Some s) is = table-low i s f h is

  pub new-all_low : (i : ℕ) (f : List ℕ × Entry) → slice_get fs i ≡ Some f → (o : Option ℕ) → MayHold fs (shell_of f.1.state) o → IfSome o (λ s. s < 256)
  new-all_low i f h None may = tt
  new-all_low i f h (Some s) may = elim (may s refl) [ inl had ↦ table-low i s f h had | inr free ↦ free.0 ]

  -- a file without a shell comes last
  pub table-push : (f : List ℕ × Entry) → shell_of f.1.state ≡ None → IsTable (fs ++ f ∷ []) shells
  table-push f none = record {
    long = kept.long;
    held = λ s i h. let by = kept.held s i h in (by.0, get-push_before fs f by.0 i by.1, by.2);
    holds = λ i s g h at. elim (get-push fs f g i h) [
      | inl last ↦ absurd (none-some s (sym none ∙ subst (λ (x : List ℕ × Entry). shell_of x.1.state ≡ Some s) (sym last.1) at))
      | inr before ↦ kept.holds i s g before at
    ];
  }

  module _ (i : ℕ) (f : List ℕ × Entry) (there : slice_get fs i ≡ Some f) where
    freed-held : (was : Option ℕ) → shell_of f.1.state ≡ was → (s j : ℕ) → slice_get (freed was shells) s ≡ Some (Some j)
        → (g : List ℕ × Entry) × (slice_get fs j ≡ Some g) × (shell_of g.1.state ≡ Some s) × (i ≡ j → ⊥)
    freed-held None is s j h =
        let by = kept.held s j h in (
          by.0,
          by.1,
          by.2,
          λ same.
              let one : f ≡ by.0 = same_Some f by.0 (sym there ∙ ap (slice_get fs) same ∙ by.1) in
              none-some s (sym is ∙ ap (λ (x : List ℕ × Entry). shell_of x.1.state) one ∙ by.2),
        )
    freed-held (Some t) is s j h =
        same-nat t s
        (λ same. absurd (none-some j (same_Some None (Some j) (sym (get-set_same shells t None (Some i) (kept.holds i t f there is)) ∙ ap (slice_get (slice_set shells t None)) same ∙ h))))
        (λ other.
        let by = kept.held s j (sym (get-set_other shells t s None other) ∙ h) in (
          by.0,
          by.1,
          by.2,
          λ same.
              let one : f ≡ by.0 = same_Some f by.0 (sym there ∙ ap (slice_get fs) same ∙ by.1) in
              other (same_Some t s (sym is ∙ ap (λ (x : List ℕ × Entry). shell_of x.1.state) one ∙ by.2)),
        ))

    freed-holds : (was : Option ℕ) → shell_of f.1.state ≡ was → (j s : ℕ) (g : List ℕ × Entry) → slice_get fs j ≡ Some g → shell_of g.1.state ≡ Some s → (i ≡ j → ⊥) → slice_get (freed was shells) s ≡ Some (Some j)
    freed-holds None is j s g h at apart = kept.holds j s g h at
    freed-holds (Some t) is j s g h at apart =
        get-set_other shells t s None (λ same. apart (same_Some i j (same_Some (Some i) (Some j)
        (sym (kept.holds i t f there is) ∙ ap (slice_get shells) same ∙ kept.holds j s g h at))))
        ∙ kept.holds j s g h at

    freed-long : (was : Option ℕ) → length (freed was shells) ≡ 256
    freed-long None = kept.long
    freed-long (Some t) = length-set shells t None ∙ kept.long

    -- what is known of a file changes
    module _ (e : Entry) (may : MayHold fs (shell_of f.1.state) (shell_of e.state)) where
      abbrev new-files : Files
      new-files = set_value_at fs i e

      abbrev before : List (Option ℕ)
      before = freed (shell_of f.1.state) shells

      new-low : (u : ℕ) → shell_of e.state ≡ Some u → u < 256
      new-low u is = elim (may u is) [ inl had ↦ table-low i u f there had | inr free ↦ free.0 ]

      put-held : (is : Option ℕ) → shell_of e.state ≡ is → (s j : ℕ) → slice_get (given is i before) s ≡ Some (Some j) → HeldBy new-files s j
      put-held None is s j h = let by = freed-held (shell_of f.1.state) refl s j h in (by.0, get-value_other fs i j e by.3 ∙ by.1, by.2)
      put-held (Some u) is s j h =
          same-nat u s
          (λ same.
          let low : u < 256 = new-low u is in
          let got = get-within before u (omega (arith, low, freed-long (shell_of f.1.state))) in
          let place : i ≡ j = same_Some i j (same_Some (Some i) (Some j) (sym (get-set_same before u (Some i) got.0 got.1) ∙ ap (slice_get (slice_set before u (Some i))) same ∙ h)) in
          ((f.0, e), subst (λ (n : ℕ). slice_get new-files n ≡ Some (f.0, e)) place (get-value_same fs i e f there), is ∙ ap (λ (n : ℕ). Some n) same))
          (λ other. let by = freed-held (shell_of f.1.state) refl s j (sym (get-set_other before u s (Some i) other) ∙ h) in (by.0, get-value_other fs i j e by.3 ∙ by.1, by.2))

      new-apart : (u j s : ℕ) (g : List ℕ × Entry) → shell_of e.state ≡ Some u → slice_get fs j ≡ Some g → shell_of g.1.state ≡ Some s → (i ≡ j → ⊥) → u ≡ s → ⊥
      new-apart u j s g is h at apart same = elim (may u is) [
        | inl had ↦ apart (same_Some i j (same_Some (Some i) (Some j) (sym (kept.holds i u f there had) ∙ ap (slice_get shells) same ∙ kept.holds j s g h at)))
        | inr free ↦ some-none (holder s fs) (holder-some s fs j g h at) (ap (λ (n : ℕ). holder n fs) (sym same) ∙ free.1)
      ]

      put-holds : (is : Option ℕ) → shell_of e.state ≡ is → (j s : ℕ) (g : List ℕ × Entry) → slice_get new-files j ≡ Some g → shell_of g.1.state ≡ Some s → slice_get (given is i before) s ≡ Some (Some j)
      put-holds None is j s g h at =
          same-nat i j
          (λ same.
          let one : (f.0, e) ≡ g = same_Some (f.0, e) g (sym (get-value_same fs i e f there) ∙ ap (slice_get new-files) same ∙ h) in
          absurd (none-some s (sym is ∙ ap (λ (x : List ℕ × Entry). shell_of x.1.state) one ∙ at)))
          (λ other. freed-holds (shell_of f.1.state) refl j s g (sym (get-value_other fs i j e other) ∙ h) at other)
      put-holds (Some u) is j s g h at =
          same-nat i j
          (λ same.
          let one : (f.0, e) ≡ g = same_Some (f.0, e) g (sym (get-value_same fs i e f there) ∙ ap (slice_get new-files) same ∙ h) in
          let shell : u ≡ s = same_Some u s (sym is ∙ ap (λ (x : List ℕ × Entry). shell_of x.1.state) one ∙ at) in
          let low : u < 256 = new-low u is in
          let got = get-within before u (omega (arith, low, freed-long (shell_of f.1.state))) in
          subst (λ (n : ℕ). slice_get (slice_set before u (Some i)) n ≡ Some (Some j)) shell
          (get-set_same before u (Some i) got.0 got.1 ∙ ap (λ (n : ℕ). Some (Some n)) same))
          (λ other.
          let old = sym (get-value_other fs i j e other) ∙ h in
          get-set_other before u s (Some i) (new-apart u j s g is old at other) ∙ freed-holds (shell_of f.1.state) refl j s g old at other)

      put-long : (is : Option ℕ) → length (given is i before) ≡ 256
      put-long None = freed-long (shell_of f.1.state)
      put-long (Some u) = length-set before u (Some i) ∙ freed-long (shell_of f.1.state)

      pub table-put : IsTable new-files (given (shell_of e.state) i before)
      table-put = record {
        long = put-long (shell_of e.state);
        held = put-held (shell_of e.state) refl;
        holds = put-holds (shell_of e.state) refl;
      }

-- one shell more is held
pub taken-more : (xs : List (Option ℕ)) (k : ℕ) → ((s : ℕ) → s < k → (i : ℕ) × (slice_get xs s ≡ Some (Some i))) → k < length xs → is_some (get_or xs k None) ≡ true
    → (s : ℕ) → s < k + 1 → (i : ℕ) × (slice_get xs s ≡ Some (Some i))
taken-more xs k below low some s h =
    same-nat s k
    (λ same.
    let got = by-some (get_or xs k None) some in
    (got.0, ap (slice_get xs) same ∙ slice_get-get_or xs k None low ∙ ap (λ (o : Option ℕ). Some o) got.1))
    (λ other. below s (omega (arith, h, other)))
  where
    by-some : (o : Option ℕ) → is_some o ≡ true → (i : ℕ) × (o ≡ Some i)
    by-some None e = absurd cc
    by-some (Some i) e = (i, refl)

live_at-none : (s : ℕ) (fs : Files) → ((i : ℕ) (f : List ℕ × Entry) → slice_get fs i ≡ Some f → live_shell f.1.state ≡ Some s → ⊥) → live_at s fs ≡ None
live_at-none s [] none = refl
live_at-none s (f ∷ fs) none =
    by_bool (is_shell s (live_shell f.1.state))
    (λ yes. absurd (none 0 f refl (is_shell-true s (live_shell f.1.state) yes)))
    (λ no. ap (λ (b : Bool). if b then Some f.0 else live_at s fs) no ∙ live_at-none s fs (λ i g h. none (suc i) g h))

live_at-some : (s : ℕ) (fs : Files) (i : ℕ) (f : List ℕ × Entry) → slice_get fs i ≡ Some f → live_shell f.1.state ≡ Some s
    → ((j : ℕ) (g : List ℕ × Entry) → slice_get fs j ≡ Some g → live_shell g.1.state ≡ Some s → i ≡ j) → live_at s fs ≡ Some f.0
live_at-some s [] i f h at one = absurd (none-some f h)
live_at-some s (g ∷ gs) zero f h at one =
    let is : g ≡ f = same_Some g f h in
    let yes : is_shell s (live_shell g.1.state) ≡ true = shell-is s (live_shell g.1.state) (subst (λ (x : List ℕ × Entry). live_shell x.1.state ≡ Some s) (sym is) at) in
    ap (λ (b : Bool). if b then Some g.0 else live_at s gs) yes ∙ ap (λ (x : List ℕ × Entry). Some x.0) is
live_at-some s (g ∷ gs) (suc i) f h at one =
    by_bool (is_shell s (live_shell g.1.state))
    (λ yes. let clash = one 0 g refl (is_shell-true s (live_shell g.1.state) yes) in absurd (omega (arith, clash)))
    (λ no. ap (λ (b : Bool). if b then Some g.0 else live_at s gs) no
    ∙ live_at-some s gs i f h at (λ j k there is. let same = one (suc j) k there is in omega (arith, same)))

-- a file that is open in a shell holds it
live-held : (st : State) (s : ℕ) → live_shell st ≡ Some s → shell_of st ≡ Some s
live-held states.Home s h = absurd (none-some s h)
live-held (states.Opening t i) s h = absurd (none-some s h)
live-held (states.Live t i n) s h = h
live-held (states.Away t i) s h = absurd (none-some s h)
live-held states.Victim s h = absurd (none-some s h)

-- one that holds it and is open is open in it
held-live : (st : State) (s : ℕ) → shell_of st ≡ Some s → is_some (live_shell st) ≡ true → live_shell st ≡ Some s
held-live states.Home s h live = absurd (none-some s h)
held-live (states.Opening t i) s h live = absurd cc
held-live (states.Live t i n) s h live = h
held-live (states.Away t i) s h live = absurd cc
held-live states.Victim s h live = absurd (none-some s h)

module _ (fs : Files) (shells : List (Option ℕ)) (kept : IsTable fs shells) where
  pub live-free : (s : ℕ) → slice_get shells s ≡ Some None → live_at s fs ≡ None
  live-free s h = live_at-none s fs (λ i f there at. none-some i (same_Some None (Some i) (sym h ∙ kept.holds i s f there (live-held f.1.state s at))))

  one-place : (s i : ℕ) → slice_get shells s ≡ Some (Some i) → (j : ℕ) (g : List ℕ × Entry) → slice_get fs j ≡ Some g → live_shell g.1.state ≡ Some s → i ≡ j
  one-place s i h j g there at = same_Some i j (same_Some (Some i) (Some j) (sym h ∙ kept.holds j s g there (live-held g.1.state s at)))

  pub live-found : (s i : ℕ) (f : List ℕ × Entry) → slice_get shells s ≡ Some (Some i) → slice_get fs i ≡ Some f → is_some (live_shell f.1.state) ≡ true → live_at s fs ≡ Some f.0
  live-found s i f h there live =
      let by = kept.held s i h in
      let is : by.0 ≡ f = same_Some by.0 f (sym by.1 ∙ there) in
      let holds : shell_of f.1.state ≡ Some s = subst (λ (x : List ℕ × Entry). shell_of x.1.state ≡ Some s) is by.2 in
      live_at-some s fs i f there (held-live f.1.state s holds live) (one-place s i h)

  pub live-not : (s i : ℕ) (f : List ℕ × Entry) → slice_get shells s ≡ Some (Some i) → slice_get fs i ≡ Some f → is_some (live_shell f.1.state) ≡ false → live_at s fs ≡ None
  live-not s i f h there not_live = live_at-none s fs (λ j g at is.
      let same = one-place s i h j g at is in
      let one : f ≡ g = same_Some f g (sym there ∙ ap (slice_get fs) same ∙ at) in
      let clash : true ≡ false = sym (ap is_some (ap (λ (x : List ℕ × Entry). live_shell x.1.state) one ∙ is)) ∙ not_live in
      absurd cc)

pub if-some : {X : Type 0} {P Q : X → Type 0} (o : Option X) → IfSome o P → ((x : X) → P x → Q x) → IfSome o Q
if-some None h f = tt
if-some (Some x) h f = f x h

pub if-none : {X P Q : Type 0} (o : Option X) → IfNone o P → (P → Q) → IfNone o Q
if-none None h f = f h
if-none (Some x) h f = tt
