-- Logs that grow by entries that pass a test.
use Rattle.std.proofs.Common.{◌≡◌, ℕ, List, [], ◌∷◌, ◌++◌, refl, sym, ap, ◌∙◌, Bool, true, false, append_assoc, inl}
use Rattle.std.specs.Prelude.{◌&&◌, All, Option, Some, None}
use Rattle.std.proofs.lemmas.List.{append-nil}
use Rattle.std.proofs.lemmas.List.Elements.{All-nil, All-cons, All-append, All-weaker}
use Rattle.pfc_log.specs.declared.entry.Entry.{Entry}
use Rattle.pfc_log.specs.Charges.{is_calm, GrowsCalmly}
use Rattle.pfc_log.specs.Waiting.{is_plain, GrowsPlainly}
use Rattle.pfc_core.specs.Marks.{Mark}
use Rattle.pfc_core.specs.View.{CoreView}
use Rattle.pfc_actor.specs.Steps.{GrowsBy}

pub record Grows (test : Entry → Bool) (old new : List Entry) : Type 0 where
  pub more : List Entry
  pub is : new ≡ old ++ more
  pub all : All (λ x. test x ≡ true) more

-- the entry tells of no failed device, and ends no block's waiting
abbrev pub is_quiet : Entry → Bool
is_quiet x = is_calm x && is_plain x

module _ (test : Entry → Bool) where
  pub grows_none : (es : List Entry) → Grows test es es
  grows_none es = record { more = []; is = sym (append-nil es); all = All-nil (λ x. test x ≡ true) }

  pub grows_one : (es : List Entry) (x : Entry) → test x ≡ true → Grows test es (es ++ x ∷ [])
  grows_one es x passes = record { more = x ∷ []; is = refl; all = All-cons (λ y. test y ≡ true) x [] passes (All-nil (λ y. test y ≡ true)) }

  pub grows_on : (es mid new : List Entry) → Grows test es mid → Grows test mid new → Grows test es new
  grows_on es mid new first later = record {
    more = first.more ++ later.more;
    is = later.is ∙ ap (λ (l : List Entry). l ++ later.more) first.is ∙ append_assoc es first.more later.more;
    all = All-append (λ x. test x ≡ true) first.more later.more first.all later.all;
  }

first_of : (p q : Bool) → (p && q) ≡ true → p ≡ true
first_of true q both = refl
first_of false q both = both

second_of : (p q : Bool) → (p && q) ≡ true → q ≡ true
second_of true q both = both
second_of false q both = absurd cc

pub calmly : (es es2 : List Entry) → Grows is_calm es es2 → GrowsCalmly es es2
calmly es es2 grows = record { more = grows.more; is = grows.is; calm = grows.all }

pub plainly : (es es2 : List Entry) → Grows is_plain es es2 → GrowsPlainly es es2
plainly es es2 grows = record { more = grows.more; is = grows.is; plain = grows.all }

pub quiet_calmly : (es es2 : List Entry) → Grows is_quiet es es2 → GrowsCalmly es es2
quiet_calmly es es2 grows = record { more = grows.more; is = grows.is; calm = All-weaker (λ x. is_quiet x ≡ true) (λ x. is_calm x ≡ true) (λ x. first_of (is_calm x) (is_plain x)) grows.more grows.all }

pub quiet_plainly : (es es2 : List Entry) → Grows is_quiet es es2 → GrowsPlainly es es2
quiet_plainly es es2 grows = record { more = grows.more; is = grows.is; plain = All-weaker (λ x. is_quiet x ≡ true) (λ x. is_plain x ≡ true) (λ x. second_of (is_calm x) (is_plain x)) grows.more grows.all }

-- no entry came, or one
pub plain_same : (es es2 : List Entry) → es2 ≡ es → GrowsPlainly es es2
plain_same es es2 same = rw same (plainly es es (grows_none is_plain es))

pub plain_one : (es es2 : List Entry) (x : Entry) → es2 ≡ es ++ x ∷ [] → is_plain x ≡ true → GrowsPlainly es es2
plain_one es es2 x is plain = rw is (plainly es (es ++ x ∷ []) (grows_one is_plain es x plain))

-- nothing has changed, of a client that found the queue full or not
pub still_grows : (full : Option (Mark × ℕ)) (c c2 : CoreView) → c2 ≡ c → GrowsBy full c c2
still_grows None c c2 same = plain_same c.entries c2.entries (ap (λ (v : CoreView). v.entries) same)
still_grows (Some full) c c2 same = inl same

-- of one that didn't
pub plain_grows : (full : Option (Mark × ℕ)) (c c2 : CoreView) → full ≡ None → GrowsPlainly c.entries c2.entries → GrowsBy full c c2
plain_grows full c c2 none plain = rw none plain
