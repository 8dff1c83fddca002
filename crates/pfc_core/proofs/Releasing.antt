-- Pins that go back in order, and rights to read from disk.
use Rattle.std.proofs.Common.{◌≡◌, ℕ, zero, suc, ◌+◌, ◌<◌, ◌≤◌, List, [], ◌∷◌, ◌++◌, refl, ap, ◌∙◌, sym, subst, arith, Bool, true, false, if◌then◌else◌}
use Rattle.std.specs.Prelude.{sum_by, reverse}
use Rattle.std.proofs.lemmas.List.{reverse-append}
use Rattle.std.proofs.lemmas.List.Sums.{sum_by-cons, sum_by_push}
use Rattle.pfc_log.specs.declared.entry.Entry.{Entry}
use Rattle.pfc_log.specs.declared.entry.Entry.TheVariants.{Left}
use Rattle.pfc_core.specs.Marks.{Mark, sees, listed}
use Rattle.pfc_core.specs.Leaves.{leaves}
use Rattle.pfc_core.specs.View.{CoreView}
use Rattle.pfc_core.specs.Calls.{Unpins}
use Rattle.pfc_core.specs.Disks.{EndsDisk}
use Rattle.pfc_core.specs.Finishes.{Releases, ReleasesAll, ReleasesDisk, ReleasesDisks}
use Rattle.pfc_core.proofs.Tied.{by_bool}
use Rattle.pfc_core.proofs.Weights.{same_self}

pub sees_self : (m : Mark) → sees m m ≡ 1
sees_self m = ap {B = ℕ} (λ (q : Bool). if q then 1 else 0) (same_self m)

pub releases_of : (old : CoreView) (p : Mark) (new : CoreView) (r : Bool) → (r ≡ true → Unpins old p new) → (r ≡ false → listed p old.out ≡ 0) → (r ≡ false → new ≡ old) → Releases old p new
releases_of old p new r taken out same = by_bool r
    (λ y. record { known = λ some. taken y; strange = λ none. let loses = (taken y).loses (sees p) in absurd (omega (arith, none, loses, sees_self p)) })
    (λ n. record { known = λ some. absurd (omega (arith, some, out n)); strange = λ none. same n })

pub releases_more : (old : CoreView) (pins : List Mark) (p : Mark) (mid new : CoreView) → ReleasesAll old pins mid → Releases mid p new → ReleasesAll old (pins ++ p ∷ []) new
releases_more old [] p mid new is then_p = (new, subst (λ (v : CoreView). Releases v p new) is then_p, refl)
releases_more old (q ∷ pins) p mid new all then_p = (all.0, all.1, releases_more all.0 pins p mid new all.2 then_p)

-- a pin is listed or it is not
pub either_way : {C : Type 0} (n : ℕ) → (0 < n → C) → (n ≡ 0 → C) → C
either_way zero some none = none refl
either_way (suc n) some none = some (omega arith)

kept_by : (old : CoreView) (p : Mark) (new : CoreView) → Releases old p new → new ≡ record old { entries = new.entries; out = new.out }
kept_by old p new one = either_way (listed p old.out)
    (λ some. let is = (one.known some).enters in is ∙ ap (λ (es : List Entry). record old { entries = es; out = new.out }) (sym (ap (λ (v : CoreView). v.entries) is)))
    (λ none. let is = one.strange none in is ∙ ap (λ (v : CoreView). record old { entries = v.entries; out = v.out }) (sym is))

-- nothing changes but the entries and what is out
pub all_kept : (old : CoreView) (pins : List Mark) (new : CoreView) → ReleasesAll old pins new → new ≡ record old { entries = new.entries; out = new.out }
all_kept old [] new is = is ∙ ap (λ (v : CoreView). record old { entries = v.entries; out = v.out }) (sym is)
all_kept old (p ∷ pins) new all = all_kept all.0 pins new all.2 ∙ ap (λ (v : CoreView). record v { entries = new.entries; out = new.out }) (kept_by old p all.0 all.1)

-- where all are listed, all are taken out
pub all_known : (old : CoreView) (pins : List Mark) (new : CoreView) → ReleasesAll old pins new → ((m : Mark) → listed m pins ≤ listed m old.out) → (w : Mark → ℕ) → sum_by w new.out + sum_by w pins ≡ sum_by w old.out
all_known old [] new is within w = let e = ap (λ (v : CoreView). sum_by w v.out) is in omega (arith, e)
all_known old (p ∷ pins) new all within w =
    let some : 0 < listed p old.out = omega (arith, within p, sees_self p, sum_by-cons (sees p) p pins) in
    let loses = (all.1.known some).loses in
    let rest = all_known all.0 pins new all.2 (λ m. omega (arith, within m, loses (sees m), sum_by-cons (sees m) p pins)) w in
    omega (arith, rest, loses w, sum_by-cons w p pins)

weighs_left : (w : Entry → ℕ) (es : List Entry) (i : ℕ) (q : Bool) → w (Left i) ≡ 0 → sum_by w (if q then es ++ Left i ∷ [] else es) ≡ sum_by w es
weighs_left w es i true none = omega (arith, none, sum_by_push w es (Left i))
weighs_left w es i false none = refl

one_left : (old : CoreView) (p : Mark) (new : CoreView) → Releases old p new → (w : Entry → ℕ) → ((i : ℕ) → w (Left i) ≡ 0) → sum_by w new.entries ≡ sum_by w old.entries
one_left old p new one w none = either_way (listed p old.out)
    (λ some. ap (λ (v : CoreView). sum_by w v.entries) (one.known some).enters ∙ weighs_left w old.entries p.block (leaves old.entries old.out p.block p.flight) (none p.block))
    (λ out. ap (λ (v : CoreView). sum_by w v.entries) (one.strange out))

-- only blocks leave
pub all_left : (old : CoreView) (pins : List Mark) (new : CoreView) → ReleasesAll old pins new → (w : Entry → ℕ) → ((i : ℕ) → w (Left i) ≡ 0) → sum_by w new.entries ≡ sum_by w old.entries
all_left old [] new is w none = ap (λ (v : CoreView). sum_by w v.entries) is
all_left old (p ∷ pins) new all w none = all_left all.0 pins new all.2 w none ∙ one_left old p all.0 all.1 w none

pub ends_disk_of : (old : CoreView) (p : Mark) (new : CoreView) (r : Bool) → (r ≡ true → EndsDisk old p new) → (r ≡ false → listed p old.out ≡ 0) → (r ≡ false → new ≡ old) → ReleasesDisk old p new
ends_disk_of old p new r taken out same = by_bool r
    (λ y. record { known = λ some. taken y; strange = λ none. let loses = (taken y).loses (sees p) in absurd (omega (arith, none, loses, sees_self p)) })
    (λ n. record { known = λ some. absurd (omega (arith, some, out n)); strange = λ none. same n })

-- the last of a list that goes back from its end is the first
pub ends_first : (old : CoreView) (p : Mark) (rest : List Mark) (mid new : CoreView) → ReleasesDisk old p mid → ReleasesDisks mid (reverse rest) new → ReleasesDisks old (reverse (rest ++ p ∷ [])) new
ends_first old p rest mid new one then_rest =
    let all : ReleasesDisks old (p ∷ reverse rest) new = (mid, one, then_rest) in
    subst (λ (l : List Mark). ReleasesDisks old l new) (sym (reverse-append rest (p ∷ []))) all

disk_kept : (old : CoreView) (p : Mark) (new : CoreView) → ReleasesDisk old p new → new ≡ record old { entries = new.entries; out = new.out }
disk_kept old p new one = either_way (listed p old.out)
    (λ some. let is = (one.known some).rest in is ∙ ap (λ (es : List Entry). record old { entries = es; out = new.out }) (sym (ap (λ (v : CoreView). v.entries) is)))
    (λ none. let is = one.strange none in is ∙ ap (λ (v : CoreView). record old { entries = v.entries; out = v.out }) (sym is))

-- nothing changes but what is out
pub disks_kept : (old : CoreView) (disks : List Mark) (new : CoreView) → ReleasesDisks old disks new → new ≡ record old { entries = new.entries; out = new.out }
disks_kept old [] new is = is ∙ ap (λ (v : CoreView). record old { entries = v.entries; out = v.out }) (sym is)
disks_kept old (p ∷ disks) new all = disks_kept all.0 disks new all.2 ∙ ap (λ (v : CoreView). record v { entries = new.entries; out = new.out }) (disk_kept old p all.0 all.1)

pub disks_known : (old : CoreView) (disks : List Mark) (new : CoreView) → ReleasesDisks old disks new → ((m : Mark) → listed m disks ≤ listed m old.out) → (w : Mark → ℕ) → sum_by w new.out + sum_by w disks ≡ sum_by w old.out
disks_known old [] new is within w = let e = ap (λ (v : CoreView). sum_by w v.out) is in omega (arith, e)
disks_known old (p ∷ disks) new all within w =
    let some : 0 < listed p old.out = omega (arith, within p, sees_self p, sum_by-cons (sees p) p disks) in
    let loses = (all.1.known some).loses in
    let rest = disks_known all.0 disks new all.2 (λ m. omega (arith, within m, loses (sees m), sum_by-cons (sees m) p disks)) w in
    omega (arith, rest, loses w, sum_by-cons w p disks)

disk_entries : (old : CoreView) (p : Mark) (new : CoreView) → ReleasesDisk old p new → new.entries ≡ old.entries
disk_entries old p new one = either_way (listed p old.out)
    (λ some. ap (λ (v : CoreView). v.entries) (one.known some).rest)
    (λ none. ap (λ (v : CoreView). v.entries) (one.strange none))

-- and nothing is entered
pub disks_entries : (old : CoreView) (disks : List Mark) (new : CoreView) → ReleasesDisks old disks new → new.entries ≡ old.entries
disks_entries old [] new is = ap (λ (v : CoreView). v.entries) is
disks_entries old (p ∷ disks) new all = disks_entries all.0 disks new all.2 ∙ disk_entries old p all.0 all.1
