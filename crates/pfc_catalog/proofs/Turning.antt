-- What the catalog is after a call, by path.
use Rattle.std.proofs.Common.{◌≡◌, ℕ, ◌+◌, ◌<◌, List, [], ◌∷◌, ◌++◌, Bool, true, Option, Some, None, refl, sym, ap, ◌∙◌, subst, cond}
use Rattle.std.specs.Prelude.{slice_get, option_and_then, unwrap_or, if◌then◌else◌}
use Rattle.std.specs.List.{IsDistinct}
use Rattle.std.specs.Map.{keys_of, lookup}
use Rattle.std.proofs.lemmas.Cmp.{nat_list_eq_equiv}
use Rattle.std.proofs.lemmas.Map.Entries.{lookup_from_place}
use Rattle.std.proofs.lemmas.Option.{none-some}
use Rattle.indexmap.specs.IndexMap.{set_value_at}
use Rattle.pfc_catalog.specs.declared.entry.Entry.{Entry}
use Rattle.pfc_catalog.specs.declared.entry.State.TheVariants.{Opening, Live}
use Rattle.pfc_catalog.specs.declared.catalog.Entered.TheVariants.{Join, New}
use Rattle.pfc_catalog.specs.declared.entry.State.TheVariants as states
use Rattle.pfc_catalog.specs.declared.catalog.Victim.TheVariants.{Take}
use Rattle.pfc_catalog.specs.Purge.{IsFirst, Takes}
use Rattle.pfc_catalog.specs.Entry.{is_home, with_state, fresh, capped, shell_of}
use Rattle.pfc_catalog.specs.Files.{same_path, entry_at}
use Rattle.pfc_catalog.specs.Shells.{holder, is_shell}
use Rattle.pfc_catalog.specs.View.{CatalogView}
use Rattle.pfc_catalog.specs.Catalog.{put, usage_of, Turned, Turns, Enters, drawn, entry_or_fresh}
use Rattle.pfc_catalog.proofs.Places.{by_bool, set_is_put}

abbrev with_entries : CatalogView → List (List ℕ × Entry) → CatalogView
with_entries c fs = record { entries = fs; next = c.next }

-- a file at a place is the one at its path
pub at-path : (fs : List (List ℕ × Entry)) (place : ℕ) (path : List ℕ) (was : Entry) → IsDistinct same_path (keys_of fs) → slice_get fs place ≡ Some (path, was) → entry_at path fs ≡ Some was
at-path fs place path was distinct there = lookup_from_place nat_list_eq_equiv fs place path was distinct there

-- a file was changed
pub turns : (move : Entry → Option Entry) (old new : CatalogView) (path : List ℕ) (place : ℕ) (was e : Entry) → IsDistinct same_path (keys_of old.entries)
    → slice_get old.entries place ≡ Some (path, was) → move was ≡ Some e → new ≡ with_entries old (set_value_at old.entries place e) → Turns move path old true new
turns move old new path place was e distinct there moves is =
    let found : option_and_then move (entry_at path old.entries) ≡ Some e = ap (option_and_then move) (at-path old.entries place path was distinct there) ∙ moves in
    subst (λ (o : Option Entry). Turned o path old true new) (sym found)
    (refl, is ∙ ap (with_entries old) (set_is_put old.entries place path was e distinct there))

-- a file got a shell
pub enters-new : (old new : CatalogView) (path : List ℕ) (place : ℕ) (was : Entry) (shell instance : ℕ) → IsDistinct same_path (keys_of old.entries)
    → slice_get old.entries place ≡ Some (path, was) → is_home was.state ≡ true → shell < 256 → holder shell old.entries ≡ None → instance ≡ old.next
    → new ≡ drawn (with_entries old (set_value_at old.entries place (with_state (Opening shell instance) was))) → Enters path old (New shell instance) new
enters-new old new path place was shell instance distinct there home low free number is =
    let found : entry_or_fresh path old.entries ≡ was = ap (λ (o : Option Entry). unwrap_or o fresh) (at-path old.entries place path was distinct there) in
    let e = with_state (Opening shell instance) was in (
      ap (λ (x : Entry). is_home x.state) found ∙ home,
      low,
      free,
      number,
      is ∙ ap (λ (fs : List (List ℕ × Entry)). drawn (with_entries old fs)) (set_is_put old.entries place path was e distinct there)
          ∙ ap (λ (x : Entry). drawn (with_entries old (put path (with_state (Opening shell instance) x) old.entries))) (sym found),
    )

holder-push : (s : ℕ) (fs : List (List ℕ × Entry)) (f : List ℕ × Entry) → holder s (fs ++ f ∷ []) ≡ None → holder s fs ≡ None
holder-push s [] f h = refl
holder-push s (g ∷ gs) f h =
    by_bool (is_shell s (shell_of g.1.state))
    (λ yes. absurd (none-some g.0 (sym h ∙ ap (λ (b : Bool). if b then Some g.0 else holder s (gs ++ f ∷ [])) yes)))
    (λ no. ap (λ (b : Bool). if b then Some g.0 else holder s gs) no ∙ holder-push s gs f (sym (ap (λ (b : Bool). if b then Some g.0 else holder s (gs ++ f ∷ [])) no) ∙ h))

put-pushed : (fs : List (List ℕ × Entry)) (path : List ℕ) (v e : Entry) → entry_at path fs ≡ None → put path e (fs ++ (path, v) ∷ []) ≡ put path e fs
put-pushed [] path v e none = ap (λ (b : Bool). if b then (path, e) ∷ [] else (path, v) ∷ (path, e) ∷ []) (nat_list_eq_equiv.refl path)
put-pushed (g ∷ gs) path v e none =
    by_bool (same_path path g.0)
    (λ yes. absurd (none-some g.1 (sym none ∙ ap (λ (b : Bool). cond b (Some g.1) (lookup (same_path path) gs)) yes)))
    (λ no.
    let rest : lookup (same_path path) gs ≡ None = sym (ap (λ (b : Bool). cond b (Some g.1) (lookup (same_path path) gs)) no) ∙ none in
    ap (λ (b : Bool). if b then (g.0, e) ∷ (gs ++ (path, v) ∷ []) else g ∷ put path e (gs ++ (path, v) ∷ [])) no
    ∙ ap (λ (l : List (List ℕ × Entry)). g ∷ l) (put-pushed gs path v e rest)
    ∙ sym (ap (λ (b : Bool). if b then (g.0, e) ∷ gs else g ∷ put path e gs) no))

found-pushed : (fs : List (List ℕ × Entry)) (path : List ℕ) (v : Entry) → entry_at path fs ≡ None → entry_at path (fs ++ (path, v) ∷ []) ≡ Some v
found-pushed [] path v none = ap (λ (b : Bool). cond b (Some v) None) (nat_list_eq_equiv.refl path)
found-pushed (g ∷ gs) path v none =
    by_bool (same_path path g.0)
    (λ yes. absurd (none-some g.1 (sym none ∙ ap (λ (b : Bool). cond b (Some g.1) (lookup (same_path path) gs)) yes)))
    (λ no.
    let rest : lookup (same_path path) gs ≡ None = sym (ap (λ (b : Bool). cond b (Some g.1) (lookup (same_path path) gs)) no) ∙ none in
    ap (λ (b : Bool). cond b (Some g.1) (lookup (same_path path) (gs ++ (path, v) ∷ []))) no ∙ found-pushed gs path v rest)

-- a file that wasn't there came in and got a shell
pub enters-pushed : (old new : CatalogView) (path : List ℕ) (shell instance : ℕ) → entry_at path old.entries ≡ None
    → Enters path (with_entries old (old.entries ++ (path, fresh) ∷ [])) (New shell instance) new → Enters path old (New shell instance) new
enters-pushed old new path shell instance none h =
    let one : entry_or_fresh path (old.entries ++ (path, fresh) ∷ []) ≡ fresh = ap (λ (o : Option Entry). unwrap_or o fresh) (found-pushed old.entries path fresh none) in
    let two : entry_or_fresh path old.entries ≡ fresh = ap (λ (o : Option Entry). unwrap_or o fresh) none in
    let e = with_state (Opening shell instance) in (
      ap (λ (x : Entry). is_home x.state) two,
      h.1,
      holder-push shell old.entries (path, fresh) h.2,
      h.3,
      h.4 ∙ ap (λ (x : Entry). drawn (with_entries old (put path (e x) (old.entries ++ (path, fresh) ∷ [])))) one
          ∙ ap (λ (fs : List (List ℕ × Entry)). drawn (with_entries old fs)) (put-pushed old.entries path fresh (e fresh) none)
          ∙ ap (λ (x : Entry). drawn (with_entries old (put path (e x) old.entries))) (sym two),
    )

-- an open file got one descriptor more
pub enters-join : (old new : CatalogView) (path : List ℕ) (place : ℕ) (was : Entry) (shell instance count : ℕ) → IsDistinct same_path (keys_of old.entries)
    → slice_get old.entries place ≡ Some (path, was) → was.state ≡ Live shell instance count
    → new ≡ with_entries old (set_value_at old.entries place (with_state (Live shell instance (capped (count + 1))) was)) → Enters path old (Join shell instance) new
enters-join old new path place was shell instance count distinct there live is = (
  was,
  count,
  at-path old.entries place path was distinct there,
  live,
  is ∙ ap (with_entries old) (set_is_put old.entries place path was (with_state (Live shell instance (capped (count + 1))) was) distinct there),
)

pub holder-pushed : (s : ℕ) (fs : List (List ℕ × Entry)) (f : List ℕ × Entry) → shell_of f.1.state ≡ None → holder s fs ≡ None → holder s (fs ++ f ∷ []) ≡ None
holder-pushed s [] f none h = ap (λ (o : Option ℕ). if is_shell s o then Some f.0 else None) none
holder-pushed s (g ∷ gs) f none h =
    by_bool (is_shell s (shell_of g.1.state))
    (λ yes. absurd (none-some g.0 (sym h ∙ ap (λ (b : Bool). if b then Some g.0 else holder s gs) yes)))
    (λ no. ap (λ (b : Bool). if b then Some g.0 else holder s (gs ++ f ∷ [])) no ∙ holder-pushed s gs f none (sym (ap (λ (b : Bool). if b then Some g.0 else holder s gs) no) ∙ h))

-- a purge takes a file
pub takes : (low : ℕ) (old new : CatalogView) (path : List ℕ) (place : ℕ) (was : Entry) → low < usage_of old.entries → IsDistinct same_path (keys_of old.entries)
    → slice_get old.entries place ≡ Some (path, was) → IsFirst old.entries path was
    → new ≡ with_entries old (set_value_at old.entries place (with_state states.Victim was)) → Takes low old (Take path) new
takes low old new path place was above distinct there first is =
    (above, was, first, is ∙ ap (with_entries old) (set_is_put old.entries place path was (with_state states.Victim was) distinct there))
