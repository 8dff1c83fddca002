-- What the calls of an info device in memory leave, as the model sees it.
use Rattle.std.proofs.Common.{◌≡◌, ◌⊎◌, inl, inr, ⊎_elim, ◌-◌, ℕ, Bool, true, false, not, ◌||◌, List, length, [], ◌∷◌, ◌++◌, Option, Some, None, is_some, ap, refl, sym, ◌∙◌, arith, subst, get_or}
use Rattle.std.specs.Prelude.{Any, Vec, ◌↔◌}
use Rattle.std.specs.List.{list_any}
use Rattle.std.specs.declared.alloc.Global.{Global}
use Rattle.std.proofs.lemmas.Bool.{cases_lt, or_cases, or_left, or_right}
use Rattle.std.proofs.lemmas.List.{length-append, get_or_append_left, get_or-append_right}
use Rattle.std.proofs.lemmas.List.Quantifiers.{Any-push}
use Rattle.std.proofs.lemmas.List.Folds.{Any-from_list_any, list_any-from_Any}
use Rattle.pfc_world.specs.Info.{Info, IsMain, bytes_of, KeepsMain, WriteTemp, SyncTemp, Rename, Remove, Settle}
use Rattle.pfc_world.specs.Info as info
use Rattle.pfc_memory.specs.Mains.{mains_of, certain_of, uncertain_of, is_stable, KeepsMains, MayBe, Brings, MaySpoilTemp, MayRename, MayRemove, MayHaveMain}

false_true : false ≡ true → ⊥
false_true h = let e : true ≡ false = sym h in cc

not_both : (b : Bool) → b ≡ true → b ≡ false → ⊥
not_both b t f = let e : true ≡ false = sym t ∙ f in cc

none_there : {X : Type 0} (P : X → Type 0) → Any P [] → ⊥
none_there P any = omega (arith, any.2)

kept_push : {X : Type 0} (P : X → Type 0) (xs : List X) (y : X) → Any P xs → Any P (xs ++ y ∷ [])
kept_push P xs y any = (any.0, any.1, (let n = length-append xs (y ∷ []) in omega (arith, n, any.2)), get_or_append_left xs (y ∷ []) any.1 any.0 any.2 ∙ any.3, any.4)

of_push : {X : Type 0} (P : X → Type 0) (xs : List X) (y : X) → Any P (xs ++ y ∷ []) → Any P xs ⊎ P y
of_push P xs y any = ⊎_elim
    (λ l. inl (any.0, any.1, l, sym (get_or_append_left xs (y ∷ []) any.1 any.0 l) ∙ any.3, any.4))
    (λ r.
    let n = length-append xs (y ∷ []) in
    let e : any.0 ≡ length xs = omega (arith, n, r, any.2) in
    let zero_is : any.0 - length xs ≡ 0 = omega (arith, e) in
    let same : y ≡ any.1 = sym (get_or-append_right xs (y ∷ []) (length xs) any.0 any.1 refl r ∙ ap (λ k. get_or (y ∷ []) k any.1) zero_is) ∙ any.3 in
    inr (subst P (sym same) any.4))
    (cases_lt any.0 (length xs))

-- ---- a temporary

keeps_main : (old : Info) (temporary : info.Temporary) → KeepsMain old (record old { temporary = temporary })
keeps_main old temporary = record { shown = refl; fewer = λ main h. h; settled = λ h. h }

pub temp_written : (old : Info) (bytes : List ℕ) → WriteTemp bytes true old (record old { temporary = info.whole bytes })
temp_written old bytes = record { main = keeps_main old (info.whole bytes); written = λ _. refl }

pub temp_not_written : (old : Info) (bytes : List ℕ) (temporary : info.Temporary) → WriteTemp bytes false old (record old { temporary = temporary })
temp_not_written old bytes temporary = record { main = keeps_main old temporary; written = λ done. absurd (false_true done) }

pub temp_synced : (old : Info) (temporary : info.Temporary) → ((bytes : List ℕ) → old.temporary ≡ info.whole bytes → temporary ≡ info.stable bytes) → SyncTemp true old (record old { temporary = temporary })
temp_synced old temporary synced = record { main = keeps_main old temporary; stable = λ _. synced }

pub temp_not_synced : (old : Info) (temporary : info.Temporary) → SyncTemp false old (record old { temporary = temporary })
temp_not_synced old temporary = record { main = keeps_main old temporary; stable = λ done. absurd (false_true done) }

pub temp_spoilt : (old : Info) → MaySpoilTemp old (record old { temporary = info.ragged })
temp_spoilt old = record { keeps = λ main h. h; spoilt = refl }

-- ---- a main file that a crash leaves for certain

only_shown : (shown : Option (List ℕ)) (temporary : info.Temporary) (main : Option (List ℕ)) → IsMain (certain_of shown false temporary) main → main ≡ shown
only_shown shown temporary main (inl e) = e
only_shown shown temporary main (inr (inl any)) = absurd (none_there (λ other. main ≡ other) any)
only_shown shown temporary main (inr (inr torn)) = absurd (false_true torn.0)

stable_is : (temporary : info.Temporary) (bytes : List ℕ) → temporary ≡ info.stable bytes → not (is_stable temporary) ≡ false
stable_is temporary bytes e = ap (λ t. not (is_stable t)) e

pub rename_done : (old : Info) (bytes : List ℕ) → ((other : List ℕ) → old.temporary ≡ info.stable other → bytes ≡ other) → Rename true old (certain_of (Some bytes) (not (is_stable old.temporary)) info.ragged)
rename_done old bytes brought = record {
  done = λ _ other e main h. is_it other e main h;
  either = λ other e main h. inr (is_it other e main h);
  settled = λ _. refl;
}
  where
    is_it : (other : List ℕ) → old.temporary ≡ info.stable other → (main : Option (List ℕ)) → IsMain (certain_of (Some bytes) (not (is_stable old.temporary)) info.ragged) main → main ≡ Some other
    is_it other e main h = only_shown (Some bytes) info.ragged main (subst (λ torn. IsMain (certain_of (Some bytes) torn info.ragged) main) (stable_is old.temporary other e) h) ∙ ap Some (brought other e)

certain_brings : (temporary : info.Temporary) (bytes other : List ℕ) → ((other : List ℕ) → temporary ≡ info.stable other → bytes ≡ other) → MayBe temporary other → IsMain (certain_of (Some bytes) (not (is_stable temporary)) info.ragged) (Some other)
certain_brings info.ragged bytes other brought may = inr (inr (refl, refl))
certain_brings (info.whole b) bytes other brought may = inr (inr (refl, refl))
certain_brings (info.stable b) bytes other brought may = inl (ap Some (may ∙ sym (brought b refl)))

pub rename_brings : (old : Info) (bytes : List ℕ) → ((other : List ℕ) → old.temporary ≡ info.stable other → bytes ≡ other) → Brings old (certain_of (Some bytes) (not (is_stable old.temporary)) info.ragged)
rename_brings old bytes brought other may = certain_brings old.temporary bytes other brought may

pub remove_done : (old : Info) (temporary : info.Temporary) → Remove true old (certain_of None false temporary)
remove_done old temporary = record {
  done = λ _ main h. only_shown None temporary main h;
  either = λ main h. inr (only_shown None temporary main h);
  settled = λ _. refl;
}

pub settle_done : (old : Info) (temporary : info.Temporary) → Settle true old (certain_of old.shown false temporary)
settle_done old temporary = record {
  shown = refl;
  fewer = λ main h. inl (only_shown old.shown temporary main h);
  one = λ _ main h. only_shown old.shown temporary main h;
  settled = λ _. refl;
}

pub settle_failed : (old : Info) (temporary : info.Temporary) → Settle false old (record old { temporary = temporary })
settle_failed old temporary = record {
  shown = refl;
  fewer = λ main h. h;
  one = λ done. absurd (false_true done);
  settled = λ done. absurd (false_true done);
}

-- ---- a main file that may stand beside the old one

old_or_new : (old : Info) (shown : Option (List ℕ)) (torn : Bool) (temporary : info.Temporary) (main : Option (List ℕ)) → (torn ≡ true → old.torn ≡ true) →
    IsMain (uncertain_of old shown torn temporary) main → IsMain old main ⊎ (main ≡ shown)
old_or_new old shown torn temporary main was (inl e) = inr e
old_or_new old shown torn temporary main was (inr (inl any)) = ⊎_elim (λ l. inl (inr (inl l))) (λ r. inl (inl r)) (of_push (λ other. main ≡ other) old.others old.shown any)
old_or_new old shown torn temporary main was (inr (inr t)) = inl (inr (inr (was t.0, t.1)))

keeps_old : (old : Info) (shown : Option (List ℕ)) (torn : Bool) (temporary : info.Temporary) → (old.torn ≡ true → torn ≡ true) → KeepsMains old (uncertain_of old shown torn temporary)
keeps_old old shown torn temporary still main (inl e) = inr (inl (Any-push (λ other. main ≡ other) old.others old.shown e))
keeps_old old shown torn temporary still main (inr (inl any)) = inr (inl (kept_push (λ other. main ≡ other) old.others old.shown any))
keeps_old old shown torn temporary still main (inr (inr t)) = inr (inr (still t.0, t.1))

pub rename_failed : (old : Info) (bytes : List ℕ) → ((other : List ℕ) → old.temporary ≡ info.stable other → bytes ≡ other) → Rename false old (uncertain_of old (Some bytes) (old.torn || not (is_stable old.temporary)) info.ragged)
rename_failed old bytes brought = record {
  done = λ done. absurd (false_true done);
  either = λ other e main h. ⊎_elim (λ l. inl l) (λ r. inr (r ∙ ap Some (brought other e)))
      (old_or_new old (Some bytes) (old.torn || not (is_stable old.temporary)) info.ragged main (λ t. ⊎_elim (λ l. l) (λ r. absurd (not_both _ r (stable_is old.temporary other e))) (or_cases old.torn _ t)) h);
  settled = λ done. absurd (false_true done);
}

brings_of : (old : Info) (temporary : info.Temporary) (bytes other : List ℕ) → old.temporary ≡ temporary → ((other : List ℕ) → old.temporary ≡ info.stable other → bytes ≡ other) → MayBe temporary other → IsMain (uncertain_of old (Some bytes) (old.torn || not (is_stable temporary)) info.ragged) (Some other)
brings_of old info.ragged bytes other e brought may = inr (inr (or_right old.torn true refl, refl))
brings_of old (info.whole b) bytes other e brought may = inr (inr (or_right old.torn true refl, refl))
brings_of old (info.stable b) bytes other e brought may = inl (ap Some (may ∙ sym (brought b e)))

pub may_rename : (old : Info) (bytes : List ℕ) → ((other : List ℕ) → old.temporary ≡ info.stable other → bytes ≡ other) → MayRename old (uncertain_of old (Some bytes) (old.torn || not (is_stable old.temporary)) info.ragged)
may_rename old bytes brought = record {
  keeps = keeps_old old (Some bytes) (old.torn || not (is_stable old.temporary)) info.ragged (λ t. or_left old.torn _ t);
  brings = λ other may. brings_of old old.temporary bytes other refl brought may;
  unsettled = refl;
}

pub remove_failed : (old : Info) (temporary : info.Temporary) → Remove false old (uncertain_of old None old.torn temporary)
remove_failed old temporary = record {
  done = λ done. absurd (false_true done);
  either = λ main h. old_or_new old None old.torn temporary main (λ t. t) h;
  settled = λ done. absurd (false_true done);
}

pub may_remove : (old : Info) (temporary : info.Temporary) → MayRemove old (uncertain_of old None old.torn temporary)
may_remove old temporary = record {
  keeps = keeps_old old None old.torn temporary (λ t. t);
  none = inl refl;
  unsettled = refl;
}

-- ---- whether there may be a main file

pub any_there : (mains : List (Option (Vec ℕ Global))) → list_any is_some mains ≡ list_any is_some (mains_of mains)
any_there [] = refl
any_there (None ∷ mains) = any_there mains
any_there (Some bytes ∷ mains) = refl

pub torn_has : (state : Info) → state.torn ≡ true → MayHaveMain state
torn_has state torn = (Some [], inr (inr (torn, refl)), refl)

pub has_main : (state : Info) → state.torn ≡ false → ((is_some state.shown || list_any is_some state.others) ≡ true) ↔ MayHaveMain state
has_main state whole = (
  (λ h. ⊎_elim
      (λ l. (state.shown, inl refl, l))
      (λ r. let any = Any-from_list_any is_some state.others r in (any.1, inr (inl (any.0, any.1, any.2, any.3, refl)), any.4))
      (or_cases (is_some state.shown) _ h)),
  (λ may. back may.0 may.1 may.2),
)
  where
    back : (main : Option (List ℕ)) → IsMain state main → is_some main ≡ true → (is_some state.shown || list_any is_some state.others) ≡ true
    back main (inl e) some = or_left _ _ (subst (λ m. is_some m ≡ true) e some)
    back main (inr (inl any)) some = or_right (is_some state.shown) _ (list_any-from_Any is_some state.others (any.0, any.1, any.2, any.3, subst (λ m. is_some m ≡ true) any.4 some))
    back main (inr (inr t)) some = absurd (not_both _ t.0 whole)

-- ---- calls that change nothing

pub nothing_temp_written : (bytes : List ℕ) (state : Info) → WriteTemp bytes false state state
nothing_temp_written bytes state = temp_not_written state bytes state.temporary

pub nothing_temp_synced : (state : Info) → SyncTemp false state state
nothing_temp_synced state = temp_not_synced state state.temporary

pub nothing_renamed : (state : Info) → Rename false state state
nothing_renamed state = record { done = λ done. absurd (false_true done); either = λ other e main h. inl h; settled = λ done. absurd (false_true done) }

pub nothing_removed : (state : Info) → Remove false state state
nothing_removed state = record { done = λ done. absurd (false_true done); either = λ main h. inl h; settled = λ done. absurd (false_true done) }

pub nothing_settled : (state : Info) → Settle false state state
nothing_settled state = settle_failed state state.temporary

some_there : (main : Option (Vec ℕ Global)) → is_some (bytes_of main) ≡ is_some main
some_there None = refl
some_there (Some bytes) = refl

pub shown_has : (state : Info) (main : Option (Vec ℕ Global)) → state.shown ≡ bytes_of main → is_some main ≡ true → MayHaveMain state
shown_has state main shown some = (bytes_of main, inl (sym shown), some_there main ∙ some)

pub others_have : (state : Info) (main : Option (Vec ℕ Global)) (mains : List (Option (Vec ℕ Global))) (found : Bool) →
    state.torn ≡ false → state.shown ≡ bytes_of main → is_some main ≡ false → state.others ≡ mains_of mains → found ≡ list_any is_some mains → (found ≡ true) ↔ MayHaveMain state
others_have state main mains found whole shown none others is =
    let e : found ≡ (is_some state.shown || list_any is_some state.others) =
    is ∙ any_there mains ∙ ap (λ l. list_any is_some l) (sym others) ∙ sym (ap (λ b. b || list_any is_some state.others) (ap (λ m. is_some m) shown ∙ some_there main ∙ none)) in
    rw e (has_main state whole)
