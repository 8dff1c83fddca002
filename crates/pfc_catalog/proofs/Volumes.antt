-- A volume that is taken from a depot, read, and put back.
use Rattle.std.proofs.Common.{◌≡◌, ◌≢◌, ◌↔◌, ◌⊎◌, inl, inr, ⊎_elim, ℕ, Bool, true, false, List, Option, Some, None, Result, Ok, Err, length, refl, sym, ap, ◌∙◌, subst, arith}
use Rattle.std.specs.Prelude.{IsTrue, IfOk, Contains}
use Rattle.std.specs.Bool.{Decides}
use Rattle.std.specs.Str.{bytes_eq}
use Rattle.std.proofs.lemmas.Slice.Eq.{bytes_eq-Decides}
use Rattle.pfc_base.specs.Cinfo.{Cinfo}
use Rattle.pfc_base.specs.declared.memory.Memory.{Memory}
use Rattle.pfc_cinfo.specs.Cinfo.{claimed_bytes}
use Rattle.pfc_access.specs.Records.{last_use}
use Rattle.pfc_world.specs.Depot.{AllSound, Fewer, FewerAtHome, Gains, Loses, SameElsewhere}
use Rattle.pfc_world.specs.Disk.{Disk, IsImage}
use Rattle.pfc_world.specs.Files.{Files}
use Rattle.pfc_world.specs.Info.{Info, IsMain}
use Rattle.pfc_world.specs.Run.{Run}
use Rattle.pfc_store.specs.Claims.{Says}
use Rattle.pfc_store.specs.Volume.{Finds, IsGone}
use Rattle.pfc_store.specs.declared.broken.SurveyRefusal.{SurveyRefusal}
use Rattle.pfc_store.specs.declared.broken.SurveyRefusal.TheVariants as refused
use Rattle.pfc_store.specs.declared.found.Found.{Found}
use Rattle.pfc_store.specs.declared.found.Found.TheVariants.{Valid, Cleared}
use Rattle.pfc_catalog.specs.declared.scanning.Looked.{Looked}
use Rattle.pfc_catalog.specs.Scan.{IsSoundAtHome, StaysOut, KeepsMains, IsCached, KeepsCached, Tells, Sees, Weighs}

decided : {P : Type 0} (r : Bool) → Decides r P → P ⊎ (P → ⊥)
decided true d = inl (d.0 refl)
decided false d = inr (λ x. let clash : false ≡ true = d.1 x in cc)

-- a path is this one or another
pub this_or_other : (path other : List ℕ) → (other ≡ path) ⊎ (other ≢ path)
this_or_other path other = decided (bytes_eq other path) (bytes_eq-Decides other path)

-- ---- what was read

pub when_told : {T E A : Type 0} (P : T → Type 0) (r : Result T E) → IfOk r (λ x. A → P x) → A → IfOk r P
when_told P (Ok x) all a = all a
when_told P (Err e) all a = tt

-- what a main file says is told of it
told_by : (main : Option (List ℕ)) (c : Cinfo) → Says main c → Tells main (claimed_bytes c) (last_use c.head.records)
told_by None c says = absurd says
told_by (Some bytes) c says = (c, says, refl, refl)

-- what was seen of a volume is what its main files say
pub sees_what_stands : (shown : Option (List ℕ)) (info : Info) (M : Option (List ℕ) → Type 0) (surveyed : Result Found SurveyRefusal) (result : Result Looked Memory) →
    IfOk surveyed (λ found. Finds shown info found) → Fewer (IsMain info) M → Weighs surveyed result → IfOk result (λ looked. Sees M looked)
sees_what_stands shown info M (Ok (Valid c)) result found fewer weighs =
    subst (λ r. IfOk r (λ looked. Sees M looked)) (sym weighs)
    (λ main is. subst (λ m. Tells m (claimed_bytes c) (last_use c.head.records)) (sym (found.1 main (fewer main is))) (told_by shown c found.0))
sees_what_stands shown info M (Ok Cleared) result found fewer weighs =
    subst (λ r. IfOk r (λ looked. Sees M looked)) (sym weighs)
    (λ main is. subst (λ m. Tells m 0 0) (sym (found.1 main (fewer main is))) (refl, refl))
sees_what_stands shown info M (Err (refused.Device broken)) result found fewer weighs = subst (λ r. IfOk r (λ looked. Sees M looked)) (sym weighs) tt
sees_what_stands shown info M (Err refused.Memory) result found fewer weighs = subst (λ r. IfOk r (λ looked. Sees M looked)) (sym weighs.1) tt

-- where each main file was a cinfo and none but those is left, the data is as it was
pub kept_by : {D : Type 0} (run : D → Run Disk) (first first_now : D) (info info_now : Info) → IsCached (IsMain info) → Fewer (IsMain info) (IsMain info_now) → (first_now ≡ first) ⊎ IsGone info_now →
    Fewer (IsImage (run first).now) (IsImage (run first_now).now)
kept_by run first first_now info info_now cached fewer (inl same) image is = subst (λ d. IsImage (run d).now image) same is
kept_by run first first_now info info_now cached fewer (inr gone) image is =
    let none : IsMain info_now None = subst (λ m. IsMain info_now m) (gone info_now.shown (inl refl)) (inl refl) in
    absurd (cached None (fewer None none)).1

-- ---- what is home

module _ (path : List ℕ) (D MidData NewData : List ℕ → List ℕ → Type 0) (M MidMain NewMain : List ℕ → Option (List ℕ) → Type 0) where
  pub elsewhere_on : SameElsewhere path D M MidData MidMain → SameElsewhere path MidData MidMain NewData NewMain → SameElsewhere path D M NewData NewMain
  elsewhere_on first second other apart = (
    (λ image. (λ is. ((first other apart).0 image).0 (((second other apart).0 image).0 is), λ was. ((second other apart).0 image).1 (((first other apart).0 image).1 was))),
    (λ main. (λ is. ((first other apart).1 main).0 (((second other apart).1 main).0 is), λ was. ((second other apart).1 main).1 (((first other apart).1 main).1 was))),
  )

module _ (path : List ℕ) (D NewData : List ℕ → List ℕ → Type 0) (M NewMain : List ℕ → Option (List ℕ) → Type 0) where
  -- each other path is as it was
  pub mains_at : ((main : Option (List ℕ)) → NewMain path main → M path main ⊎ (main ≡ None)) → SameElsewhere path D M NewData NewMain → KeepsMains M NewMain
  mains_at here rest other main = elim (this_or_other path other) [
    | inl same ↦ subst (λ (q : List ℕ). NewMain q main → M q main ⊎ (main ≡ None)) (sym same) (here main)
    | inr apart ↦ λ is. inl (((rest other apart).1 main).0 is)
  ]

  pub kept_at : (IsCached (M path) → Fewer (D path) (NewData path) × Fewer (M path) (NewMain path)) → SameElsewhere path D M NewData NewMain → KeepsCached D M NewData NewMain
  kept_at here rest other = elim (this_or_other path other) [
    | inl same ↦ subst (λ (q : List ℕ). IsCached (M q) → Fewer (D q) (NewData q) × Fewer (M q) (NewMain q)) (sym same) here
    | inr apart ↦ λ cached. ((λ image is. ((rest other apart).0 image).0 is), (λ main is. ((rest other apart).1 main).0 is))
  ]

  pub sound_at : (told told_data : Bool) (files : Files) → IsSoundAtHome told told_data files D M → (IsTrue told → IsTrue told_data → AllSound files path (NewData path) (NewMain path)) → (IsTrue told_data → SameElsewhere path D M NewData NewMain) → IsSoundAtHome told told_data files NewData NewMain
  sound_at told told_data files sound here rest t d other = elim (this_or_other path other) [
    | inl same ↦ subst (λ (q : List ℕ). AllSound files q (NewData q) (NewMain q)) (sym same) (here t d)
    | inr apart ↦ λ file is image main is_data is_main. sound t d other file is image main (((rest d other apart).0 image).0 is_data) (((rest d other apart).1 main).0 is_main)
  ]

module _ (D NewData : List ℕ → List ℕ → Type 0) (M NewMain : List ℕ → Option (List ℕ) → Type 0) where
  pub mains_fewer : FewerAtHome D M NewData NewMain → KeepsMains M NewMain
  mains_fewer fewer path main is = inl ((fewer path).1 main is)

  pub kept_fewer : FewerAtHome D M NewData NewMain → KeepsCached D M NewData NewMain
  kept_fewer fewer path cached = fewer path

  pub sound_fewer : (told told_data : Bool) (files : Files) → IsSoundAtHome told told_data files D M → (IsTrue told_data → FewerAtHome D M NewData NewMain) → IsSoundAtHome told told_data files NewData NewMain
  sound_fewer told told_data files sound fewer t d path file is image main is_data is_main = sound t d path file is image main ((fewer d path).0 image is_data) ((fewer d path).1 main is_main)

module _ (D MidData NewData : List ℕ → List ℕ → Type 0) (M MidMain NewMain : List ℕ → Option (List ℕ) → Type 0) where
  pub mains_on : KeepsMains M MidMain → KeepsMains MidMain NewMain → KeepsMains M NewMain
  mains_on first second path main is = ⊎_elim (λ was. first path main was) (λ none. inr none) (second path main is)

  pub kept_on : KeepsCached D M MidData MidMain → KeepsCached MidData MidMain NewData NewMain → KeepsCached D M NewData NewMain
  kept_on first second path cached =
      let early = first path cached in
      let late = second path (λ main is. cached main (early.1 main is)) in
      ((λ image is. early.0 image (late.0 image is)), (λ main is. early.1 main (late.1 main is)))

-- ---- what is out

pub nothing_out : (out out2 : List (List ℕ)) (lent lent2 : List ℕ → ℕ × ℕ) → out2 ≡ out → ((path : List ℕ) → lent2 path ≡ lent path) → StaysOut out lent out2 lent2
nothing_out out out2 lent lent2 same each = record {
  same = λ path. subst (λ (o : List (List ℕ)). Contains o path ↔ Contains out path) (sym same) (λ is. is, λ is. is);
  count = ap (λ (o : List (List ℕ)). length o) same;
  lent_is = λ path is. each path;
}

module _ (path : List ℕ) (out out1 out2 : List (List ℕ)) (lent lent1 lent2 : List ℕ → ℕ × ℕ) where
  -- nothing was taken
  pub not_taken : out2 ≡ out → lent2 path ≡ lent path → ((other : List ℕ) → other ≢ path → lent2 other ≡ lent other) → StaysOut out lent out2 lent2
  not_taken same here rest = record {
    same = λ other. subst (λ (o : List (List ℕ)). Contains o other ↔ Contains out other) (sym same) (λ is. is, λ is. is);
    count = ap (λ (o : List (List ℕ)). length o) same;
    lent_is = λ other is. elim (this_or_other path other) [
      | inl this ↦ subst (λ (q : List ℕ). lent2 q ≡ lent q) (sym this) here
      | inr apart ↦ rest other apart
    ];
  }

  -- what was taken came back
  pub taken_and_back : (Contains out path → ⊥) → Gains path out out1 → Loses path out1 out2 → ((other : List ℕ) → other ≢ path → lent1 other ≡ lent other) → ((other : List ℕ) → other ≢ path → lent2 other ≡ lent1 other) → StaysOut out lent out2 lent2
  taken_and_back home gains loses first second = record {
    same = λ other. elim (this_or_other path other) [
      | inl this ↦ subst (λ (q : List ℕ). Contains out2 q ↔ Contains out q) (sym this) (λ is. absurd (loses.gone is), λ is. absurd (home is))
      | inr apart ↦ (λ is. (gains.others other apart).0 ((loses.others other apart).0 is), λ is. (loses.others other apart).1 ((gains.others other apart).1 is))
    ];
    count = omega (arith, gains.count, loses.count);
    lent_is = λ other is. elim (this_or_other path other) [
      | inl this ↦ absurd (home (subst (λ (q : List ℕ). Contains out q) this is))
      | inr apart ↦ second other apart ∙ first other apart
    ];
  }

pub stays_on : (out out1 out2 : List (List ℕ)) (lent lent1 lent2 : List ℕ → ℕ × ℕ) → StaysOut out lent out1 lent1 → StaysOut out1 lent1 out2 lent2 → StaysOut out lent out2 lent2
stays_on out out1 out2 lent lent1 lent2 first second = record {
  same = λ path. (λ is. (first.same path).0 ((second.same path).0 is), λ is. (second.same path).1 ((first.same path).1 is));
  count = second.count ∙ first.count;
  lent_is = λ path is. second.lent_is path ((first.same path).1 is) ∙ first.lent_is path is;
}
