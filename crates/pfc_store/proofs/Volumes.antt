-- What a crash leaves of a volume that is settled, read and emptied.
use Rattle.std.proofs.Common.{◌≡◌, ◌⊎◌, inl, inr, ⊎_elim, ◌<◌, ℕ, Bool, true, false, List, Option, Some, None, length, sym, ◌∙◌, ap, subst, arith}
use Rattle.std.specs.Prelude.{MatchOption}
use Rattle.std.proofs.lemmas.List.{take_all}
use Rattle.pfc_base.specs.Cinfo.{Cinfo, IsCinfo, IsSound}
use Rattle.pfc_cinfo.proofs.Spelled.{cinfo-length}
use Rattle.pfc_world.specs.Depot.{AllSound}
use Rattle.pfc_world.specs.Files.{Files}
use Rattle.pfc_world.specs.Run.{Run, Goes, moment}
use Rattle.pfc_world.specs.Disk.{Disk, IsImage, ImageSince}
use Rattle.pfc_world.specs.Info.{Info, IsMain, MainSince, IsCut, IsCutOf, FewerMains, Settle, Remove}
use Rattle.pfc_world.proofs.Moments.{started, goes_on, follows_on, since, weaker}
use Rattle.pfc_store.specs.Claims.{Says}
use Rattle.pfc_store.specs.Moments.{SoundSince}
use Rattle.pfc_store.specs.Volume.{KeepsImages, KeepsMains, TakesMain, IsGone, SaysNothing, Judges}

-- ---- the calls

module _ (ok : Bool) (old new : Run Info) where
  pub settle_keeps : Goes (Settle ok) old new → KeepsMains old new
  settle_keeps goes = goes_on (λ info. FewerMains old.now info) (Settle ok) old old new (started (λ info. FewerMains old.now info) old (λ main is. is)) goes goes.does.fewer

  pub remove_takes : Goes (Remove ok) old new → TakesMain old new
  remove_takes goes = goes_on (λ info. (main : Option (List ℕ)) → IsMain info main → IsMain old.now main ⊎ (main ≡ None)) (Remove ok) old old new (started (λ info. (main : Option (List ℕ)) → IsMain info main → IsMain old.now main ⊎ (main ≡ None)) old (λ main is. inl is)) goes goes.does.either

-- a main file that was there is there or gone
pub keeps_takes : (old new : Run Info) → KeepsMains old new → TakesMain old new
keeps_takes old new keeps = weaker (λ info. FewerMains old.now info) (λ info. (main : Option (List ℕ)) → IsMain info main → IsMain old.now main ⊎ (main ≡ None)) old new (λ info fewer main is. inl (fewer main is)) keeps

-- settled, then taken away
pub keeps_then_takes : (old mid new : Run Info) → KeepsMains old mid → TakesMain mid new → TakesMain old new
keeps_then_takes old mid new keeps takes = follows_on OldOrGone old mid new (keeps_takes old mid keeps) (weaker MidOrGone OldOrGone mid new (λ info all main is. ⊎_elim (λ was. inl (keeps.now main was)) (λ gone. inr gone) (all main is)) takes)
  where
    OldOrGone : Info → Type 0
    OldOrGone info = (main : Option (List ℕ)) → IsMain info main → IsMain old.now main ⊎ (main ≡ None)

    MidOrGone : Info → Type 0
    MidOrGone info = (main : Option (List ℕ)) → IsMain info main → IsMain mid.now main ⊎ (main ≡ None)

-- ---- what is read

-- a front that is shorter than the cut is all
whole_front : (n : ℕ) (all front : List ℕ) → IsCut n all front → length front < n → all ≡ front
whole_front n all front cut short = sym (take_all (length front) all (omega (arith, cut.long))) ∙ cut.front

-- a front of what is shorter than the cut is all
whole_short : (n : ℕ) (all front : List ℕ) → IsCut n all front → length all < n → all ≡ front
whole_short n all front cut short = sym (take_all (length front) all (omega (arith, cut.long))) ∙ cut.front

-- what was read says what the main file says
pub says_whole : (shown read : Option (List ℕ)) (found : Option Cinfo) → IsCutOf 4194305 shown read → MatchOption found (SaysNothing read) (λ c. Says read c) → MatchOption found (SaysNothing shown) (λ c. Says shown c)
says_whole None None found cut says = says
says_whole None (Some front) found cut says = let e : true ≡ false = cut in absurd (cc)
says_whole (Some all) None found cut says = absurd cut
says_whole (Some all) (Some front) None cut says = λ c is. says c (subst (λ b. IsCinfo b c) (whole_short 4194305 all front cut (cinfo-length all c is)) is)
says_whole (Some all) (Some front) (Some c) cut says = subst (λ b. IsCinfo b c) (sym (whole_front 4194305 all front cut (cinfo-length front c says))) says

-- ---- pairs

-- what was one of before or is absent is sound where it was
sound_or_none : (image file : List ℕ) (main : Option (List ℕ)) (Was : Type 0) → Was ⊎ (main ≡ None) → (Was → IsSound image main file) → IsSound image main file
sound_or_none image file main Was either sound = ⊎_elim sound (λ none. record { held = λ bytes c there. let e : None ≡ Some bytes = sym none ∙ there in absurd (cc) }) either

-- the main file of before, or none, since
pub main_since : (old new : Run Info) → TakesMain old new → (main : Option (List ℕ)) → MainSince new (moment old) main → IsMain old.now main ⊎ (main ≡ None)
main_since old new takes main is = since IsMain (λ m. IsMain old.now m ⊎ (m ≡ None)) old new takes main is

pub image_since : (old new : Run Disk) → KeepsImages old new → (image : List ℕ) → ImageSince new (moment old) image → IsImage old.now image
image_since old new keeps image is = since IsImage (IsImage old.now) old new keeps image is

pub images_stay : (run : Run Disk) → KeepsImages run run
images_stay run = started (λ disk. (image : List ℕ) → IsImage disk image → IsImage run.now image) run (λ image is. is)

-- pairs of a volume whose images were all there before, and whose main files were there or are gone
pub sound_pairs : (files : Files) (path : List ℕ) (disk disk_now : Run Disk) (info info_now : Run Info) → KeepsImages disk disk_now → TakesMain info info_now
    → AllSound files path (IsImage disk.now) (IsMain info.now) → SoundSince files path disk disk_now info info_now
sound_pairs files path disk disk_now info info_now images mains sound file is image main is_image is_main =
    sound_or_none image file main (IsMain info.now main) (main_since info info_now mains main is_main) (sound file is image main (image_since disk disk_now images image is_image))

-- where no main file is left each pair is sound
pub sound_gone : (files : Files) (path : List ℕ) (P : List ℕ → Type 0) (run : Run Info) → IsGone run.now → AllSound files path P (MainSince run (moment run))
sound_gone files path P run gone file is image main is_image is_main =
    sound_or_none image file main ⊥ (inr (since IsMain (λ m. m ≡ None) run run (started (λ info. IsGone info) run gone) main is_main)) (λ no. absurd no)

-- pairs of the data of before with a main file since
pub sound_with_old : (files : Files) (path : List ℕ) (P : List ℕ → Type 0) (info info_now : Run Info) → TakesMain info info_now → AllSound files path P (IsMain info.now) → AllSound files path P (MainSince info_now (moment info))
sound_with_old files path P info info_now mains sound file is image main is_image is_main = sound_or_none image file main (IsMain info.now main) (main_since info info_now mains main is_main) (sound file is image main is_image)

-- pairs now, where the data is as it was or no main file is left
pub sound_in_order : {D : Type 0} (files : Files) (path : List ℕ) (run : D → Run Disk) (old new : D) (info info_now : Run Info) → TakesMain info info_now → (new ≡ old) ⊎ IsGone info_now.now
    → AllSound files path (IsImage (run old).now) (IsMain info.now) → AllSound files path (IsImage (run new).now) (IsMain info_now.now)
sound_in_order files path run old new info info_now mains order sound file is image main is_image is_main = ⊎_elim
    (λ same. sound_or_none image file main (IsMain info.now main) (mains.now main is_main) (λ was. sound file is image main (subst (λ d. IsImage (run d).now image) same is_image) was))
    (λ gone. sound_or_none image file main ⊥ (inr (gone main is_main)) (λ no. absurd no))
    order

-- what was read of a settled device
pub judged : (old mid new : Run Info) (found : Option Cinfo) → mid.now.shown ≡ old.now.shown → ((main : Option (List ℕ)) → IsMain mid.now main → main ≡ old.now.shown) → new ≡ mid → MatchOption found (SaysNothing mid.now.shown) (λ c. Says mid.now.shown c) → Judges old.now.shown new.now found
judged old mid new found shown one same says = (
  (λ main is. one main (subst (λ (r : Run Info). IsMain r.now main) same is)),
  (ap (λ (r : Run Info). r.now.shown) same ∙ shown),
  (subst (λ o. MatchOption found (SaysNothing o) (λ c. Says o c)) shown says),
)

pub mains_stay : (run : Run Info) → TakesMain run run
mains_stay run = started (λ info. (main : Option (List ℕ)) → IsMain info main → IsMain run.now main ⊎ (main ≡ None)) run (λ main is. inl is)

-- what was found says what is shown now
pub judged_now : (shown : Option (List ℕ)) (info : Info) (found : Option Cinfo) → Judges shown info found → Judges info.shown info found
judged_now shown info found judged = subst (λ s. Judges s info found) (sym judged.1) judged
