-- What one device keeps and what the other claims make a sound pair.
use Rattle.std.proofs.Common.{◌≡◌, ◌<◌, ◌*◌, ◌∷◌, ℕ, Bool, true, List, [], Option, Some, None, IsTrue, length, take, drop, refl, sym, ◌∙◌, ap, subst, arith, length-drop}
use Rattle.std.proofs.lemmas.List.{length-take, get_or-take, get_or-drop}
use Rattle.std.proofs.lemmas.Grind.{same_number_lists}
use Rattle.pfc_base.specs.Block.{slice_of, block_of}
use Rattle.pfc_base.specs.BlockSet.{is_member, IsWithin}
use Rattle.pfc_base.specs.Cinfo.{Cinfo, IsCinfo, IsSound}
use Rattle.pfc_base.proofs.CinfoReading.{cinfo_in-is}
use Rattle.pfc_world.specs.Files.{Files}
use Rattle.pfc_world.specs.Run.{Run, moment}
use Rattle.pfc_world.specs.Disk.{Disk, StandsAt}
use Rattle.pfc_world.specs.Info.{Info}
use Rattle.pfc_store.specs.Blocks.{OfFile, HasBlocks, SolidSince}
use Rattle.pfc_store.specs.Claims.{MainBetween, WithinSince}
use Rattle.pfc_store.specs.Moments.{StaysSound}
use Rattle.pfc_store.specs.Store.{FitTogether}
use Rattle.pfc_store.specs.Views.{DataView, InfoView, StoreView}

stands_slice : (list : List ℕ) (at : ℕ) (bytes : List ℕ) → StandsAt at bytes list → slice_of list at (length bytes) ≡ bytes
stands_slice list at [] stands = refl
stands_slice list at (b ∷ bytes) stands = same_number_lists _ (b ∷ bytes) long (λ p p_in. let inside : p < length (b ∷ bytes) = omega (arith, long) in get_or-take (length (b ∷ bytes)) (drop at list) p 0 inside ∙ get_or-drop at list p 0 ∙ stands.same p inside)
  where
    long : length (take (length (b ∷ bytes)) (drop at list)) ≡ length (b ∷ bytes)
    long = omega (arith, length-take (length (b ∷ bytes)) (drop at list), length-drop at list, stands.room (length bytes) (omega arith))

-- of one image with one main file
pub sound_of : (file : List ℕ) (size k : ℕ) (solid low high : List Bool) → IsWithin high solid → (image : List ℕ) (main : Option (List ℕ)) → HasBlocks file k solid image → MainBetween size k low high main → IsSound image main file
sound_of file size k solid low high nested image None has between = record { held = λ bytes c there. let e : None ≡ Some bytes = there in absurd (cc) }
sound_of file size k solid low high nested image (Some main) has (its, is, claims) = record {
  held = λ bytes c there says its_size i in_claims.
      let e : Some main ≡ Some bytes = there in
      let same_bytes : bytes ≡ main = cc in
      let same : its ≡ c = cinfo_in-is main its is ∙ sym (cinfo_in-is main c (subst (λ b. IsCinfo b c) same_bytes says)) in
      let its_k : k ≡ c.block = sym claims.block_is ∙ ap (λ (d : Cinfo). d.block) same in
      let in_solid : is_member solid i ≡ true = nested i (claims.within i (subst (λ (d : Cinfo). is_member d.claims i ≡ true) (sym same) in_claims)) in
      subst (λ b. slice_of image (i * b) (length (block_of file b i)) ≡ block_of file b i) its_k (stands_slice image (i * k) (block_of file k i) (has i in_solid));
}

pub stays_sound : {D I : Type 0} (told : Bool) (files : Files) (tells_data tells_info : Bool) (data_run : D → Run Disk) (info_run : I → Run Info) (old new : StoreView D I)
    → OfFile told files old.path (λ file. IsTrue tells_data → SolidSince file old.block_size old.durable (data_run new.first) (moment (data_run old.first)))
    → (IsTrue tells_info → WithinSince old.size old.block_size old.claimed old.durable (info_run new.second) (moment (info_run old.second)))
    → StaysSound told files tells_data tells_info data_run info_run old new
stays_sound told files tells_data tells_info data_run info_run old new solid claims = record {
  solid = solid;
  claims = claims;
  sound = λ is_told of_data of_info file is image main image_since main_since.
      sound_of file old.size old.block_size old.durable old.claimed old.durable (λ i in_durable. in_durable) image main (solid is_told file is of_data image image_since) (claims of_info main main_since);
}

-- claims that lie in what is due lie in what is durable
pub in_store : {D I : Type 0} (d : DataView D) (i : InfoView I) (run : Run Info) (t : ℕ) → FitTogether d i → WithinSince i.size i.block_size i.claimed i.due run t → WithinSince d.size d.block_size i.claimed d.durable run t
in_store d i run t fit within main since =
    subst (λ n. MainBetween n d.block_size i.claimed d.durable main) (sym fit.size_is) (subst (λ k. MainBetween i.size k i.claimed d.durable main) (sym fit.block_is) (widen main (within main since)))
  where
    widen : (main : Option (List ℕ)) → MainBetween i.size i.block_size i.claimed i.due main → MainBetween i.size i.block_size i.claimed d.durable main
    widen None so = so
    widen (Some bytes) so = (so.0, so.1, record { size_is = so.2.size_is; block_is = so.2.block_is; contain = so.2.contain; within = λ j in_claims. fit.due_in j (so.2.within j in_claims) })
