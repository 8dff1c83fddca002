-- What a store starts with, on a volume whose pairs were sound.
use Rattle.std.proofs.Common.{◌≡◌, ⊎_elim, ◌<◌, ◌+◌, ◌*◌, ℕ, Bool, true, false, List, Option, Some, None, IsTrue, length, drop, slice_index, slice_set, replicate, refl, sym, ◌∙◌, ap, subst, arith, length-drop}
use Rattle.std.specs.Prelude.{option_map}
use Rattle.std.proofs.lemmas.Bool.{false_from_ne_true, cases_lt}
use Rattle.std.proofs.lemmas.List.{length-take, length-set, length-replicate, get_or-take, get_or-drop, get_or-set_same, get_or-set_other, get_or-replicate, get_or_past}
use Rattle.pfc_base.specs.Block.{slice_of, block_of, count_of}
use Rattle.pfc_base.specs.BlockSet.{is_member}
use Rattle.pfc_base.specs.Cinfo.{Cinfo, Head, HoldsClaims, IsSound}
use Rattle.pfc_base.proofs.CinfoReading.{cinfo_in-is}
use Rattle.pfc_world.specs.Depot.{AllSound}
use Rattle.pfc_world.specs.Files.{Files, HasSize}
use Rattle.pfc_world.specs.Run.{Run}
use Rattle.pfc_world.specs.Disk.{Disk, IsImage, Firm, Loose, not_settled, is_left_over, StandsAt}
use Rattle.pfc_world.specs.Info.{Info, IsMain}
use Rattle.pfc_world.proofs.Disks.{left_loose, reads_image, shown_main}
use Rattle.pfc_store.specs.Blocks.{OfFile, HasBlocks, OnPlaces, HasStored}
use Rattle.pfc_store.specs.Claims.{Says, MainBetween, WithinNow}
use Rattle.pfc_store.specs.Opens.{IsOurs, Restarts}
use Rattle.pfc_store.specs.Volume.{KeepsImages, Judges}

-- ---- what stands in each image stands there for good

module _ (file : List ℕ) (k : ℕ) (blocks : List Bool) (disk : Disk) (each : (image : List ℕ) → IsImage disk image → HasBlocks file k blocks image) where
  it_stands : HasBlocks file k blocks disk.reads
  it_stands = each disk.reads (reads_image disk)

  -- an image with another byte at a place that isn't settled
  turned : (p : ℕ) → p < length disk.reads → Loose disk p → IsImage disk (slice_set disk.reads p (slice_index disk.reads p + 1))
  turned p below loose = record {
    long = λ q q_below _. omega (arith, length-set disk.reads p (slice_index disk.reads p + 1));
    kept = λ q q_below firm. get_or-set_other disk.reads p q (slice_index disk.reads p + 1) 0 (λ same. let e : true ≡ false = sym loose ∙ ap (λ r. not_settled (disk.places r)) (sym same) ∙ firm in cc);
    past = λ q past q_below. absurd (omega (arith, length-set disk.reads p (slice_index disk.reads p + 1)));
  }

  it_is_settled : OnPlaces file k blocks (Firm disk)
  it_is_settled i p in_blocks p_in = false_from_ne_true (not_settled (disk.places (i * k + p))) (λ loose.
      let below = (it_stands i in_blocks).room p p_in in
      let here = (it_stands i in_blocks).same p p_in in
      let there = (each _ (turned (i * k + p) below loose) i in_blocks).same p p_in in
      let now : slice_index (slice_set disk.reads (i * k + p) (slice_index disk.reads (i * k + p) + 1)) (i * k + p) ≡ slice_index disk.reads (i * k + p) + 1 = get_or-set_same disk.reads (i * k + p) (slice_index disk.reads (i * k + p) + 1) 0 below in
      omega (arith, here, there, now))

pub opened : (file : List ℕ) (k : ℕ) (blocks written : List Bool) (disk : Disk) → written ≡ blocks → ((image : List ℕ) → IsImage disk image → HasBlocks file k blocks image) → HasStored file k blocks written true disk
opened file k blocks written disk same each = record {
  stands = it_stands file k blocks disk each;
  settled = it_is_settled file k blocks disk each;
  reads = λ _. subst (λ s. HasBlocks file k s disk.reads) (sym same) (it_stands file k blocks disk each);
  renewed = λ _ i p in_written p_in. false_from_ne_true (is_left_over (disk.places (i * k + p))) (λ left.
      let e : true ≡ false = sym (left_loose disk (i * k + p) left) ∙ it_is_settled file k blocks disk each i p (subst (λ s. is_member s i ≡ true) same in_written) p_in in cc);
}

-- ---- what the main file claims

-- a slice that is right
stands_of : (list : List ℕ) (at : ℕ) (bytes : List ℕ) → slice_of list at (length bytes) ≡ bytes → StandsAt at bytes list
stands_of list at bytes same = record {
  room = λ p p_in. omega (arith, ap length same, length-take (length bytes) (drop at list), length-drop at list);
  same = λ p p_in. sym (get_or-take (length bytes) (drop at list) p 0 p_in ∙ get_or-drop at list p 0) ∙ ap (λ (l : List ℕ). slice_index l p) same;
}

held_of : (shown : Option (List ℕ)) (c : Cinfo) (image file : List ℕ) → Says shown c → IsSound image shown file → c.size ≡ length file → HoldsClaims image c file
held_of None c image file says sound its_size = absurd says
held_of (Some bytes) c image file says sound its_size = sound.held bytes c refl says its_size

none_in : (n i : ℕ) → is_member (replicate n false) i ≡ false
none_in n i = ⊎_elim (λ below. get_or-replicate n i false false below) (λ past. get_or_past (replicate n false) i false (omega (arith, past, length-replicate {A = Bool} n false))) (cases_lt i n)

-- of what the store starts with, each image has each block
pub restart_stands : (told tells : Bool) (files : Files) (path : List ℕ) (size k created : ℕ) (head : Head) (claims : List Bool) (disk disk_now : Run Disk) (info info_now : Run Info)
    → HasSize told files path size → (IsTrue tells → KeepsImages disk disk_now) → (IsTrue told → IsTrue tells → AllSound files path (IsImage disk.now) (IsMain info.now))
    → (IsTrue tells → Restarts size k created info.now.shown head claims info_now.now)
    → OfFile told files path (λ file. IsTrue tells → (image : List ℕ) → IsImage disk_now.now image → HasBlocks file k claims image)
restart_stands told tells files path size k created head claims disk disk_now info info_now sized images sound restarts is_told file is is_tells image is_image i in_claims = ⊎_elim
    (λ kept.
    let c : Cinfo = record { block = k; size = size; head = head; claims = claims } in
    let some : Some (length file) ≡ Some size = ap (option_map length) (sym is) ∙ sized is_told in
    let long : size ≡ length file = cc in
    stands_of image (i * k) (block_of file k i) (held_of info.now.shown c image file kept.says (sound is_told is_tells file is image info.now.shown ((images is_tells).now image is_image) (shown_main info.now)) long i in_claims))
    (λ fresh. let e : true ≡ false = sym in_claims ∙ ap (λ s. is_member s i) fresh.claims_is ∙ none_in (count_of size k) i in absurd (cc))
    (restarts is_tells)

between_same : (size k : ℕ) (head : Head) (claims : List Bool) (main : Option (List ℕ)) → Says main (record { block = k; size = size; head = head; claims = claims }) → MainBetween size k claims claims main
between_same size k head claims None says = absurd says
between_same size k head claims (Some bytes) says = (record { block = k; size = size; head = head; claims = claims }, says, record { size_is = refl; block_is = refl; contain = λ i in_claims. in_claims; within = λ i in_claims. in_claims })

-- each main file claims exactly that
pub restart_within : (size k created : ℕ) (head : Head) (claims : List Bool) (shown : Option (List ℕ)) (info : Info) → Restarts size k created shown head claims info → WithinNow size k claims claims info
restart_within size k created head claims shown info restarts main is_main = ⊎_elim
    (λ kept. subst (MainBetween size k claims claims) (sym (kept.only main is_main)) (between_same size k head claims shown kept.says))
    (λ fresh. subst (MainBetween size k claims claims) (sym (fresh.gone main is_main)) (λ i. ap (λ s. is_member s i) fresh.claims_is ∙ none_in (count_of size k) i))
    restarts

-- ---- what is found

says_one : (shown : Option (List ℕ)) (c d : Cinfo) → Says shown c → Says shown d → c ≡ d
says_one None c d says other = absurd says
says_one (Some bytes) c d says other = cinfo_in-is bytes c says ∙ sym (cinfo_in-is bytes d other)

-- what wasn't to be kept of what was found isn't to be kept of the main file
pub not_ours : (size k : ℕ) (shown : Option (List ℕ)) (info : Info) (found : Option Cinfo) → Judges shown info found → ((c : Cinfo) → found ≡ Some c → c.size ≡ size → c.block ≡ k → ⊥) → ¬ IsOurs size k shown
not_ours size k shown info None judged unfit (c, says, size_is, block_is) = judged.2 c says
not_ours size k shown info (Some d) judged unfit (c, says, size_is, block_is) =
    let same : d ≡ c = says_one shown d c judged.2 says in
    unfit d refl (ap (λ (e : Cinfo). e.size) same ∙ size_is) (ap (λ (e : Cinfo). e.block) same ∙ block_is)
