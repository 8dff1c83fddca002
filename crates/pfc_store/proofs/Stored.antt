-- What a disk keeps of a file's blocks when one more is written, and when it is synced.
use Rattle.std.proofs.Common.{◌≡◌, ◌≢◌, ◌⊎◌, inl, inr, ⊎_elim, ◌<◌, ◌≤◌, ◌+◌, ◌*◌, ℕ, Bool, true, false, List, Option, Some, None, IsTrue, length, take, drop, slice_index, slice_set, refl, sym, ◌∙◌, ap, subst, arith, length-drop}
use Rattle.std.proofs.Math.Nat.{mul-le-mul_right}
use Rattle.std.proofs.lemmas.Bool.{false_from_ne_true, cases_eq, cases_lt}
use Rattle.std.proofs.lemmas.List.{length-take, get_or-set_same, get_or-set_other, get_or-take, get_or-drop}
use Rattle.std.proofs.lemmas.Grind.{same_number_lists}
use Rattle.pfc_base.specs.Block.{slice_of, block_of, block_len_of}
use Rattle.pfc_base.specs.BlockSet.{is_member, IsWithin}
use Rattle.pfc_base.proofs.Lists.{take-length_take}
use Rattle.std.specs.Prelude.{IsSomeAnd, option_map, is_none}
use Rattle.pfc_world.specs.Files.{Files, file_at, HasSize, IsBlockOf, Holds}
use Rattle.pfc_world.specs.Run.{Run, Goes, moment}
use Rattle.pfc_world.specs.Disk.{Disk, IsImage, Firm, not_settled, is_left_over, StandsAt, LiesOutside, Read, Write, Sync}
use Rattle.pfc_world.proofs.Moments.{started, goes_on, since}
use Rattle.pfc_store.specs.declared.broken.Broken.{Broken}
use Rattle.pfc_store.specs.Blocks.{OfFile, HasBlocks, OnPlaces, SolidSince, HasStored}

pub block_fits : (file : List ℕ) (k i : ℕ) → length (block_of file k i) ≤ k
block_fits file k i = omega (arith, length-take k (drop (i * k) file))

-- a place of one block and the range of another
apart : (i j k p n : ℕ) → i ≢ j → p < k → n ≤ k → LiesOutside (j * k) (j * k + n) (i * k + p)
apart i j k p n other in_i in_j = ⊎_elim
    (λ (before : i < j). let h : (i + 1) * k ≤ j * k = mul-le-mul_right k (omega arith) in inl (omega (arith, row i k)))
    (λ (not_before : j ≤ i). let h : (j + 1) * k ≤ i * k = mul-le-mul_right k (omega arith) in inr (omega (arith, row j k)))
    (cases_lt i j)
  where
    row : (a b : ℕ) → (a + 1) * b ≡ a * b + b
    row a b = grind arith

both : {b : Bool} → b ≡ true → b ≡ false → ⊥
both t f = let e : true ≡ false = sym t ∙ f in cc

-- each image has the durable blocks
pub image_has : (file : List ℕ) (k : ℕ) (durable written : List Bool) (whole : Bool) (disk : Disk) → HasStored file k durable written whole disk → (x : List ℕ) → IsImage disk x → HasBlocks file k durable x
image_has file k durable written whole disk keeps x image i in_durable =
    let stands = keeps.stands i in_durable in
    record {
      room = λ p p_in. image.long (i * k + p) (stands.room p p_in) (keeps.settled i p in_durable p_in);
      same = λ p p_in. image.kept (i * k + p) (stands.room p p_in) (keeps.settled i p in_durable p_in) ∙ stands.same p p_in;
    }

module _ (file : List ℕ) (k j : ℕ) (ok : Bool) (old new : Disk) (write : Write (j * k) (block_of file k j) ok old new) where
  away : (i p : ℕ) → i ≢ j → p < length (block_of file k i) → LiesOutside (j * k) (j * k + length (block_of file k j)) (i * k + p)
  away i p other p_in = apart i j k p (length (block_of file k j)) other (omega (arith, block_fits file k i)) (block_fits file k j)

  others_stand : (i : ℕ) → i ≢ j → StandsAt (i * k) (block_of file k i) old.reads → StandsAt (i * k) (block_of file k i) new.reads
  others_stand i other stands = record {
    room = λ p p_in. omega (arith, stands.room p p_in, write.no_shorter);
    same = λ p p_in. write.stays (i * k + p) (stands.room p p_in) (away i p other p_in) ∙ stands.same p p_in;
  }

  others_settled : (i : ℕ) → i ≢ j → StandsAt (i * k) (block_of file k i) old.reads → (p : ℕ) → p < length (block_of file k i) → Firm old (i * k + p) → Firm new (i * k + p)
  others_settled i other stands p p_in was = false_from_ne_true (not_settled (new.places (i * k + p))) (λ now. ⊎_elim
      (λ loose. both loose was)
      (λ covered. let room = stands.room p p_in in ⊎_elim (λ before. omega (arith, covered.0)) (λ behind. omega (arith, covered.1)) (away i p other p_in))
      (write.loose (i * k + p) now))

  still_renewed : (q : ℕ) → is_left_over (old.places q) ≡ false → is_left_over (new.places q) ≡ false
  still_renewed q was = false_from_ne_true (is_left_over (new.places q)) (λ now. both (write.left q now).0 was)

module _ (file : List ℕ) (k j : ℕ) (durable written : List Bool) (old new : Disk)
    (nested : IsWithin durable written) (fresh : is_member written j ≡ false) (keeps : HasStored file k durable written true old) where
  other : (i : ℕ) → is_member written i ≡ true → i ≢ j
  other i in_written same = both (subst (λ m. is_member written m ≡ true) same in_written) fresh

  durable_stays : (ok : Bool) → Write (j * k) (block_of file k j) ok old new → HasBlocks file k durable new.reads × OnPlaces file k durable (Firm new)
  durable_stays ok write = (
    (λ i in_durable. others_stand file k j ok old new write i (other i (nested i in_durable)) (keeps.stands i in_durable)),
    (λ i p in_durable p_in. others_settled file k j ok old new write i (other i (nested i in_durable)) (keeps.stands i in_durable) p p_in (keeps.settled i p in_durable p_in)),
  )

  -- a write that failed
  pub write_broke : (ok : Bool) → Write (j * k) (block_of file k j) ok old new → HasStored file k durable written false new
  write_broke ok write = record {
    stands = (durable_stays ok write).0;
    settled = (durable_stays ok write).1;
    reads = λ e. let no : false ≡ true = e in cc;
    renewed = λ e. let no : false ≡ true = e in cc;
  }

  -- a write that was done
  pub write_done : Write (j * k) (block_of file k j) true old new → HasStored file k durable (slice_set written j true) true new
  write_done write = record {
    stands = (durable_stays true write).0;
    settled = (durable_stays true write).1;
    reads = λ _ i in_new. ⊎_elim
        (λ (same : i ≡ j). subst (λ m. StandsAt (m * k) (block_of file k m) new.reads) (sym same) (write.written refl))
        (λ (other_one : i ≢ j). others_stand file k j true old new write i other_one (keeps.reads refl i (was i other_one in_new)))
        (cases_eq i j);
    renewed = λ _ i p in_new p_in. ⊎_elim
        (λ (same : i ≡ j). let now_in : p < length (block_of file k j) = subst (λ m. p < length (block_of file k m)) same p_in in
        subst (λ m. is_left_over (new.places (m * k + p)) ≡ false) (sym same) (false_from_ne_true (is_left_over (new.places (j * k + p))) (λ now. ⊎_elim (λ before. omega arith) (λ behind. omega arith) ((write.left (j * k + p) now).1 refl))))
        (λ (other_one : i ≢ j). still_renewed file k j true old new write (i * k + p) (keeps.renewed refl i p (was i other_one in_new) p_in))
        (cases_eq i j);
  }
    where
      was : (i : ℕ) → i ≢ j → is_member (slice_set written j true) i ≡ true → is_member written i ≡ true
      was i other_one in_new = sym (get_or-set_other written j i true false other_one) ∙ in_new

-- more is in the set
pub within_set : (low high : List Bool) (j : ℕ) → j < length high → IsWithin low high → IsWithin low (slice_set high j true)
within_set low high j below within i in_low = ⊎_elim
    (λ (same : i ≡ j). subst (λ m. is_member (slice_set high j true) m ≡ true) (sym same) (get_or-set_same high j true false below))
    (λ (other_one : i ≢ j). get_or-set_other high j i true false other_one ∙ within i in_low)
    (cases_eq i j)

-- a sync
pub synced : (file : List ℕ) (k : ℕ) (durable written : List Bool) (old new : Disk) → HasStored file k durable written true old → Sync true old new → HasStored file k written written true new
synced file k durable written old new keeps sync = record {
  stands = stand;
  settled = λ i p in_written p_in. false_from_ne_true (not_settled (new.places (i * k + p))) (λ now. both (sync.settled refl (i * k + p) now) (keeps.renewed refl i p in_written p_in));
  reads = λ _. stand;
  renewed = λ _ i p in_written p_in. false_from_ne_true (is_left_over (new.places (i * k + p))) (λ now. both (sync.left refl (i * k + p) now) (keeps.renewed refl i p in_written p_in));
}
  where
    stand : HasBlocks file k written new.reads
    stand i in_written = subst (λ r. StandsAt (i * k) (block_of file k i) r) (sym sync.reads) (keeps.reads refl i in_written)

-- a sync that failed
pub sync_broke : (file : List ℕ) (k : ℕ) (durable written : List Bool) (whole ok : Bool) (old new : Disk) → HasStored file k durable written whole old → Sync ok old new → HasStored file k durable written false new
sync_broke file k durable written whole ok old new keeps sync = record {
  stands = λ i in_durable. subst (λ r. StandsAt (i * k) (block_of file k i) r) (sym sync.reads) (keeps.stands i in_durable);
  settled = λ i p in_durable p_in. false_from_ne_true (not_settled (new.places (i * k + p))) (λ now. both (sync.loose (i * k + p) now) (keeps.settled i p in_durable p_in));
  reads = λ e. let no : false ≡ true = e in cc;
  renewed = λ e. let no : false ≡ true = e in cc;
}

-- ---- at every moment

-- each image has these blocks
abbrev Has : List ℕ → ℕ → List Bool → Disk → Type 0
Has file k blocks disk = (x : List ℕ) → IsImage disk x → HasBlocks file k blocks x

-- what is so before a call and after it is so at each moment since
solid_over : (file : List ℕ) (k : ℕ) (durable : List Bool) (call : Disk → Disk → Type 0) (old new : Run Disk) → Has file k durable old.now → Has file k durable new.now → Goes call old new → SolidSince file k durable new (moment old)
solid_over file k durable call old new before after goes =
    since IsImage (HasBlocks file k durable) old new (goes_on (Has file k durable) call old old new (started (Has file k durable) old before) goes after)

-- no call was made
pub solid_now : (file : List ℕ) (k : ℕ) (durable written : List Bool) (whole : Bool) (run : Run Disk) → HasStored file k durable written whole run.now → SolidSince file k durable run (moment run)
solid_now file k durable written whole run keeps = since IsImage (HasBlocks file k durable) run run (started (Has file k durable) run (image_has file k durable written whole run.now keeps))

-- the bytes of a block that the origin told
pub whole_block : (file bytes : List ℕ) (size k i : ℕ) → length file ≡ size → length bytes ≡ block_len_of size k i → bytes ≡ slice_of file (i * k) (length bytes) → bytes ≡ block_of file k i
whole_block file bytes size k i its_size long same =
    same ∙ ap (λ n. take n (drop (i * k) file)) its_long ∙ take-length_take k (drop (i * k) file)
  where
    its_long : length bytes ≡ length (take k (drop (i * k) file))
    its_long = omega (arith, long, its_size, length-take k (drop (i * k) file), length-drop (i * k) file)

-- the bytes of a block of the path's file
pub block_bytes : (told : Bool) (files : Files) (path its_path bytes file : List ℕ) (size its_size k its_k i : ℕ) → HasSize told files path size → IsBlockOf its_size its_k i (length bytes) → Holds told files its_path (i * its_k) bytes
    → its_path ≡ path → its_size ≡ size → its_k ≡ k → IsTrue told → file_at files path ≡ Some file → bytes ≡ block_of file k i
block_bytes told files path its_path bytes file size its_size k its_k i sized whole right same_path same_size same_k is_told is =
    let here : file_at files its_path ≡ Some file = ap (file_at files) same_path ∙ is in
    let holds = subst (λ o. IsSomeAnd o (λ f. (i * its_k + length bytes ≤ length f) × (bytes ≡ slice_of f (i * its_k) (length bytes)))) here (right is_told) in
    let some : Some (length file) ≡ Some size = ap (option_map length) (sym is) ∙ sized is_told in
    let long : length file ≡ size = cc in
    subst (λ b. bytes ≡ block_of file b i) same_k (whole_block file bytes its_size its_k i (long ∙ sym same_size) whole.2 holds.1)

module _ (file : List ℕ) (k j at : ℕ) (bytes : List ℕ) (durable written : List Bool) (old new : Run Disk) (nested : IsWithin durable written) (place : at ≡ j * k) (same : bytes ≡ block_of file k j)
    (fresh : is_member written j ≡ false) (keeps : HasStored file k durable written true old.now) where
  block_write : (ok : Bool) → Write at bytes ok old.now new.now → Write (j * k) (block_of file k j) ok old.now new.now
  block_write ok write = subst (λ b. Write (j * k) b ok old.now new.now) same (subst (λ a. Write a bytes ok old.now new.now) place write)

  pub stored_done : Goes (Write at bytes true) old new → HasStored file k durable (slice_set written j true) true new.now
  stored_done goes = write_done file k j durable written old.now new.now nested fresh keeps (block_write true goes.does)

  pub stored_broke : Goes (Write at bytes false) old new → HasStored file k durable written false new.now
  stored_broke goes = write_broke file k j durable written old.now new.now nested fresh keeps false (block_write false goes.does)

  pub solid_done : Goes (Write at bytes true) old new → SolidSince file k durable new (moment old)
  solid_done goes = solid_over file k durable (Write at bytes true) old new (image_has file k durable written true old.now keeps) (image_has file k durable (slice_set written j true) true new.now (stored_done goes)) goes

  pub solid_broke : Goes (Write at bytes false) old new → SolidSince file k durable new (moment old)
  solid_broke goes = solid_over file k durable (Write at bytes false) old new (image_has file k durable written true old.now keeps) (image_has file k durable written false new.now (stored_broke goes)) goes

pub solid_synced : (file : List ℕ) (k : ℕ) (durable written : List Bool) (whole ok : Bool) (old new : Run Disk) → HasStored file k durable written whole old.now → Goes (Sync ok) old new → SolidSince file k durable new (moment old)
solid_synced file k durable written whole ok old new keeps goes = solid_over file k durable (Sync ok) old new (image_has file k durable written whole old.now keeps) (image_has file k durable written false new.now (sync_broke file k durable written whole ok old.now new.now keeps goes.does)) goes

has_file : (found : Option (List ℕ)) (size : ℕ) → option_map length found ≡ Some size → (file : List ℕ) × (found ≡ Some file)
has_file None size is = let e : None ≡ Some size = is in absurd (cc)
has_file (Some file) size is = (file, refl)

-- what was read of a block that stands on the disk
part_bytes : (file : List ℕ) (k i from : ℕ) (reads into : List ℕ) → StandsAt (i * k) (block_of file k i) reads → 0 < length into → from + length into ≤ length (block_of file k i) → i * k + from + length into ≤ length reads → into ≡ slice_of reads (i * k + from) (length into)
    → (i * k + from + length into ≤ length file) × (into ≡ slice_of file (i * k + from) (length into))
part_bytes file k i from reads into stands some inside read same = (fits, same_number_lists into (slice_of file (i * k + from) (length into)) long each)
  where
    fits : i * k + from + length into ≤ length file
    fits = omega (arith, length-take k (drop (i * k) file), length-drop (i * k) file)

    long : length into ≡ length (slice_of file (i * k + from) (length into))
    long = omega (arith, fits, length-take (length into) (drop (i * k + from) file), length-drop (i * k + from) file)

    each : (p : ℕ) → p < length into → slice_index into p ≡ slice_index (slice_of file (i * k + from) (length into)) p
    each p below =
        let inner : from + p < length (block_of file k i) = omega (arith, inside) in
        let inner_k : from + p < k = omega (arith, length-take k (drop (i * k) file)) in
        let shift : i * k + from + p ≡ i * k + (from + p) = omega arith in
        ap (λ (l : List ℕ). slice_index l p) same
        ∙ get_or-take (length into) (drop (i * k + from) reads) p 0 below ∙ get_or-drop (i * k + from) reads p 0
        ∙ ap (slice_index reads) shift ∙ stands.same (from + p) inner
        ∙ get_or-take k (drop (i * k) file) (from + p) 0 inner_k ∙ get_or-drop (i * k) file (from + p) 0
        ∙ sym (get_or-take (length into) (drop (i * k + from) file) p 0 below ∙ get_or-drop (i * k + from) file p 0 ∙ ap (slice_index file) shift)

-- a part of a block that a read may be asked for
pub part_holds : (told tells : Bool) (files : Files) (path : List ℕ) (size k i from : ℕ) (durable written : List Bool) (frozen : Option Broken) (run new : Run Disk) (into : List ℕ)
    → HasSize told files path size → OfFile told files path (λ file. IsTrue tells → HasStored file k durable written (is_none frozen) run.now)
    → is_member written i ≡ true → (frozen ≡ None) ⊎ (is_member durable i ≡ true)
    → 0 < length into → from + length into ≤ block_len_of size k i → IsTrue tells → Read (i * k + from) into true run new
    → Holds told files path (i * k + from) into
part_holds told tells files path size k i from durable written frozen run new into sized stored in_written may some inside is_tells read is_told =
    subst (λ o. IsSomeAnd o (λ file. (i * k + from + length into ≤ length file) × (into ≡ slice_of file (i * k + from) (length into)))) (sym found.1)
    (part_bytes file k i from run.now.reads into stands some (omega (arith, inside, long, length-take k (drop (i * k) file), length-drop (i * k) file)) (read.within refl) (read.bytes refl))
  where
    found : (file : List ℕ) × (file_at files path ≡ Some file)
    found = has_file (file_at files path) size (sized is_told)

    file : List ℕ
    file = found.0

    keeps : HasStored file k durable written (is_none frozen) run.now
    keeps = stored is_told file found.1 is_tells

    long : length file ≡ size
    long = let some : Some (length file) ≡ Some size = ap (option_map length) (sym found.1) ∙ sized is_told in cc

    stands : StandsAt (i * k) (block_of file k i) run.now.reads
    stands = ⊎_elim (λ none. keeps.reads (ap is_none none) i in_written) (λ in_durable. keeps.stands i in_durable) may
