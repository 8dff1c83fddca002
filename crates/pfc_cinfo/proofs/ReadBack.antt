-- Bytes that pass each test are the spelling of what is read from them.
use Rattle.std.proofs.Common.{◌≡◌, ℕ, zero, suc, ◌+◌, ◌-◌, ◌*◌, ◌/◌, ◌≤◌, Bool, true, List, ◌++◌, length, take, drop, refl, sym, ap, subst, ◌∙◌, arith, ◌&&◌, ◌==◌, take_all, take-append-drop}
use Rattle.std.specs.Prelude.{All}
use Rattle.std.specs.List.{flat_map}
use Rattle.std.proofs.lemmas.Bool.Decides.{nat_tests}
use Rattle.std.proofs.lemmas.List.{drop-drop, length-drop}
use Rattle.std.proofs.lemmas.List.Elements.{All-nil, All-cons}
use Rattle.std.proofs.lemmas.List.FromFn.{length-map-range_with_len}
use Rattle.pfc_base.specs.Block.{slice_of}
use Rattle.pfc_base.specs.BlockSet.{IsBitmap}
use Rattle.pfc_base.specs.Crc.{crc_of}
use Rattle.pfc_base.specs.Cinfo.{Cinfo, FitsRecord, FitsCinfo, four, header_of, record_of, records_of, summed, bitmap_in, IsCinfo, four_at, eight_at, record_in, records_in, has_bit, cinfo_in}
use Rattle.pfc_cinfo.specs.Damage.{blocks_in, bitmap_len_in, are_clear, Passes}
use Rattle.pfc_cinfo.proofs.Bytes.{IsBytes, IsBytes-drop, four_at-lt, eight_at-lt, four-back, eight-back, take-then}
use Rattle.pfc_cinfo.proofs.Bitmap.{IsBitmap-claims_in}
use Rattle.pfc_cinfo.proofs.Spelled.{length-records_in}

-- ---- the header

-- six parts of 40 bytes
header-parts : (xs : List ℕ) → take 4 (drop 0 xs) ++ take 8 (drop 4 xs) ++ take 8 (drop 12 xs) ++ take 8 (drop 20 xs) ++ take 8 (drop 28 xs) ++ take 4 (drop 36 xs) ≡ take 40 xs
header-parts xs =
    ap (λ (l : List ℕ). l ++ take 8 (drop 12 xs) ++ take 8 (drop 20 xs) ++ take 8 (drop 28 xs) ++ take 4 (drop 36 xs)) (take-then 4 8 xs)
    ∙ ap (λ (l : List ℕ). l ++ take 8 (drop 20 xs) ++ take 8 (drop 28 xs) ++ take 4 (drop 36 xs)) (take-then 12 8 xs)
    ∙ ap (λ (l : List ℕ). l ++ take 8 (drop 28 xs) ++ take 4 (drop 36 xs)) (take-then 20 8 xs)
    ∙ ap (λ (l : List ℕ). l ++ take 4 (drop 36 xs)) (take-then 28 8 xs)
    ∙ take-then 36 4 xs

header-back : (bytes : List ℕ) (c : Cinfo) → IsBytes bytes → 48 ≤ length bytes → 4 ≡ four_at bytes 0 → c.block ≡ eight_at bytes 4 → c.size ≡ eight_at bytes 12
    → c.head.created ≡ eight_at bytes 20 → c.head.accesses ≡ eight_at bytes 28 → length c.head.records ≡ four_at bytes 36 → header_of c ≡ take 40 bytes
unfolding header_of
header-back bytes c small long version block size created accesses count =
    let v = four-back bytes 0 4 small (omega arith) version in
    let b = eight-back bytes 4 c.block small (omega arith) block in
    let s = eight-back bytes 12 c.size small (omega arith) size in
    let m = eight-back bytes 20 c.head.created small (omega arith) created in
    let a = eight-back bytes 28 c.head.accesses small (omega arith) accesses in
    let n = four-back bytes 36 (length c.head.records) small (omega arith) count in
    (λ i. v i ++ b i ++ s i ++ m i ++ a i ++ n i) ∙ header-parts bytes

-- ---- the records

record-parts : (xs : List ℕ) → take 8 (drop 0 xs) ++ take 8 (drop 8 xs) ++ take 4 (drop 16 xs) ++ take 4 (drop 20 xs) ++ take 4 (drop 24 xs) ++ take 4 (drop 28 xs)
    ++ take 8 (drop 32 xs) ++ take 8 (drop 40 xs) ++ take 8 (drop 48 xs) ++ take 8 (drop 56 xs) ≡ take 64 xs
record-parts xs =
    let more = λ (l : List ℕ) (n : ℕ) (m : ℕ) (e : l ≡ take n xs). ap (λ (k : List ℕ). k ++ take m (drop n xs)) e ∙ take-then n m xs in
    more _ 56 8 (more _ 48 8 (more _ 40 8 (more _ 32 8 (more _ 28 4 (more _ 24 4 (more _ 20 4 (more _ 16 4 (take-then 8 8 xs))))))))

record-back : (bytes : List ℕ) → IsBytes bytes → 64 ≤ length bytes → four_at bytes 28 ≡ 0 → eight_at bytes 56 ≡ 0 → record_of (record_in bytes) ≡ take 64 bytes
unfolding record_of
record-back bytes small long first second =
    let r = record_in bytes in
    let p0 = eight-back bytes 0 r.attach small (omega arith) refl in
    let p1 = eight-back bytes 8 r.detach small (omega arith) refl in
    let p2 = four-back bytes 16 r.ios small (omega arith) refl in
    let p3 = four-back bytes 20 r.duration small (omega arith) refl in
    let p4 = four-back bytes 24 r.merged small (omega arith) refl in
    let p5 = four-back bytes 28 0 small (omega arith) (sym first) in
    let p6 = eight-back bytes 32 r.hit small (omega arith) refl in
    let p7 = eight-back bytes 40 r.missed small (omega arith) refl in
    let p8 = eight-back bytes 48 r.bypassed small (omega arith) refl in
    let p9 = eight-back bytes 56 0 small (omega arith) (sym second) in
    (λ i. p0 i ++ p1 i ++ p2 i ++ p3 i ++ p4 i ++ p5 i ++ p6 i ++ p7 i ++ p8 i ++ p9 i) ∙ record-parts bytes

three : (a b : ℕ) (rest : Bool) → ((a == 0) && ((b == 0) && rest)) ≡ true → (a ≡ 0) × (b ≡ 0) × (rest ≡ true)
three a b rest e = grind (arith, nat_tests)

clear-first : (n : ℕ) (bytes : List ℕ) → are_clear (suc n) bytes ≡ true → (four_at bytes 28 ≡ 0) × (eight_at bytes 56 ≡ 0) × (are_clear n (drop 64 bytes) ≡ true)
unfolding are_clear
clear-first n bytes e = three (four_at bytes 28) (eight_at bytes 56) (are_clear n (drop 64 bytes)) e

records-back : (n : ℕ) (bytes : List ℕ) → IsBytes bytes → 64 * n ≤ length bytes → are_clear n bytes ≡ true → flat_map record_of (records_in n bytes) ≡ take (64 * n) bytes
unfolding records_in
records-back zero bytes small room clear = refl
records-back (suc n) bytes small room clear =
    let parts = clear-first n bytes clear in
    let more : 64 * suc n ≡ 64 + 64 * n = omega arith in
    let one = record-back bytes small (omega arith) parts.0 parts.1 in
    let rest = records-back n (drop 64 bytes) (IsBytes-drop 64 bytes small) (omega (arith, length-drop 64 bytes)) parts.2 in
    (λ i. one i ++ rest i) ∙ take-then 64 (64 * n) bytes ∙ sym (ap (λ k. take k bytes) more)

fits-record : (bytes : List ℕ) → IsBytes bytes → FitsRecord (record_in bytes)
fits-record bytes small = record {
  attach = eight_at-lt bytes 0 small;
  detach = eight_at-lt bytes 8 small;
  ios = four_at-lt bytes 16 small;
  duration = four_at-lt bytes 20 small;
  merged = four_at-lt bytes 24 small;
  hit = eight_at-lt bytes 32 small;
  missed = eight_at-lt bytes 40 small;
  bypassed = eight_at-lt bytes 48 small;
}

fits-records : (n : ℕ) (bytes : List ℕ) → IsBytes bytes → All FitsRecord (records_in n bytes)
unfolding records_in
fits-records zero bytes small = All-nil FitsRecord
fits-records (suc n) bytes small = All-cons FitsRecord (record_in bytes) (records_in n (drop 64 bytes)) (fits-record bytes small) (fits-records n (drop 64 bytes) (IsBytes-drop 64 bytes small))

-- ---- the whole

fits-cinfo : (bytes : List ℕ) → IsBytes bytes → Passes bytes → FitsCinfo (cinfo_in bytes)
unfolding cinfo_in
fits-cinfo bytes small p =
    let count = length-map-range_with_len (has_bit (drop 44 bytes)) 0 (blocks_in bytes) in
    record {
      block = p.block;
      size = eight_at-lt bytes 12 small;
      head = record {
        created = eight_at-lt bytes 20 small;
        accesses = eight_at-lt bytes 28 small;
        count = omega (arith, length-records_in (four_at bytes 36) (drop (44 + bitmap_len_in bytes) bytes), p.count);
        records = fits-records (four_at bytes 36) (drop (44 + bitmap_len_in bytes) bytes) (IsBytes-drop (44 + bitmap_len_in bytes) bytes small);
      };
      count = omega (arith, count, p.most);
      claims = count;
    }

-- the bitmap is the part of that many bytes
bitmap-at : (bytes : List ℕ) → bitmap_in bytes (cinfo_in bytes) ≡ slice_of bytes 44 (bitmap_len_in bytes)
unfolding cinfo_in
bitmap-at bytes = ap (λ k. slice_of bytes 44 ((k + 7) / 8)) (length-map-range_with_len (has_bit (drop 44 bytes)) 0 (blocks_in bytes))

pub bitmap-is : (bytes : List ℕ) → Passes bytes → IsBitmap (slice_of bytes 44 (bitmap_len_in bytes)) (cinfo_in bytes).claims
unfolding cinfo_in
bitmap-is bytes p = IsBitmap-claims_in (drop 44 bytes) (blocks_in bytes) (omega (arith, length-drop 44 bytes, p.whole)) p.padding

header-is : (bytes : List ℕ) → IsBytes bytes → Passes bytes → header_of (cinfo_in bytes) ≡ take 40 bytes
unfolding cinfo_in
header-is bytes small p =
    header-back bytes (cinfo_in bytes) small p.long (sym p.version) refl refl refl refl (length-records_in (four_at bytes 36) (drop (44 + bitmap_len_in bytes) bytes))

records-are : (bytes : List ℕ) → IsBytes bytes → Passes bytes → records_of (cinfo_in bytes) ≡ take (64 * four_at bytes 36) (drop (44 + bitmap_len_in bytes) bytes)
unfolding cinfo_in
records-are bytes small p =
    let at = 44 + bitmap_len_in bytes in
    records-back (four_at bytes 36) (drop at bytes) (IsBytes-drop at bytes small) (omega (arith, length-drop at bytes, p.whole)) p.clear

-- a part with its checksum behind it
summed-back : (bytes part : List ℕ) (at : ℕ) → IsBytes bytes → at + 4 ≤ length bytes → four_at bytes at ≡ crc_of part → four (crc_of part) ≡ take 4 (drop at bytes)
summed-back bytes part at small room sum = four-back bytes at (crc_of part) small room (sym sum)

spelled : (bytes : List ℕ) → IsBytes bytes → Passes bytes →
    bytes ≡ summed (header_of (cinfo_in bytes)) ++ summed (slice_of bytes 44 (bitmap_len_in bytes) ++ records_of (cinfo_in bytes))
spelled bytes small p =
    let bits = bitmap_len_in bytes in
    let n = four_at bytes 36 in
    let len = length bytes in
    let h = header-is bytes small p in
    let front : summed (header_of (cinfo_in bytes)) ≡ take 44 bytes =
    ap summed h ∙ ap (λ (l : List ℕ). take 40 bytes ++ l) (summed-back bytes (take 40 bytes) 40 small (omega (arith, p.long)) p.header_sum) ∙ take-then 40 4 bytes in
    let size : bits + 64 * n ≡ len - 48 = omega (arith, p.whole) in
    let part : slice_of bytes 44 bits ++ records_of (cinfo_in bytes) ≡ slice_of bytes 44 (len - 48) =
    ap (λ (l : List ℕ). slice_of bytes 44 bits ++ l) (records-are bytes small p ∙ ap (take (64 * n)) (sym (drop-drop bits 44 bytes)))
    ∙ take-then bits (64 * n) (drop 44 bytes) ∙ ap (λ k. take k (drop 44 bytes)) size in
    let end : len - 4 ≡ 44 + (len - 48) = omega (arith, p.long) in
    let rest : drop (len - 4) bytes ≡ drop (len - 48) (drop 44 bytes) = ap (λ k. drop k bytes) end ∙ sym (drop-drop (len - 48) 44 bytes) in
    let last : four (crc_of (slice_of bytes 44 (len - 48))) ≡ drop (len - 48) (drop 44 bytes) =
    summed-back bytes (slice_of bytes 44 (len - 48)) (len - 4) small (omega (arith, p.long)) p.body_sum
    ∙ take_all 4 (drop (len - 4) bytes) (omega (arith, length-drop (len - 4) bytes)) ∙ rest in
    let back : summed (slice_of bytes 44 bits ++ records_of (cinfo_in bytes)) ≡ drop 44 bytes =
    ap summed part ∙ ap (λ (l : List ℕ). slice_of bytes 44 (len - 48) ++ l) last ∙ take-append-drop (len - 48) (drop 44 bytes) in
    sym ((λ i. front i ++ back i) ∙ take-append-drop 44 bytes)

pub cinfo-from_passes : (bytes : List ℕ) → IsBytes bytes → Passes bytes → IsCinfo bytes (cinfo_in bytes)
cinfo-from_passes bytes small p =
    let at = bitmap-at bytes in
    record {
      fits = fits-cinfo bytes small p;
      bitmap = subst (λ (b : List ℕ). IsBitmap b (cinfo_in bytes).claims) (sym at) (bitmap-is bytes p);
      spelled = spelled bytes small p ∙ ap (λ (b : List ℕ). summed (header_of (cinfo_in bytes)) ++ summed (b ++ records_of (cinfo_in bytes))) (sym at);
    }
