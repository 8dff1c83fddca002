-- The bytes of a cinfo pass each test.
use Rattle.std.proofs.Common.{◌≡◌, ℕ, zero, suc, ◌+◌, ◌-◌, ◌*◌, ◌/◌, ◌^◌, ◌<◌, true, List, [], ◌∷◌, ◌++◌, length, take, drop, refl, sym, ap, subst, ◌%◌, ◌∙◌, append_assoc, arith, ◌&&◌, ◌==◌}
use Rattle.std.specs.List.{flat_map}
use Rattle.std.specs.Int.{w32, from_le_bytes}
use Rattle.std.proofs.lemmas.Nat.{from_le_bytes-to_le_bytes_4}
use Rattle.std.proofs.lemmas.List.{take_at, drop_at, drop-drop, length-append}
use Rattle.pfc_base.specs.Block.{slice_of, count_of}
use Rattle.pfc_base.specs.BlockSet.{IsBitmap}
use Rattle.pfc_base.specs.Crc.{crc_of}
use Rattle.pfc_base.specs.Cinfo.{Record, Cinfo, FitsCinfo, four, header_of, record_of, records_of, summed, bitmap_in, IsCinfo, four_at, eight_at, records_in, cinfo_in}
use Rattle.pfc_base.proofs.CinfoReading.{cinfo_in-is}
use Rattle.pfc_cinfo.proofs.CrcSmall.{crc_of-lt}
use Rattle.pfc_cinfo.specs.Damage.{blocks_in, bitmap_len_in, padding_of, are_clear, Passes}
use Rattle.pfc_cinfo.proofs.Bytes.{IsBytes, IsBytes-take, IsBytes-drop}
use Rattle.pfc_cinfo.proofs.Bitmap.{no_padding}

pub length-header : (c : Cinfo) → length (header_of c) ≡ 40
unfolding header_of
length-header c = refl

length-record : (r : Record) → length (record_of r) ≡ 64
unfolding record_of
length-record r = refl

length-records : (rs : List Record) → length (flat_map record_of rs) ≡ 64 * length rs
length-records [] = refl
length-records (r ∷ rs) = omega (arith, length-append (record_of r) (flat_map record_of rs), length-record r, length-records rs)

pub length-records_in : (n : ℕ) (bytes : List ℕ) → length (records_in n bytes) ≡ n
unfolding records_in
length-records_in zero bytes = refl
length-records_in (suc n) bytes = let e = length-records_in n (drop 64 bytes) in omega arith

version-again : (c : Cinfo) (tail : List ℕ) → four_at (header_of c ++ tail) 0 ≡ 4
unfolding header_of
version-again c tail = refl

four-again : (n : ℕ) (tail : List ℕ) → n < 2 ^ 32 → from_le_bytes w32 (four n ++ tail) ≡ n
four-again n tail h = from_le_bytes-to_le_bytes_4 n h

reserved-28 : (r : Record) (tail : List ℕ) → four_at (record_of r ++ tail) 28 ≡ 0
unfolding record_of
reserved-28 r tail = refl

reserved-56 : (r : Record) (tail : List ℕ) → eight_at (record_of r ++ tail) 56 ≡ 0
unfolding record_of
reserved-56 r tail = refl

clear-step : (n : ℕ) (bytes : List ℕ) → four_at bytes 28 ≡ 0 → eight_at bytes 56 ≡ 0 → are_clear (suc n) bytes ≡ are_clear n (drop 64 bytes)
unfolding are_clear
clear-step n bytes p q = (λ i. (p i == 0) && ((q i == 0) && are_clear n (drop 64 bytes)))

clear-none : (bytes : List ℕ) → are_clear 0 bytes ≡ true
unfolding are_clear
clear-none bytes = refl

clear-records : (rs : List Record) (tail : List ℕ) → are_clear (length rs) (flat_map record_of rs ++ tail) ≡ true
clear-records [] tail = clear-none tail
clear-records (r ∷ rs) tail =
    let rest : List ℕ = flat_map record_of rs ++ tail in
    ap (are_clear (suc (length rs))) (append_assoc (record_of r) (flat_map record_of rs) tail)
    ∙ clear-step (length rs) (record_of r ++ rest) (reserved-28 r rest) (reserved-56 r rest)
    ∙ ap (are_clear (length rs)) (drop_at (record_of r) rest 64 (length-record r))
    ∙ clear-records rs tail

-- the fields, where the bytes say this
fields : (bytes : List ℕ) (c : Cinfo) → c ≡ cinfo_in bytes → (eight_at bytes 4 ≡ c.block) × (eight_at bytes 12 ≡ c.size) × (four_at bytes 36 ≡ length c.head.records)
unfolding cinfo_in
fields bytes c is = (sym (ap (λ (s : Cinfo). s.block) is), sym (ap (λ (s : Cinfo). s.size) is), sym (ap (λ (s : Cinfo). length s.head.records) is ∙ length-records_in _ _))

passes : (bytes bitmap : List ℕ) (c : Cinfo) → IsBytes bytes → FitsCinfo c → IsBitmap bitmap c.claims → bytes ≡ summed (header_of c) ++ summed (bitmap ++ records_of c) → c ≡ cinfo_in bytes → Passes bytes
passes bytes bitmap c small fits is spelled said =
    let header = header_of c in
    let records : List ℕ = records_of c in
    let part : List ℕ = bitmap ++ records in
    let last = four (crc_of part) in
    let sum = four (crc_of header) in
    let body : List ℕ = part ++ last in
    let whole : bytes ≡ header ++ (sum ++ body) = spelled ∙ append_assoc header sum body in
    let bits = length bitmap in
    let n = length c.head.records in
    let front = length-header c in
    let many = length-records c.head.records in
    let part-len : length part ≡ bits + 64 * n = omega (arith, length-append bitmap records, many) in
    let len : length bytes ≡ 48 + bits + 64 * n = ap length whole ∙ omega (arith, length-append header (sum ++ body), length-append sum body, length-append part last, front, part-len) in
    let f = fields bytes c said in
    let blocks : blocks_in bytes ≡ length c.claims = (λ i. count_of (f.1 i) (f.0 i)) ∙ sym fits.claims in
    let bitmap-len : bitmap_len_in bytes ≡ bits = ap (λ k. (k + 7) / 8) blocks ∙ sym is.size in
    let at-40 : drop 40 bytes ≡ sum ++ body = ap (drop 40) whole ∙ drop_at header (sum ++ body) 40 front in
    let at-44 : drop 44 bytes ≡ body = sym (drop-drop 4 40 bytes) ∙ ap (drop 4) at-40 ∙ drop_at sum body 4 refl in
    let header-is : slice_of bytes 0 40 ≡ header = ap (take 40) whole ∙ take_at header (sum ++ body) 40 front in
    let bitmap-is : slice_of bytes 44 bits ≡ bitmap = ap (take bits) at-44 ∙ ap (take bits) (append_assoc bitmap records last) ∙ take_at bitmap (records ++ last) bits refl in
    let records-at : drop (44 + bits) bytes ≡ records ++ last = sym (drop-drop bits 44 bytes) ∙ ap (drop bits) (at-44 ∙ append_assoc bitmap records last) ∙ drop_at bitmap (records ++ last) bits refl in
    let end : length bytes - 48 ≡ length part = omega (arith, len, part-len) in
    let end-at : length bytes - 4 ≡ 44 + length part = omega (arith, len, part-len) in
    let part-is : slice_of bytes 44 (length bytes - 48) ≡ part = (λ i. take (end i) (at-44 i)) ∙ take_at part last (length part) refl in
    let last-at : drop (length bytes - 4) bytes ≡ last = ap (λ k. drop k bytes) end-at ∙ sym (drop-drop (length part) 44 bytes) ∙ ap (drop (length part)) at-44 ∙ drop_at part last (length part) refl in
    let header-small : IsBytes header = subst IsBytes header-is (IsBytes-take 40 bytes small) in
    let part-small : IsBytes part = subst IsBytes part-is (IsBytes-take (length bytes - 48) (drop 44 bytes) (IsBytes-drop 44 bytes small)) in
    let bitmap-small : IsBytes bitmap = subst IsBytes bitmap-is (IsBytes-take bits (drop 44 bytes) (IsBytes-drop 44 bytes small)) in
    record {
      long = omega (arith, len);
      version = ap (λ b. four_at b 0) whole ∙ version-again c (sum ++ body);
      header_sum = ap (from_le_bytes w32) at-40 ∙ four-again (crc_of header) body (crc_of-lt header header-small) ∙ sym (ap crc_of header-is);
      block = (omega (arith, f.0, fits.block.0), omega (arith, f.0, fits.block.1), ap (λ k. k % 4096) f.0 ∙ fits.block.2);
      most = omega (arith, blocks, fits.count);
      count = omega (arith, f.2, fits.head.count);
      whole = omega (arith, len, bitmap-len, f.2);
      padding = (λ i. padding_of (slice_of bytes 44 (bitmap-len i)) (blocks i)) ∙ ap (λ b. padding_of b (length c.claims)) bitmap-is ∙ no_padding bitmap c.claims is bitmap-small;
      clear = (λ i. are_clear (f.2 i) (drop (44 + bitmap-len i) bytes)) ∙ ap (are_clear n) records-at ∙ clear-records c.head.records last;
      body_sum = ap (from_le_bytes w32) last-at ∙ from_le_bytes-to_le_bytes_4 (crc_of part) (crc_of-lt part part-small) ∙ sym (ap crc_of part-is);
    }

pub passes-from_cinfo : (bytes : List ℕ) (c : Cinfo) → IsBytes bytes → IsCinfo bytes c → Passes bytes
passes-from_cinfo bytes c small is = passes bytes (bitmap_in bytes c) c small is.fits is.bitmap is.spelled (cinfo_in-is bytes c is)

-- a cinfo is shorter than what is read of a main file at most
pub cinfo-length : (bytes : List ℕ) (c : Cinfo) → IsCinfo bytes c → length bytes < 4194305
cinfo-length bytes c is =
    let front = length-append (header_of c) (four (crc_of (header_of c))) in
    let part = length-append (bitmap_in bytes c) (records_of c) in
    let body = length-append (bitmap_in bytes c ++ records_of c) (four (crc_of (bitmap_in bytes c ++ records_of c))) in
    let whole = length-append (summed (header_of c)) (summed (bitmap_in bytes c ++ records_of c)) in
    omega (arith, ap length is.spelled, whole, front, part, body, length-header c, length-records c.head.records, is.bitmap.size, is.fits.count, is.fits.head.count)
