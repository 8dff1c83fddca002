-- What the grammar's bytes say is what stands in their fields.
use Rattle.std.proofs.Common.{◌≡◌, ℕ, suc, ◌+◌, ◌/◌, ◌%◌, ◌^◌, ◌<◌, ◌==◌, Bool, true, false, List, [], ◌∷◌, ◌++◌, length, drop, get_or, refl, sym, ap, ◌∙◌, append_assoc, arith}
use Rattle.std.specs.Prelude.{All}
use Rattle.std.specs.List.{flat_map}
use Rattle.std.specs.Int.{bit_at}
use Rattle.std.proofs.lemmas.Nat.{from_le_bytes-to_le_bytes_4, from_le_bytes-to_le_bytes_8}
use Rattle.std.proofs.lemmas.List.{drop_at, drop-drop, get_or_append_left, ext_get_or}
use Rattle.std.proofs.lemmas.List.FromFn.{get_or-map-range_with_len, length-map-range_with_len}
use Rattle.pfc_base.specs.Block.{count_of}
use Rattle.pfc_base.specs.BlockSet.{bit_of, IsBitmap}
use Rattle.pfc_base.specs.Crc.{crc_of}
use Rattle.pfc_base.specs.Cinfo.{Record, Cinfo, FitsRecord, FitsCinfo, four, header_of, record_of, records_of, summed, bitmap_in, IsCinfo, four_at, eight_at, record_in, records_in, has_bit, claims_in, cinfo_in}

-- ---- records

pub record_again : (r : Record) (rest : List ℕ) → FitsRecord r → record_in (record_of r ++ rest) ≡ r
unfolding record_of
record_again r rest fits =
    let e0 = from_le_bytes-to_le_bytes_8 r.attach fits.attach in
    let e1 = from_le_bytes-to_le_bytes_8 r.detach fits.detach in
    let e2 = from_le_bytes-to_le_bytes_4 r.ios fits.ios in
    let e3 = from_le_bytes-to_le_bytes_4 r.duration fits.duration in
    let e4 = from_le_bytes-to_le_bytes_4 r.merged fits.merged in
    let e5 = from_le_bytes-to_le_bytes_8 r.hit fits.hit in
    let e6 = from_le_bytes-to_le_bytes_8 r.missed fits.missed in
    let e7 = from_le_bytes-to_le_bytes_8 r.bypassed fits.bypassed in
    λ i. record { attach = e0 i; detach = e1 i; ios = e2 i; duration = e3 i; merged = e4 i; hit = e5 i; missed = e6 i; bypassed = e7 i }

pub drop_record : (r : Record) (rest : List ℕ) → drop 64 (record_of r ++ rest) ≡ rest
unfolding record_of
drop_record r rest = refl

pub records_again : (rs : List Record) (rest : List ℕ) → All FitsRecord rs → records_in (length rs) (flat_map record_of rs ++ rest) ≡ rs
unfolding records_in
records_again [] rest fits = refl
records_again (r ∷ rs) rest fits =
    let tail : List ℕ = flat_map record_of rs ++ rest in
    let regroup : flat_map record_of (r ∷ rs) ++ rest ≡ record_of r ++ tail = append_assoc (record_of r) (flat_map record_of rs) rest in
    ap (records_in (suc (length rs))) regroup
    ∙ (λ i. record_again r tail (fits 0 r (omega arith)) i ∷ records_in (length rs) (drop_record r tail i))
    ∙ ap (λ l. r ∷ l) (records_again rs rest (λ k d lt. fits (suc k) d (omega arith)))

-- ---- the header

block_again : (c : Cinfo) (tail : List ℕ) → c.block < 2 ^ 64 → eight_at (header_of c ++ tail) 4 ≡ c.block
unfolding header_of
block_again c tail h = from_le_bytes-to_le_bytes_8 c.block h

size_again : (c : Cinfo) (tail : List ℕ) → c.size < 2 ^ 64 → eight_at (header_of c ++ tail) 12 ≡ c.size
unfolding header_of
size_again c tail h = from_le_bytes-to_le_bytes_8 c.size h

created_again : (c : Cinfo) (tail : List ℕ) → c.head.created < 2 ^ 64 → eight_at (header_of c ++ tail) 20 ≡ c.head.created
unfolding header_of
created_again c tail h = from_le_bytes-to_le_bytes_8 c.head.created h

accesses_again : (c : Cinfo) (tail : List ℕ) → c.head.accesses < 2 ^ 64 → eight_at (header_of c ++ tail) 28 ≡ c.head.accesses
unfolding header_of
accesses_again c tail h = from_le_bytes-to_le_bytes_8 c.head.accesses h

count_again : (c : Cinfo) (tail : List ℕ) → length c.head.records < 2 ^ 32 → four_at (header_of c ++ tail) 36 ≡ length c.head.records
unfolding header_of
count_again c tail h = from_le_bytes-to_le_bytes_4 (length c.head.records) h

drop_header : (c : Cinfo) (tail : List ℕ) → drop 40 (header_of c ++ tail) ≡ tail
unfolding header_of
drop_header c tail = refl

drop_sum : (n : ℕ) (tail : List ℕ) → drop 4 (four n ++ tail) ≡ tail
drop_sum n tail = refl

-- ---- the bitmap

bit_test : (b : Bool) → (bit_of b == 1) ≡ b
bit_test true = refl
bit_test false = refl

pub claims_again : (set : List Bool) (bitmap rest : List ℕ) → IsBitmap bitmap set → claims_in (length set) (bitmap ++ rest) ≡ set
claims_again set bitmap rest is = ext_get_or false (claims_in (length set) (bitmap ++ rest)) set len each where
  len : length (claims_in (length set) (bitmap ++ rest)) ≡ length set
  len = length-map-range_with_len (has_bit (bitmap ++ rest)) 0 (length set)

  each : (i : ℕ) → i < length (claims_in (length set) (bitmap ++ rest)) → get_or (claims_in (length set) (bitmap ++ rest)) i false ≡ get_or set i false
  each i lt =
      let size = is.size in
      let below : i < length set = omega (arith, len) in
      let inside : i / 8 < length bitmap = omega arith in
      get_or-map-range_with_len (has_bit (bitmap ++ rest)) 0 (length set) i i false below (omega arith)
      ∙ ap (λ b. bit_at b (i % 8) == 1) (get_or_append_left bitmap rest 0 (i / 8) inside)
      ∙ ap (λ b. b == 1) (is.bits i (omega arith))
      ∙ bit_test (get_or set i false)

-- ---- the whole

cinfo_again : (bytes bitmap : List ℕ) (c : Cinfo) → FitsCinfo c → IsBitmap bitmap c.claims → bytes ≡ summed (header_of c) ++ summed (bitmap ++ records_of c) → cinfo_in bytes ≡ c
unfolding cinfo_in
cinfo_again bytes bitmap c fits is spelled =
    let header = header_of c in
    let sum = four (crc_of header) in
    let last = four (crc_of (bitmap ++ records_of c)) in
    let body : List ℕ = (bitmap ++ records_of c) ++ last in
    let whole : bytes ≡ header ++ (sum ++ body) = spelled ∙ append_assoc header sum body in
    let at = λ (F : List ℕ → ℕ). ap F whole in
    let block = at (λ b. eight_at b 4) ∙ block_again c (sum ++ body) (omega (arith, fits.block)) in
    let size = at (λ b. eight_at b 12) ∙ size_again c (sum ++ body) fits.size in
    let created = at (λ b. eight_at b 20) ∙ created_again c (sum ++ body) fits.head.created in
    let accesses = at (λ b. eight_at b 28) ∙ accesses_again c (sum ++ body) fits.head.accesses in
    let number = at (λ b. four_at b 36) ∙ count_again c (sum ++ body) (omega (arith, fits.head.count)) in
    let blocks : count_of (eight_at bytes 12) (eight_at bytes 4) ≡ length c.claims = (λ i. count_of (size i) (block i)) ∙ sym fits.claims in
    let behind : drop 44 bytes ≡ bitmap ++ (records_of c ++ last) =
    sym (drop-drop 4 40 bytes) ∙ ap (λ b. drop 4 (drop 40 b)) whole ∙ ap (drop 4) (drop_header c (sum ++ body)) ∙ drop_sum (crc_of header) body
    ∙ append_assoc bitmap (records_of c) last in
    let claims : claims_in (count_of (eight_at bytes 12) (eight_at bytes 4)) (drop 44 bytes) ≡ c.claims =
    (λ i. claims_in (blocks i) (behind i)) ∙ claims_again c.claims bitmap (records_of c ++ last) is in
    let records : records_in (four_at bytes 36) (drop (44 + (count_of (eight_at bytes 12) (eight_at bytes 4) + 7) / 8) bytes) ≡ c.head.records =
    (λ i. records_in (number i) (drop (44 + (blocks i + 7) / 8) bytes))
    ∙ ap (records_in (length c.head.records)) (sym (drop-drop ((length c.claims + 7) / 8) 44 bytes) ∙ ap (drop ((length c.claims + 7) / 8)) behind ∙ drop_at bitmap (records_of c ++ last) ((length c.claims + 7) / 8) is.size)
    ∙ records_again c.head.records last fits.head.records in
    λ i. record { block = block i; size = size i; head = record { created = created i; accesses = accesses i; records = records i }; claims = claims i }

pub cinfo_in-is : (bytes : List ℕ) (c : Cinfo) → IsCinfo bytes c → c ≡ cinfo_in bytes
cinfo_in-is bytes c is = sym (cinfo_again bytes (bitmap_in bytes c) c is.fits is.bitmap is.spelled)
