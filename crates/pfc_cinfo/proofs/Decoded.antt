-- What the decoder reads is what the fields say.
use Rattle.std.proofs.Common.{◌≡◌, ℕ, ◌+◌, ◌-◌, ◌/◌, ◌%◌, min, Bool, List, Some, Result, Ok, Err, length, take, drop, sym, ap, subst, ◌∙◌, arith}
use Rattle.std.proofs.lemmas.List.{length-take, length-drop, take_rest}
use Rattle.std.proofs.lemmas.List.FromFn.{length-map-range_with_len}
use Rattle.pfc_base.specs.Block.{slice_of}
use Rattle.pfc_base.specs.BlockSet.{IsBitmap, HasPadding}
use Rattle.pfc_base.specs.Cinfo.{Record, Cinfo, has_bit, records_in, four_at, cinfo_in, IsCinfo}
use Rattle.pfc_base.proofs.Bitmaps.{set-from_bitmap}
use Rattle.pfc_cinfo.specs.Cinfo.{IsTiled}
use Rattle.pfc_base.proofs.CinfoReading.{cinfo_in-is}
use Rattle.pfc_cinfo.specs.declared.damage.Damage.{Damage}
use Rattle.pfc_cinfo.specs.declared.damage.DecodeRefusal.{DecodeRefusal}
use Rattle.pfc_cinfo.specs.declared.damage.DecodeRefusal.TheVariants.{Damaged, Memory}
use Rattle.pfc_cinfo.specs.Decoding.{Decodes, Gives}
use Rattle.pfc_cinfo.specs.Damage.{blocks_in, bitmap_len_in, first_damage, Passes}
use Rattle.pfc_cinfo.proofs.Bytes.{IsBytes}
use Rattle.pfc_cinfo.proofs.Bitmap.{none-from_clear}
use Rattle.pfc_cinfo.proofs.ReadBack.{bitmap-is, cinfo-from_passes}
use Rattle.pfc_cinfo.proofs.Spelled.{passes-from_cinfo}
use Rattle.pfc_cinfo.proofs.Passing.{none-from_passes}

-- a number of bits, in bytes
eighths : (n : ℕ) → n / 8 + min 1 (n % 8) ≡ (n + 7) / 8
eighths n = omega arith

pub bitmap_len-is : (bytes : List ℕ) (blocks len : ℕ) → blocks ≡ blocks_in bytes → len ≡ blocks / 8 + min 1 (blocks % 8) → len ≡ bitmap_len_in bytes
bitmap_len-is bytes blocks len is e = e ∙ eighths blocks ∙ ap (λ n. (n + 7) / 8) is

pub bitmap_part : (bytes : List ℕ) (len : ℕ) → len ≡ bitmap_len_in bytes → take (44 + len - 44) (drop 44 bytes) ≡ slice_of bytes 44 (bitmap_len_in bytes)
bitmap_part bytes len is =
    let e : 44 + len - 44 ≡ len = omega arith in
    ap (λ n. take n (drop 44 bytes)) (e ∙ is)

bitmap-len : (bytes : List ℕ) → Passes bytes → length (slice_of bytes 44 (bitmap_len_in bytes)) ≡ bitmap_len_in bytes
bitmap-len bytes p = omega (arith, length-take (bitmap_len_in bytes) (drop 44 bytes), length-drop 44 bytes, p.whole)

-- none of the bitmap's padding bits is set
pub none-set : (bytes bitmap : List ℕ) (blocks : ℕ) → Passes bytes → blocks ≡ blocks_in bytes → bitmap ≡ slice_of bytes 44 (bitmap_len_in bytes) → ¬ HasPadding bitmap blocks
none-set bytes bitmap blocks p is part found =
    none-from_clear (slice_of bytes 44 (bitmap_len_in bytes)) (blocks_in bytes) (bitmap-len bytes p) p.padding
    (subst (λ (b : List ℕ). HasPadding b (blocks_in bytes)) part (subst (λ (n : ℕ). HasPadding bitmap n) is found))

pub length-claims : (bytes : List ℕ) → length (cinfo_in bytes).claims ≡ blocks_in bytes
unfolding cinfo_in
length-claims bytes = length-map-range_with_len (has_bit (drop 44 bytes)) 0 (blocks_in bytes)

-- a set with this bitmap is what is claimed
pub claims-are : (bytes bitmap : List ℕ) (blocks : ℕ) (set : List Bool) → Passes bytes → blocks ≡ blocks_in bytes → bitmap ≡ slice_of bytes 44 (bitmap_len_in bytes)
    → length set ≡ blocks → IsBitmap bitmap set → set ≡ (cinfo_in bytes).claims
claims-are bytes bitmap blocks set p is part long map-is =
    set-from_bitmap (slice_of bytes 44 (bitmap_len_in bytes)) set (cinfo_in bytes).claims (long ∙ is ∙ sym (length-claims bytes))
    (subst (λ (b : List ℕ). IsBitmap b set) part map-is) (bitmap-is bytes p)

pub records-are : (bytes : List ℕ) (len count : ℕ) (records : List Record) → len ≡ bitmap_len_in bytes → count ≡ four_at bytes 36
    → records ≡ records_in count (take (length bytes - (44 + len)) (drop (44 + len) bytes)) → records ≡ (cinfo_in bytes).head.records
unfolding cinfo_in
records-are bytes len count records is number e =
    e ∙ ap (records_in count) (take_rest bytes (44 + len)) ∙ (λ i. records_in (number i) (drop (44 + is i) bytes))

pub tiled : (bytes : List ℕ) → Passes bytes → IsTiled (cinfo_in bytes).block (cinfo_in bytes).size (length (cinfo_in bytes).claims)
unfolding cinfo_in
tiled bytes p =
    let count = length-claims bytes in
    record { block = p.block; whole = count; most = omega (arith, count, p.most) }

pub no-cinfo : (bytes : List ℕ) (damage : Damage) → IsBytes bytes → first_damage bytes ≡ Some damage → (c : Cinfo) → ¬ IsCinfo bytes c
no-cinfo bytes damage small e c is =
    let none = none-from_passes bytes (passes-from_cinfo bytes c small is) in
    absurd (cc (e, none))

pub is-cinfo : (bytes : List ℕ) (c : Cinfo) → IsBytes bytes → Passes bytes → c ≡ cinfo_in bytes → IsCinfo bytes c
is-cinfo bytes c small p e = subst (λ (s : Cinfo). IsCinfo bytes s) (sym e) (cinfo-from_passes bytes small p)

pub gives-from_decodes : (bytes : List ℕ) (answer : Result Cinfo DecodeRefusal) → Decodes bytes answer → (c : Cinfo) → IsCinfo bytes c → Gives answer c
gives-from_decodes bytes (Ok found) d c is = cinfo_in-is bytes found d.0 ∙ sym (cinfo_in-is bytes c is)
gives-from_decodes bytes (Err (Damaged damage)) d c is = d.1 c is
gives-from_decodes bytes (Err Memory) d c is = tt
