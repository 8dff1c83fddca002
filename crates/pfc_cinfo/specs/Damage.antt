-- The tests that a reader makes on the bytes of a cinfo, in their order, and the first of them that fails.
use Rattle.std.specs.Prelude.{◌≡◌, ℕ, zero, suc, ◌+◌, ◌-◌, ◌*◌, ◌/◌, ◌%◌, ◌^◌, ◌==◌, ◌≤◌, nat_le, ◌&&◌, Bool, true, List, length, drop, slice_index, Option, Some, None, if◌then◌else◌}
use Rattle.pfc_base.specs.Block.{slice_of, count_of}
use Rattle.pfc_base.specs.Crc.{crc_of}
use Rattle.pfc_base.specs.Cinfo.{IsBlockSize, four_at, eight_at}
use Rattle.pfc_cinfo.specs.declared.damage.Damage.{Damage}
use Rattle.pfc_cinfo.specs.declared.damage.Damage.TheVariants.{Short, Version, HeaderSum, Shape, BodySum}

abbrev pub is_block_size : ℕ → Bool
is_block_size k = nat_le 4096 k && (nat_le k 16777216 && (k % 4096 == 0))

-- a block size, and a size of at most 16777216 such blocks
abbrev pub is_tiled : ℕ → ℕ → Bool
is_tiled k size = is_block_size k && nat_le (count_of size k) 16777216

-- how many blocks the file has, by the fields
abbrev pub blocks_in : List ℕ → ℕ
blocks_in bytes = count_of (eight_at bytes 12) (eight_at bytes 4)

-- how many bytes their bitmap has
abbrev pub bitmap_len_in : List ℕ → ℕ
bitmap_len_in bytes = (blocks_in bytes + 7) / 8

-- the bits of the last byte of a bitmap that stand for no block
abbrev pub padding_of : List ℕ → ℕ → ℕ
padding_of bitmap blocks = slice_index bitmap (blocks / 8) / 2 ^ (blocks % 8)

-- in each of so many records the reserved fields are 0
unfoldable pub are_clear : ℕ → List ℕ → Bool
are_clear zero bytes = true
are_clear (suc n) bytes = (four_at bytes 28 == 0) && ((eight_at bytes 56 == 0) && are_clear n (drop 64 bytes))

unfoldable pub has_shape : List ℕ → Bool
has_shape bytes =
    is_tiled (eight_at bytes 4) (eight_at bytes 12)
    && (nat_le (four_at bytes 36) 20
    && ((length bytes == 48 + bitmap_len_in bytes + 64 * four_at bytes 36)
    && ((padding_of (slice_of bytes 44 (bitmap_len_in bytes)) (blocks_in bytes) == 0)
    && are_clear (four_at bytes 36) (drop (44 + bitmap_len_in bytes) bytes))))

abbrev pub header_sum_fits : List ℕ → Bool
header_sum_fits bytes = four_at bytes 40 == crc_of (slice_of bytes 0 40)

-- of all that stands between the header's checksum and the last four bytes
abbrev pub body_sum_fits : List ℕ → Bool
body_sum_fits bytes = four_at bytes (length bytes - 4) == crc_of (slice_of bytes 44 (length bytes - 48))

-- the damage, where the test before it fails, or else what is found later
abbrev pub unless : Bool → Damage → Option Damage → Option Damage
unless test damage later = if test then later else Some damage

unfoldable pub first_damage : List ℕ → Option Damage
first_damage bytes =
    unless (nat_le 48 (length bytes)) Short
    (unless (four_at bytes 0 == 4) Version
    (unless (header_sum_fits bytes) HeaderSum
    (unless (has_shape bytes) Shape
    (unless (body_sum_fits bytes) BodySum None))))

-- what it says that none fails
pub record Passes (bytes : List ℕ) : Type 0 where
  pub long : 48 ≤ length bytes
  pub version : four_at bytes 0 ≡ 4
  pub header_sum : four_at bytes 40 ≡ crc_of (slice_of bytes 0 40)
  pub block : IsBlockSize (eight_at bytes 4)
  pub most : blocks_in bytes ≤ 16777216
  pub count : four_at bytes 36 ≤ 20
  pub whole : length bytes ≡ 48 + bitmap_len_in bytes + 64 * four_at bytes 36
  pub padding : padding_of (slice_of bytes 44 (bitmap_len_in bytes)) (blocks_in bytes) ≡ 0
  pub clear : are_clear (four_at bytes 36) (drop (44 + bitmap_len_in bytes) bytes) ≡ true
  pub body_sum : four_at bytes (length bytes - 4) ≡ crc_of (slice_of bytes 44 (length bytes - 48))
