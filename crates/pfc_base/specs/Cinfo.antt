-- What a cinfo file says, and which bytes say it: format version 4, all numbers little-endian.
use Rattle.std.specs.Prelude.{◌≡◌, ℕ, zero, suc, ◌+◌, ◌*◌, ◌/◌, ◌%◌, ◌^◌, ◌<◌, ◌≤◌, ◌==◌, Bool, true, List, [], ◌∷◌, ◌++◌, length, drop, slice_index, Option, Some, All, map}
use Rattle.std.specs.List.{flat_map, range_with_len}
use Rattle.std.specs.Int.{bit_at, w32, w64, to_le_bytes, from_le_bytes}
use Rattle.pfc_base.specs.Block.{slice_of, block_of, count_of}
use Rattle.pfc_base.specs.BlockSet.{is_member, IsBitmap}
use Rattle.pfc_base.specs.Crc.{crc_of}

-- one access to a file, from its first attach to its last detach, or several that were merged into one
pub record Record : Type 0 where
  pub attach : ℕ
  pub detach : ℕ
  pub ios : ℕ
  pub duration : ℕ
  pub merged : ℕ
  pub hit : ℕ
  pub missed : ℕ
  pub bypassed : ℕ

pub record Head : Type 0 where
  pub created : ℕ
  pub accesses : ℕ
  pub records : List Record

-- of a file of this size in blocks of this length, the blocks that the disk holds
pub record Cinfo : Type 0 where
  pub block : ℕ
  pub size : ℕ
  pub head : Head
  pub claims : List Bool

-- ---- what can be written

abbrev pub IsBlockSize : ℕ → Type 0
IsBlockSize k = (4096 ≤ k) × (k ≤ 16777216) × (k % 4096 ≡ 0)

pub record FitsRecord (r : Record) : Type 0 where
  pub attach : r.attach < 2 ^ 64
  pub detach : r.detach < 2 ^ 64
  pub ios : r.ios < 2 ^ 32
  pub duration : r.duration < 2 ^ 32
  pub merged : r.merged < 2 ^ 32
  pub hit : r.hit < 2 ^ 64
  pub missed : r.missed < 2 ^ 64
  pub bypassed : r.bypassed < 2 ^ 64

pub record FitsHead (h : Head) : Type 0 where
  pub created : h.created < 2 ^ 64
  pub accesses : h.accesses < 2 ^ 64
  pub count : length h.records ≤ 20
  pub records : All FitsRecord h.records

pub record FitsCinfo (c : Cinfo) : Type 0 where
  pub block : IsBlockSize c.block
  pub size : c.size < 2 ^ 64
  pub head : FitsHead c.head
  pub count : length c.claims ≤ 16777216
  pub claims : length c.claims ≡ count_of c.size c.block

-- ---- how it is written

abbrev pub four : ℕ → List ℕ
four n = to_le_bytes w32 n

abbrev pub eight : ℕ → List ℕ
eight n = to_le_bytes w64 n

-- the fields in front of the first checksum: the version, then the numbers
unfoldable pub header_of : Cinfo → List ℕ
header_of c = four 4 ++ eight c.block ++ eight c.size ++ eight c.head.created ++ eight c.head.accesses ++ four (length c.head.records)

-- one access, with its two reserved fields
unfoldable pub record_of : Record → List ℕ
record_of r =
    eight r.attach ++ eight r.detach ++ four r.ios ++ four r.duration ++ four r.merged ++ four 0
    ++ eight r.hit ++ eight r.missed ++ eight r.bypassed ++ eight 0

abbrev pub records_of : Cinfo → List ℕ
records_of c = flat_map record_of c.head.records

-- a part, and its checksum behind it
abbrev pub summed : List ℕ → List ℕ
summed part = part ++ four (crc_of part)

-- where the bitmap stands: behind the header of 40 bytes and its checksum
abbrev pub bitmap_in : List ℕ → Cinfo → List ℕ
bitmap_in bytes c = slice_of bytes 44 ((length c.claims + 7) / 8)

-- The cinfo grammar: these bytes, and not one more, say this. Place i of the bitmap is set exactly where block i is
-- claimed.
pub record IsCinfo (bytes : List ℕ) (c : Cinfo) : Type 0 where
  pub fits : FitsCinfo c
  pub bitmap : IsBitmap (bitmap_in bytes c) c.claims
  pub spelled : bytes ≡ summed (header_of c) ++ summed (bitmap_in bytes c ++ records_of c)

-- ---- how it is read

abbrev pub four_at : List ℕ → ℕ → ℕ
four_at bytes at = from_le_bytes w32 (drop at bytes)

abbrev pub eight_at : List ℕ → ℕ → ℕ
eight_at bytes at = from_le_bytes w64 (drop at bytes)

abbrev pub record_in : List ℕ → Record
record_in bytes = record {
  attach = eight_at bytes 0;
  detach = eight_at bytes 8;
  ios = four_at bytes 16;
  duration = four_at bytes 20;
  merged = four_at bytes 24;
  hit = eight_at bytes 32;
  missed = eight_at bytes 40;
  bypassed = eight_at bytes 48;
}

unfoldable pub records_in : ℕ → List ℕ → List Record
records_in zero bytes = []
records_in (suc n) bytes = record_in bytes ∷ records_in n (drop 64 bytes)

abbrev pub has_bit : List ℕ → ℕ → Bool
has_bit bitmap i = bit_at (slice_index bitmap (i / 8)) (i % 8) == 1

abbrev pub claims_in : ℕ → List ℕ → List Bool
claims_in count bitmap = map (has_bit bitmap) (range_with_len 0 count)

-- What the fields of these bytes say, whether or not the bytes are a cinfo. Where they are, it is theirs.
unfoldable pub cinfo_in : List ℕ → Cinfo
cinfo_in bytes =
    let count = count_of (eight_at bytes 12) (eight_at bytes 4) in
    record {
      block = eight_at bytes 4;
      size = eight_at bytes 12;
      head = record { created = eight_at bytes 20; accesses = eight_at bytes 28; records = records_in (four_at bytes 36) (drop (44 + (count + 7) / 8) bytes) };
      claims = claims_in count (drop 44 bytes);
    }

-- ---- what it is worth

-- the data holds each claimed block of the file, at its place
abbrev pub HoldsClaims : List ℕ → Cinfo → List ℕ → Type 0
HoldsClaims «data» c file =
    (i : ℕ) → is_member c.claims i ≡ true → slice_of «data» (i * c.block) (length (block_of file c.block i)) ≡ block_of file c.block i

-- The sound pair: what the main file claims of a file of its size, the data holds. An absent main file, or one that is
-- no cinfo of this size, claims nothing.
pub record IsSound («data» : List ℕ) (main : Option (List ℕ)) (file : List ℕ) : Type 0 where
  pub held : (bytes : List ℕ) (c : Cinfo) → main ≡ Some bytes → IsCinfo bytes c → c.size ≡ length file → HoldsClaims «data» c file
