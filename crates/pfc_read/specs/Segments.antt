-- Segments of a reply, weighed.
use Rattle.std.specs.Prelude.{◌≡◌, ◌+◌, ◌*◌, ◌<◌, ◌≤◌, ℕ, ◌&&◌, nat_le, nat_lt, if◌then◌else◌, List, sum_by}
use Rattle.pfc_base.specs.Block.{IsPartOf}
use Rattle.pfc_log.specs.declared.entry.Served.{Served}
use Rattle.pfc_core.specs.Marks.{Mark}
use Rattle.pfc_read.specs.declared.segment.Source.{Source}
use Rattle.pfc_read.specs.declared.segment.Source.TheVariants as source
use Rattle.pfc_read.specs.declared.segment.Segment.{Segment}
use Rattle.pfc_read.specs.declared.segment.Hand.{Hand}
use Rattle.pfc_read.specs.declared.segment.Hand.TheVariants as hand
use Rattle.pfc_read.specs.declared.segment.Found.{Found}
use Rattle.pfc_read.specs.declared.segment.Owed.{Owed}
use Rattle.pfc_read.specs.declared.segment.Pending.{Pending}

-- the segment lies inside the reply, and each of its bytes stands where this says in the file, by its place in the reply
pub record IsPlaced (size k : ℕ) (spot_at : ℕ → ℕ) (total : ℕ) (s : Segment) : Type 0 where
  pub part_of : IsPartOf size k s.part
  pub place : (x : ℕ) → x < s.part.len → s.part.block * k + s.part.from + x ≡ spot_at (s.at + x)
  pub within : s.at + s.part.len ≤ total

abbrev pub len_in : Segment → ℕ
len_in s = s.part.len

-- 1 where the segment has this byte of the reply
abbrev pub covers : ℕ → Segment → ℕ
covers j s = if nat_le s.at j && nat_lt j (s.at + s.part.len) then 1 else 0

-- the length where the bytes come from there
abbrev pub len_by : Source → Source → ℕ → ℕ
len_by source.Cache source.Cache n = n
len_by source.Flight source.Flight n = n
len_by source.Origin source.Origin n = n
len_by _ _ n = 0

abbrev pub len_from : Source → Segment → ℕ
len_from from s = len_by from s.source s.part.len

abbrev pub in_pending : {W : Type 0} → (Segment → ℕ) → Pending W → ℕ
in_pending f p = f p.segment

abbrev pub in_found : {W : Type 0} → (Segment → ℕ) → Found W → ℕ
in_found f x = f x.segment

abbrev pub in_owed : {W : Type 0} → (Segment → ℕ) → Owed W → ℕ
in_owed f owed = f owed.segment

-- the parts that are still to be read: by a pin, from disk, and straight from the origin
pub record Waiting (W : Type 0) : Type 0 where
  pub pendings : List (Pending W)
  pub disks : List (Found W)
  pub owed : List (Owed W)

abbrev pub weigh : {W : Type 0} → (Segment → ℕ) → Waiting W → ℕ
weigh f w = sum_by (in_pending f) w.pendings + sum_by (in_found f) w.disks + sum_by (in_owed f) w.owed

abbrev pub in_hand : (Segment → ℕ) → Hand → ℕ
in_hand f (hand.Leave s) = f s
in_hand f (hand.Pin s) = f s
in_hand f (hand.Disk s) = f s
in_hand f _ = 0

abbrev pub pin_in : {W : Type 0} → Pending W → Mark
pin_in p = p.pin

abbrev pub disk_in : {W : Type 0} → Found W → Mark
disk_in x = x.disk

-- the bytes that came, with a part more
abbrev pub with_part : Served → Source → ℕ → Served
with_part served source.Cache n = record served { hit = served.hit + n }
with_part served source.Flight n = record served { missed = served.missed + n }
with_part served source.Origin n = record served { bypassed = served.bypassed + n }

-- the same part, from the origin itself
abbrev pub owed_segment : Segment → Segment
owed_segment s = record s { source = source.Origin }
