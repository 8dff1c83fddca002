-- The records of a file's accesses, the oldest first.
use Rattle.std.specs.Prelude.{ℕ, ◌+◌, ◌-◌, ◌^◌, nat_lt, min, max, if◌then◌else◌, List, [], ◌∷◌, ◌++◌, length}
use Rattle.pfc_base.specs.Cinfo.{Record, Head}
use Rattle.pfc_log.specs.declared.entry.Served.{Served}

-- a number as so many bits hold it: it stays at the greatest one
abbrev pub capped : ℕ → ℕ → ℕ
capped bits n = min n (2 ^ bits - 1)

-- an access that lasts since this moment
abbrev pub begun : ℕ → Record
begun now = record { attach = now; detach = 0; ios = 0; duration = 0; merged = 0; hit = 0; missed = 0; bypassed = 0 }

-- two accesses as one, from the attach of the first to the detach of the second
abbrev pub merged : Record → Record → Record
merged a b = record {
  attach = a.attach;
  detach = b.detach;
  ios = capped 32 (a.ios + b.ios);
  duration = capped 32 (a.duration + b.duration);
  merged = capped 32 (a.merged + b.merged + 1);
  hit = capped 64 (a.hit + b.hit);
  missed = capped 64 (a.missed + b.missed);
  bypassed = capped 64 (a.bypassed + b.bypassed);
}

-- the two oldest become one, which takes the first place
abbrev pub merge : List Record → List Record
merge (a ∷ b ∷ rest) = merged a b ∷ rest
merge few = few

-- at most 20 stand, so with 20 the two oldest make room
abbrev pub with_room : List Record → List Record
with_room records = if nat_lt (length records) 20 then records else merge records

-- one access more
abbrev pub attached : ℕ → Head → Head
attached now head = record head { accesses = capped 64 (head.accesses + 1); records = with_room head.records ++ begun now ∷ [] }

-- the access ended at this moment, with so many reads and their bytes; where the clock went back it took no time
abbrev pub ended : ℕ → Served → ℕ → Record → Record
ended now served ios r = record r { detach = now; duration = capped 32 (now - r.attach); ios = ios; hit = served.hit; missed = served.missed; bypassed = served.bypassed }

-- of the newest record
abbrev pub end_newest : (Record → Record) → List Record → List Record
end_newest end [] = []
end_newest end (r ∷ []) = end r ∷ []
end_newest end (r ∷ next ∷ rest) = r ∷ end_newest end (next ∷ rest)

abbrev pub detached : ℕ → Served → ℕ → Head → Head
detached now served ios head = record head { records = end_newest (ended now served ios) head.records }

-- when the file was last in use, by its newest record
abbrev pub last_use : List Record → ℕ
last_use [] = 0
last_use (r ∷ []) = max r.attach r.detach
last_use (r ∷ next ∷ rest) = last_use (next ∷ rest)
