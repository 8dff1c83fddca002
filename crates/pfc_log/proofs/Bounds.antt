-- Bounds that lawful logs keep: how often a client goes to the origin, and how often a store freezes.
use Rattle.std.proofs.Common.{◌≡◌, ℕ, ◌+◌, ◌<◌, ◌≤◌, List, take, refl, ap, ◌∙◌, subst, arith, Bool, true, false}
use Rattle.std.specs.Prelude.{◌==◌, ◌&&◌, if◌then◌else◌}
use Rattle.pfc_log.specs.declared.entry.Entry.{Entry}
use Rattle.pfc_log.specs.declared.entry.Entry.TheVariants as e
use Rattle.pfc_log.specs.declared.entry.Way.{Way}
use Rattle.pfc_log.specs.declared.entry.Way.TheVariants as way
use Rattle.pfc_log.specs.declared.start.Start.{Start}
use Rattle.pfc_log.specs.Views.{times, is_lost, is_lost_way, is_asked, is_device, is_device_way, is_disk_hit, is_written_off}
use Rattle.pfc_log.specs.Positions.{StandsAt, IsOfOff}
use Rattle.pfc_log.specs.Lawful.{Lawful, Row, GoesDirect}
use Rattle.pfc_log.proofs.More.{times_more}
use Rattle.pfc_log.proofs.Places.{by_bool, along}
use Rattle.pfc_log.proofs.Flights.{same_number}
use Rattle.pfc_log.proofs.Tickets.{pass_front}

both : (a b : Bool) → (a && b) ≡ true → (a ≡ true) × (b ≡ true)
both true b h = (refl, h)
both false b h = absurd cc

lost_way : (first : Start) (es : List Entry) (i n t : ℕ) (why : Way) → is_lost_way t why ≡ true → GoesDirect first es i n why → times (is_lost i n t) es < times (is_asked i n t) es
lost_way first es i n t (way.Lost u) h row = subst (λ (v : ℕ). times (is_lost i n v) es < times (is_asked i n v) es) (same_number u t h) row.fewer
lost_way first es i n t (way.Full f w l) h row = absurd cc
lost_way first es i n t way.Device h row = absurd cc
lost_way first es i n t (way.Uncached why) h row = absurd cc

lost_direct : (first : Start) (es : List Entry) (i n t j m : ℕ) (why : Way) → (is_lost_way t why && j == i && m == n) ≡ true → GoesDirect first es j m why → times (is_lost i n t) es < times (is_asked i n t) es
lost_direct first es i n t j m why h row =
    let outer = both (is_lost_way t why && j == i) (m == n) h in
    let inner = both (is_lost_way t why) (j == i) outer.0 in
    lost_way first es i n t why inner.0
    (subst (λ (v : ℕ). GoesDirect first es i v why) (same_number m n outer.1) (subst (λ (v : ℕ). GoesDirect first es v m why) (same_number j i inner.1) row))

lost_row : (first : Start) (es : List Entry) (i n t : ℕ) (x : Entry) → Row first es x → is_lost i n t x ≡ true → times (is_lost i n t) es < times (is_asked i n t) es
lost_row first es i n t (e.Opened m) row h = absurd cc
lost_row first es i n t (e.Closed m) row h = absurd cc
lost_row first es i n t (e.Begin u j m) row h = absurd cc
lost_row first es i n t (e.Join u j m) row h = absurd cc
lost_row first es i n t (e.Hit j spot m) row h = absurd cc
lost_row first es i n t (e.Direct j m why) row h = lost_direct first es i n t j m why h row
lost_row first es i n t (e.Landed u) row h = absurd cc
lost_row first es i n t (e.Failed u why) row h = absurd cc
lost_row first es i n t (e.Dropped j why) row h = absurd cc
lost_row first es i n t (e.Wrote j) row h = absurd cc
lost_row first es i n t (e.Left j) row h = absurd cc
lost_row first es i n t e.Synced row h = absurd cc
lost_row first es i n t (e.Claimed q c) row h = absurd cc
lost_row first es i n t e.Frozen row h = absurd cc
lost_row first es i n t e.WrittenOff row h = absurd cc
lost_row first es i n t (e.Served m served) row h = absurd cc

-- a client reads a lost block from the origin at most as often as it asked for the flight
pub lost_bound : (first : Start) (es : List Entry) → Lawful first es → (i n t : ℕ) → times (is_lost i n t) es ≤ times (is_asked i n t) es
lost_bound first es law i n t = along first (λ (l : List Entry). times (is_lost i n t) l ≤ times (is_asked i n t) l) (omega arith)
    (λ xs x was row h. by_bool (is_lost i n t x)
    (λ y. omega (arith, lost_row first xs i n t x row y, times_more (is_lost i n t) xs x ∙ ap (λ (q : Bool). times (is_lost i n t) xs + (if q then 1 else 0)) y, times_more (is_asked i n t) xs x))
    (λ o. omega (arith, h, times_more (is_lost i n t) xs x ∙ ap (λ (q : Bool). times (is_lost i n t) xs + (if q then 1 else 0)) o, times_more (is_asked i n t) xs x))) es law

device_way : (first : Start) (es : List Entry) (i n : ℕ) (why : Way) → is_device_way why ≡ true → GoesDirect first es i n why → times (is_device i n) es < times (is_disk_hit i n) es
device_way first es i n (way.Lost u) h row = absurd cc
device_way first es i n (way.Full f w l) h row = absurd cc
device_way first es i n way.Device h row = row
device_way first es i n (way.Uncached why) h row = absurd cc

device_direct : (first : Start) (es : List Entry) (i n j m : ℕ) (why : Way) → (is_device_way why && j == i && m == n) ≡ true → GoesDirect first es j m why → times (is_device i n) es < times (is_disk_hit i n) es
device_direct first es i n j m why h row =
    let outer = both (is_device_way why && j == i) (m == n) h in
    let inner = both (is_device_way why) (j == i) outer.0 in
    device_way first es i n why inner.0
    (subst (λ (v : ℕ). GoesDirect first es i v why) (same_number m n outer.1) (subst (λ (v : ℕ). GoesDirect first es v m why) (same_number j i inner.1) row))

device_row : (first : Start) (es : List Entry) (i n : ℕ) (x : Entry) → Row first es x → is_device i n x ≡ true → times (is_device i n) es < times (is_disk_hit i n) es
device_row first es i n (e.Opened m) row h = absurd cc
device_row first es i n (e.Closed m) row h = absurd cc
device_row first es i n (e.Begin u j m) row h = absurd cc
device_row first es i n (e.Join u j m) row h = absurd cc
device_row first es i n (e.Hit j spot m) row h = absurd cc
device_row first es i n (e.Direct j m why) row h = device_direct first es i n j m why h row
device_row first es i n (e.Landed u) row h = absurd cc
device_row first es i n (e.Failed u why) row h = absurd cc
device_row first es i n (e.Dropped j why) row h = absurd cc
device_row first es i n (e.Wrote j) row h = absurd cc
device_row first es i n (e.Left j) row h = absurd cc
device_row first es i n e.Synced row h = absurd cc
device_row first es i n (e.Claimed q c) row h = absurd cc
device_row first es i n e.Frozen row h = absurd cc
device_row first es i n e.WrittenOff row h = absurd cc
device_row first es i n (e.Served m served) row h = absurd cc

-- a client reads a stored block from the origin at most as often as it found it on disk
pub device_bound : (first : Start) (es : List Entry) → Lawful first es → (i n : ℕ) → times (is_device i n) es ≤ times (is_disk_hit i n) es
device_bound first es law i n = along first (λ (l : List Entry). times (is_device i n) l ≤ times (is_disk_hit i n) l) (omega arith)
    (λ xs x was row h. by_bool (is_device i n x)
    (λ y. omega (arith, device_row first xs i n x row y, times_more (is_device i n) xs x ∙ ap (λ (q : Bool). times (is_device i n) xs + (if q then 1 else 0)) y, times_more (is_disk_hit i n) xs x))
    (λ o. omega (arith, h, times_more (is_device i n) xs x ∙ ap (λ (q : Bool). times (is_device i n) xs + (if q then 1 else 0)) o, times_more (is_disk_hit i n) xs x))) es law

off_clash : (es : List Entry) → 0 < times is_written_off es → times is_written_off es ≡ 0 → ⊥
off_clash es h k = omega arith

off_row : (first : Start) (es : List Entry) (x : Entry) → Row first es x → 0 < times is_written_off es → IsOfOff x
off_row first es (e.Opened m) row h = tt
off_row first es (e.Closed m) row h = tt
off_row first es (e.Begin u j m) row h = off_clash es h row.on
off_row first es (e.Join u j m) row h = off_clash es h row.0
off_row first es (e.Hit j spot m) row h = off_clash es h row.0
off_row first es (e.Direct j m why) row h = tt
off_row first es (e.Landed u) row h = tt
off_row first es (e.Failed u why) row h = tt
off_row first es (e.Dropped j why) row h = tt
off_row first es (e.Wrote j) row h = off_clash es h row.on
off_row first es (e.Left j) row h = tt
off_row first es e.Synced row h = off_clash es h row.on
off_row first es (e.Claimed q c) row h = off_clash es h row.working.on
off_row first es e.Frozen row h = off_clash es h row.on
off_row first es e.WrittenOff row h = off_clash es h row.1
off_row first es (e.Served m served) row h = tt

-- what stands behind `written_off`
pub off_behind : (first : Start) (es : List Entry) → Lawful first es → (p q : ℕ) (x : Entry) → StandsAt es p e.WrittenOff → p < q → StandsAt es q x → IsOfOff x
off_behind first es law p q x at low there =
    let more : times is_written_off (take p es) < times is_written_off (take q es) = pass_front is_written_off es p q e.WrittenOff at refl low in
    off_row first (take q es) x (law.rows q x there) (omega arith)
