-- The calls of a client enter nothing that tells of a failed device, and end no block's waiting but where they drop one.
use Rattle.std.proofs.Common.{◌≡◌, ℕ, zero, suc, ◌<◌, List, [], ◌∷◌, ◌++◌, refl, ap, arith, Bool, true, false}
use Rattle.std.specs.Prelude.{◌==◌, if◌then◌else◌, Option, Some, None}
use Rattle.std.proofs.lemmas.List.{append-nil}
use Rattle.pfc_base.specs.declared.block.Part.{Part}
use Rattle.pfc_span.specs.declared.pieces.Pieces.{Pieces}
use Rattle.pfc_log.specs.declared.entry.DropCause.{DropCause}
use Rattle.pfc_log.specs.declared.entry.Entry.{Entry}
use Rattle.pfc_log.specs.declared.entry.Entry.TheVariants as e
use Rattle.pfc_log.specs.declared.entry.Served.{Served}
use Rattle.pfc_log.specs.declared.entry.Spot.TheVariants as spot
use Rattle.pfc_log.specs.declared.entry.Way.TheVariants as way
use Rattle.pfc_log.specs.Charges.{is_calm, GrowsCalmly}
use Rattle.pfc_core.specs.declared.token.Decision.{Decision}
use Rattle.pfc_core.specs.declared.token.Decision.TheVariants as decision
use Rattle.pfc_core.specs.Calls.{Decides, Drops, Unpins}
use Rattle.pfc_core.specs.Finishes.{Finishes, Releases, ReleasesAll, ReleasesDisk, ReleasesDisks, served_entries}
use Rattle.pfc_core.specs.Leaves.{leaves, pins_on}
use Rattle.pfc_core.specs.Marks.{Mark, listed}
use Rattle.pfc_core.specs.Access.{AccessView}
use Rattle.pfc_core.specs.View.{CoreView, entered}
use Rattle.pfc_read.specs.Ends.{EndsRead}
use Rattle.pfc_read.specs.OpView.{OpView}
use Rattle.pfc_read.specs.Plans.{DecidesAll, Plans}
use Rattle.pfc_actor.proofs.Growing.{Grows, is_quiet, grows_none, grows_one, grows_on, calmly, quiet_calmly}

abbrev pub GrowsQuietly : List Entry → List Entry → Type 0
GrowsQuietly es es2 = Grows is_quiet es es2

pub quiet_same : (es es2 : List Entry) → es2 ≡ es → GrowsQuietly es es2
quiet_same es es2 same = rw same (grows_none is_quiet es)

quiet_one : (es es2 : List Entry) (x : Entry) → es2 ≡ es ++ x ∷ [] → is_quiet x ≡ true → GrowsQuietly es es2
quiet_one es es2 x is quiet = rw is (grows_one is_quiet es x quiet)

-- nothing has changed
pub quiet_still : (c c2 : CoreView) → c2 ≡ c → GrowsQuietly c.entries c2.entries
quiet_still c c2 same = quiet_same c.entries c2.entries (ap (λ (v : CoreView). v.entries) same)

-- no entry came
pub quiet_kept : (c c2 : CoreView) → c2 ≡ record c { out = c2.out } → GrowsQuietly c.entries c2.entries
quiet_kept c c2 same = quiet_same c.entries c2.entries (ap (λ (v : CoreView). v.entries) same)

-- one quiet entry came
pub quiet_entered : (c c2 : CoreView) (x : Entry) (out : List Mark) → c2 ≡ entered c x out → is_quiet x ≡ true → GrowsQuietly c.entries c2.entries
quiet_entered c c2 x out enters quiet = quiet_one c.entries c2.entries x (ap (λ (v : CoreView). v.entries) enters) quiet

either : (es one other : List Entry) (q : Bool) → GrowsQuietly es one → GrowsQuietly es other → GrowsQuietly es (if q then one else other)
either es one other true this that = this
either es one other false this that = that

by_count : {C : Type 0} (n : ℕ) → (0 < n → C) → (n ≡ 0 → C) → C
by_count zero some none = none refl
by_count (suc n) some none = some (omega arith)

-- ---- a plan

quiet_decides : (c c2 : CoreView) (n : ℕ) (part : Part) (d : Decision (Unit {0})) → Decides c n part d c2 → GrowsQuietly c.entries c2.entries
quiet_decides c c2 n part (decision.Direct leave) is = quiet_entered c c2 (e.Direct part.block n (way.Uncached is.why)) c.out is.enters refl
quiet_decides c c2 n part (decision.Resident pin) is = quiet_entered c c2 (e.Hit part.block spot.Ram n) c2.out is.2.enters refl
quiet_decides c c2 n part (decision.Joined pin) is = quiet_entered c c2 (e.Join pin.flight part.block n) c2.out is.2.enters refl
quiet_decides c c2 n part (decision.Stored disk) is = quiet_entered c c2 (e.Hit part.block spot.Disk n) c2.out is.enters refl
quiet_decides c c2 n part (decision.Fetch ticket pin) is = quiet_entered c c2 (e.Begin ticket.number part.block n) c2.out is.enters refl

decides_all : (c c2 : CoreView) (n : ℕ) (parts : List Part) → DecidesAll c n parts c2 → GrowsQuietly c.entries c2.entries
decides_all c c2 n [] is = quiet_still c c2 is
decides_all c c2 n (part ∷ parts) (d, mid, first, later) = grows_on is_quiet c.entries mid.entries c2.entries (quiet_decides c mid n part d first) (decides_all mid c2 n parts later)

pub quiet_plans : (c c2 : CoreView) (n : ℕ) (pieces : Pieces) (op : OpView) → Plans c n pieces op c2 → GrowsQuietly c.entries c2.entries
quiet_plans c c2 n pieces op plans = grows_on is_quiet c.entries plans.mid.entries c2.entries (quiet_kept c plans.mid plans.begins.rest) (decides_all plans.mid c2 n plans.decided plans.decides)

-- ---- an end

unpinned : (c c2 : CoreView) (pin : Mark) → Unpins c pin c2 → GrowsQuietly c.entries c2.entries
unpinned c c2 pin unpins = rw (ap (λ (v : CoreView). v.entries) unpins.enters)
    (either c.entries (c.entries ++ e.Left pin.block ∷ []) c.entries (leaves c.entries c.out pin.block pin.flight) (grows_one is_quiet c.entries (e.Left pin.block) refl) (grows_none is_quiet c.entries))

released : (c c2 : CoreView) (pin : Mark) → Releases c pin c2 → GrowsQuietly c.entries c2.entries
released c c2 pin releases = by_count (listed pin c.out) (λ some. unpinned c c2 pin (releases.known some)) (λ none. quiet_still c c2 (releases.strange none))

released_all : (c c2 : CoreView) (pins : List Mark) → ReleasesAll c pins c2 → GrowsQuietly c.entries c2.entries
released_all c c2 [] is = quiet_still c c2 is
released_all c c2 (pin ∷ pins) (mid, first, later) = grows_on is_quiet c.entries mid.entries c2.entries (released c mid pin first) (released_all mid c2 pins later)

disk_released : (c c2 : CoreView) (disk : Mark) → ReleasesDisk c disk c2 → GrowsQuietly c.entries c2.entries
disk_released c c2 disk releases = by_count (listed disk c.out) (λ some. quiet_kept c c2 (releases.known some).rest) (λ none. quiet_still c c2 (releases.strange none))

disks_released : (c c2 : CoreView) (disks : List Mark) → ReleasesDisks c disks c2 → GrowsQuietly c.entries c2.entries
disks_released c c2 [] is = quiet_still c c2 is
disks_released c c2 (disk ∷ disks) (mid, first, later) = grows_on is_quiet c.entries mid.entries c2.entries (disk_released c mid disk first) (disks_released mid c2 disks later)

served : (es : List Entry) (n : ℕ) (answer : Option Served) → GrowsQuietly es (es ++ served_entries n answer)
served es n None = quiet_same es (es ++ []) (append-nil es)
served es n (Some s) = grows_one is_quiet es (e.Served n s) refl

finished : (c c2 : CoreView) (reading : Mark) (pins disks : List Mark) (answer : Option Served) → Finishes c reading pins disks answer c2 → GrowsQuietly c.entries c2.entries
finished c c2 reading pins disks answer f =
    let first : GrowsQuietly c.entries f.after.entries = rw (ap (λ (v : CoreView). v.entries) f.ends.enters) (served c.entries reading.client answer) in
    let pinned : GrowsQuietly c.entries f.unpinned.entries = grows_on is_quiet c.entries f.after.entries f.unpinned.entries first (released_all f.after f.unpinned pins f.releases) in
    grows_on is_quiet c.entries f.unpinned.entries c2.entries pinned (disks_released f.unpinned c2 disks f.disks_end)

pub quiet_ended : (c c2 : CoreView) (op : OpView) (answer : Option Served) → EndsRead c op answer c2 → GrowsQuietly c.entries c2.entries
quiet_ended c c2 op answer ended = by_count (listed op.reading c.out)
    (λ some. let closes = ended.known some in finished c c2 op.reading closes.pins closes.disks answer closes.finishes)
    (λ none. quiet_still c c2 (ended.strange none))

-- ---- of these, the first half

pub calm_still : (c c2 : CoreView) → c2 ≡ c → GrowsCalmly c.entries c2.entries
calm_still c c2 same = quiet_calmly c.entries c2.entries (quiet_still c c2 same)

pub calm_kept : (c c2 : CoreView) → c2 ≡ record c { out = c2.out } → GrowsCalmly c.entries c2.entries
calm_kept c c2 same = quiet_calmly c.entries c2.entries (quiet_kept c c2 same)

pub calm_entered : (c c2 : CoreView) (x : Entry) (out : List Mark) → c2 ≡ entered c x out → is_quiet x ≡ true → GrowsCalmly c.entries c2.entries
calm_entered c c2 x out enters quiet = quiet_calmly c.entries c2.entries (quiet_entered c c2 x out enters quiet)

-- so it is by a call that begins or ends an access too
pub calm_visited : (c c2 : CoreView) (x : Entry) (out : List Mark) (a : AccessView) → c2 ≡ record (entered c x out) { access = a } → is_quiet x ≡ true → GrowsCalmly c.entries c2.entries
calm_visited c c2 x out a enters quiet = quiet_calmly c.entries c2.entries (quiet_one c.entries c2.entries x (ap (λ (v : CoreView). v.entries) enters) quiet)

pub calm_plans : (c c2 : CoreView) (n : ℕ) (pieces : Pieces) (op : OpView) → Plans c n pieces op c2 → GrowsCalmly c.entries c2.entries
calm_plans c c2 n pieces op plans = quiet_calmly c.entries c2.entries (quiet_plans c c2 n pieces op plans)

pub calm_ended : (c c2 : CoreView) (op : OpView) (answer : Option Served) → EndsRead c op answer c2 → GrowsCalmly c.entries c2.entries
calm_ended c c2 op answer ended = quiet_calmly c.entries c2.entries (quiet_ended c c2 op answer ended)

-- ---- a block that is dropped

dropped_or_left : (es : List Entry) (x y : Entry) (alone : Bool) → is_calm x ≡ true → is_calm y ≡ true → Grows is_calm es (if alone then (es ++ x ∷ []) ++ y ∷ [] else es ++ x ∷ [])
dropped_or_left es x y true one two = grows_on is_calm es (es ++ x ∷ []) ((es ++ x ∷ []) ++ y ∷ []) (grows_one is_calm es x one) (grows_one is_calm (es ++ x ∷ []) y two)
dropped_or_left es x y false one two = grows_one is_calm es x one

pub calm_dropped : (c c2 : CoreView) (job : Mark) (why : DropCause) → is_calm (e.Dropped job.block why) ≡ true → Drops c job why c2 → GrowsCalmly c.entries c2.entries
calm_dropped c c2 job why calm drops =
    calmly c.entries c2.entries (rw (ap (λ (v : CoreView). v.entries) drops.enters) (dropped_or_left c.entries (e.Dropped job.block why) (e.Left job.block) (0 == pins_on job.block job.flight c.out) calm refl))
