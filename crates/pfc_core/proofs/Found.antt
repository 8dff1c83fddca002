-- How often clients found blocks on disk, and went to the origin for a failing one, after a step.
use Rattle.std.proofs.Common.{◌≡◌, ℕ, ◌+◌, ◌<◌, List, [], ◌∷◌, ◌++◌, refl, ap, ◌∙◌, subst, arith, Bool, true, false, if◌then◌else◌, ◌==◌, ◌&&◌, eq-eqb}
use Rattle.std.specs.Prelude.{count_by}
use Rattle.pfc_log.specs.declared.entry.Entry.{Entry}
use Rattle.pfc_log.specs.declared.entry.Entry.TheVariants.{Hit, Direct}
use Rattle.pfc_log.specs.declared.entry.Spot.TheVariants.{Disk}
use Rattle.pfc_log.specs.declared.entry.Way.TheVariants.{Device}
use Rattle.pfc_log.specs.Views.{times, is_device, is_disk_hit}
use Rattle.pfc_log.proofs.More.{times_more, times_none}
use Rattle.pfc_core.specs.declared.held.Held.{Held}
use Rattle.pfc_core.specs.Held.{Puts, Takes}
use Rattle.pfc_core.specs.Kept.{is_found, AreFound}

-- an entry that is neither of the two
pub found_more : (es : List Entry) (e : Entry) (disks : List Held) → AreFound es disks → ((i n : ℕ) → (is_device i n e ≡ false) × (is_disk_hit i n e ≡ false)) → AreFound (es ++ e ∷ []) disks
found_more es e disks was none = record { each = λ i n. let w = was.each i n in let d = times_none (is_device i n) es e (none i n).0 in let h = times_none (is_disk_hit i n) es e (none i n).1 in omega arith }

-- a client finds a block on disk
pub found_hit : (es : List Entry) (p : Held) (b m : ℕ) (disks more : List Held) → AreFound es disks → Puts disks p more → p.block ≡ b → p.client ≡ m → AreFound (es ++ Hit b Disk m ∷ []) more
found_hit es p b m disks more was put block client = record {
  each = λ i n. let e : Entry = Hit b Disk m in
      let w = was.each i n in let d = times_none (is_device i n) es e refl in let h = times_more (is_disk_hit i n) es e in
      let same : is_found i n p ≡ (b == i && m == n) = ap (λ (k : ℕ). k == i && p.client == n) block ∙ ap (λ (k : ℕ). b == i && k == n) client in
      let c = put.each (λ (x : Held). if is_found i n x then 1 else 0) in let q = ap {B = ℕ} (λ (t : Bool). if t then 1 else 0) same in omega (arith, w, d, h, c, q);
}

-- its token goes
pub found_take : (es : List Entry) (p : Held) (disks more : List Held) → AreFound es disks → Takes p disks more → AreFound es more
found_take es p disks more was take = record { each = λ i n. let w = was.each i n in let c = take.each (λ (x : Held). if is_found i n x then 1 else 0) in omega arith }

-- and the client goes to the origin
pub found_leave : (es : List Entry) (p : Held) (disks more : List Held) → AreFound es disks → Takes p disks more → AreFound (es ++ Direct p.block p.client Device ∷ []) more
found_leave es p disks more was take = record {
  each = λ i n. let e : Entry = Direct p.block p.client Device in
      let w = was.each i n in let h = times_none (is_disk_hit i n) es e refl in let d = times_more (is_device i n) es e in
      let c : count_by (is_found i n) more + (if p.block == i && p.client == n then 1 else 0) ≡ count_by (is_found i n) disks = take.each (λ (x : Held). if is_found i n x then 1 else 0) in omega arith;
}

found_self : (p : Held) → is_found p.block p.client p ≡ true
found_self p = grind (arith, eq-eqb)

-- while it has such a token it has gone there less often than it found the block
pub found_row : (es : List Entry) (p : Held) (disks more : List Held) → AreFound es disks → Takes p disks more → times (is_device p.block p.client) es < times (is_disk_hit p.block p.client) es
found_row es p disks more was take =
    let w = was.each p.block p.client in
    let c : count_by (is_found p.block p.client) more + 1 ≡ count_by (is_found p.block p.client) disks = subst (λ (q : Bool). count_by (is_found p.block p.client) more + (if q then 1 else 0) ≡ count_by (is_found p.block p.client) disks) (found_self p) (take.each (λ (x : Held). if is_found p.block p.client x then 1 else 0)) in
    omega arith
