-- The laws of lawful logs, as their functions state them.
use Rattle.std.proofs.Common.{◌≡◌, ℕ, ◌<◌, List, Bool, true, Some}
use Rattle.std.specs.Prelude.{◌↔◌}
use Rattle.pfc_log.specs.declared.entry.Entry.{Entry}
use Rattle.pfc_log.specs.declared.entry.Entry.TheVariants.{Begin}
use Rattle.pfc_log.specs.declared.start.Start.{Start}
use Rattle.pfc_log.specs.Views.{place, Flying, Here, is_ended}
use Rattle.pfc_log.specs.Owners.{owner}
use Rattle.pfc_log.specs.Positions.{StandsAt, IsOutSince, IsInSince, IsDoneSince, IsBegun, EndsBetween}
use Rattle.pfc_log.specs.Lawful.{Lawful}
use Rattle.pfc_log.proofs.More.{lawful_more}
use Rattle.pfc_log.proofs.Places.{lawful_front}
use Rattle.pfc_log.proofs.Flights.{out_since, still_out}
use Rattle.pfc_log.proofs.Residents.{in_since, here_exact}
use Rattle.pfc_log.proofs.Tickets.{begin_once, end_once, end_since, ended_between, owner_begun, owner_more}

pub flying_at : (first : Start) (es : List Entry) → Lawful first es → (i t n : ℕ) → (place i es ≡ Flying t n) ↔ ((p : ℕ) × IsOutSince es i t n p)
flying_at first es law i t n = (λ h. out_since i t n es h, λ s. still_out first i t n es law s.0 s.1)

pub here_at : (first : Start) (es : List Entry) → Lawful first es → (i t : ℕ) (done : Bool) → (place i es ≡ Here t done) ↔ ((p : ℕ) × IsInSince es i t p × IsDoneSince done es i p)
here_at first es law i t done = (λ h. in_since i t es done h, λ s. here_exact first i t es law done s.0 s.1 s.2)

pub between : (first : Start) (es : List Entry) → Lawful first es → (i t u n m p q : ℕ) → StandsAt es p (Begin t i n) → StandsAt es q (Begin u i m) → p < q → EndsBetween es t p q
between first es law i t u n m p q at there low =
    let r = ended_between first es law i t n u m p q at there low in
    record { at = r.0; entry = r.1; behind = r.2; before = r.3; stands = r.4; ends = r.5 }

pub begins_once : (first : Start) (es : List Entry) → Lawful first es → (t i j n m p q : ℕ) → StandsAt es p (Begin t i n) → StandsAt es q (Begin t j m) → p ≡ q
begins_once first es law t i j n m p q at there = begin_once first es law t i n j m p q at there

pub ends_begun : (first : Start) (es : List Entry) → Lawful first es → (t p : ℕ) (e : Entry) → StandsAt es p e → is_ended t e ≡ true → IsBegun es t p
ends_begun first es law t p e at h =
    let r = end_since first es law p t e at h in
    record { block = r.0; begun = record { at = r.2; client = r.1; before = r.3; stands = r.4 } }

pub begun_owner : (first : Start) (es : List Entry) → Lawful first es → (t i n p : ℕ) → StandsAt es p (Begin t i n) → owner t es ≡ Some n
begun_owner first es law t i n p at = owner_begun first es law p t i n at

pub ruleset growth = (lawful_more, lawful_front)

pub ruleset places = (flying_at, here_at)

pub ruleset one_flight = (between)

pub ruleset tickets = (begins_once, end_once, ends_begun)

pub ruleset owned = (begun_owner, owner_more)
