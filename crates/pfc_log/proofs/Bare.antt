-- What stands in a log that starts uncached.
use Rattle.std.proofs.Common.{◌≡◌, ℕ, List, [], ◌∷◌, ◌++◌, sym, refl, ap, ◌∙◌, subst, inl, inr, arith, Bool, true, false}
use Rattle.std.specs.Prelude.{◌==◌, IsTrue, if◌then◌else◌}
use Rattle.pfc_log.specs.declared.entry.Entry.{Entry}
use Rattle.pfc_log.specs.declared.entry.Entry.TheVariants as e
use Rattle.pfc_log.specs.declared.entry.Spot.{Spot}
use Rattle.pfc_log.specs.declared.entry.Spot.TheVariants.{Ram, Disk}
use Rattle.pfc_log.specs.declared.entry.Way.{Way}
use Rattle.pfc_log.specs.declared.entry.Way.TheVariants as way
use Rattle.pfc_log.specs.declared.entry.Uncached.{Uncached}
use Rattle.pfc_log.specs.declared.entry.Uncached.TheVariants as reason
use Rattle.pfc_log.specs.declared.start.Start.TheVariants as start
use Rattle.pfc_log.specs.Views.{Place, Away, Flying, Here, place, moves, is_here, times, is_failed, is_disk_hit, is_frozen, is_written_off, kept, stored}
use Rattle.pfc_log.specs.Positions.{StandsAt, IsOfUncached}
use Rattle.pfc_log.specs.Lawful.{Lawful, Row, IsUncached, GoesDirect, IsHit}
use Rattle.pfc_log.proofs.More.{place_more, times_none, kept_more}
use Rattle.pfc_log.proofs.Places.{stands_split, along}

-- nothing has happened but opens, closes, served reads and direct reads for this cause
record IsBare (why : Uncached) (es : List Entry) : Type 0 where
  away : (i : ℕ) → place i es ≡ Away
  landed : (t : ℕ) → times (is_failed t) es ≡ 0
  found : (i n : ℕ) → times (is_disk_hit i n) es ≡ 0
  off : times is_written_off es ≡ 0
  unwritten : (i : ℕ) → (kept (start.Uncached why) i es).written ≡ false
  undurable : (i : ℕ) → (kept (start.Uncached why) i es).durable ≡ false
  entries : (p : ℕ) (x : Entry) → StandsAt es p x → IsOfUncached why x

unstored : (why : Uncached) (es : List Entry) → IsBare why es → (i : ℕ) → stored (start.Uncached why) i es ≡ false
unstored why es was i =
    ap (λ (a : Bool). if 0 == times is_frozen es then a else (kept (start.Uncached why) i es).durable) (was.unwritten i)
    ∙ ap (λ (a : Bool). if 0 == times is_frozen es then false else a) (was.undurable i)
    ∙ elim (0 == times is_frozen es) as (λ q. (if q then false else false) ≡ false) [ true ↦ refl | false ↦ refl ]

not_here : (why : Uncached) (es : List Entry) → IsBare why es → (i : ℕ) → IsTrue (is_here (place i es)) → ⊥
not_here why es was i h = let clash : false ≡ true = sym (ap is_here (was.away i)) ∙ h in cc

not_flying : (why : Uncached) (es : List Entry) → IsBare why es → (i t n : ℕ) → place i es ≡ Flying t n → ⊥
not_flying why es was i t n h = let clash : Away ≡ Flying t n = sym (was.away i) ∙ h in cc

not_done : (why : Uncached) (es : List Entry) → IsBare why es → (i t : ℕ) → place i es ≡ Here t true → ⊥
not_done why es was i t h = let clash : Away ≡ Here t true = sym (was.away i) ∙ h in cc

not_hit : (why : Uncached) (es : List Entry) → IsBare why es → (i : ℕ) (spot : Spot) → IsHit (start.Uncached why) es i spot → ⊥
not_hit why es was i Ram h = not_here why es was i h
not_hit why es was i Disk h = let clash : false ≡ true = sym (unstored why es was i) ∙ h.0 in cc

same_cause : (why cause : Uncached) (es : List Entry) → times is_written_off es ≡ 0 → IsUncached (start.Uncached why) es cause → way.Uncached cause ≡ way.Uncached why
same_cause why reason.Suffix es off h = let same : start.Uncached why ≡ start.Uncached reason.Suffix = h in cc
same_cause why reason.Blocks es off h = let same : start.Uncached why ≡ start.Uncached reason.Blocks = h in cc
same_cause why reason.Volume es off h = let same : start.Uncached why ≡ start.Uncached reason.Volume = h in cc
same_cause why reason.Shell es off h = let same : start.Uncached why ≡ start.Uncached reason.Shell = h in cc
same_cause why (reason.Strayed who) es off h = elim h [
  | inl same ↦ cc
  | inr more ↦ absurd (omega arith)
]

direct_cause : (why : Uncached) (es : List Entry) → IsBare why es → (i n : ℕ) (cause : Way) → GoesDirect (start.Uncached why) es i n cause → cause ≡ way.Uncached why
direct_cause why es was i n (way.Full f w l) row = absurd row.0
direct_cause why es was i n (way.Lost t) row = absurd (omega (arith, row.failed, was.landed t))
direct_cause why es was i n way.Device row = absurd (omega (arith, row, was.found i n))
direct_cause why es was i n (way.Uncached cause) row = same_cause why cause es was.off row

-- each lawful entry is one of those
bare_row : (why : Uncached) (es : List Entry) → IsBare why es → (x : Entry) → Row (start.Uncached why) es x → IsOfUncached why x
bare_row why es was (e.Opened m) row = row
bare_row why es was (e.Closed m) row = tt
bare_row why es was (e.Begin u j m) row = row.cached
bare_row why es was (e.Join u j m) row = not_flying why es was j u row.1.0 row.1.1
bare_row why es was (e.Hit j spot m) row = not_hit why es was j spot row.1
bare_row why es was (e.Direct j m cause) row = direct_cause why es was j m cause row
bare_row why es was (e.Landed u) row = not_flying why es was row.0 u row.1 row.2
bare_row why es was (e.Failed u cause) row = not_flying why es was row.0 u row.1 row.2
bare_row why es was (e.Dropped j cause) row = not_here why es was j row.0
bare_row why es was (e.Wrote j) row = not_here why es was j row.here
bare_row why es was (e.Left j) row = not_done why es was j row.0 row.1
bare_row why es was e.Synced row = row.cached
bare_row why es was (e.Claimed q c) row = row.working.cached
bare_row why es was e.Frozen row = row.cached
bare_row why es was e.WrittenOff row = row.0
bare_row why es was (e.Served m served) row = row

-- and such an entry changes nothing of all that
bare_more : (why : Uncached) (es : List Entry) → IsBare why es → (x : Entry) → IsOfUncached why x →
    ((i : ℕ) (p : Place) → moves i p x ≡ p) → ((t : ℕ) → is_failed t x ≡ false) → ((i n : ℕ) → is_disk_hit i n x ≡ false) → is_written_off x ≡ false →
    ((i : ℕ) → kept (start.Uncached why) i (es ++ x ∷ []) ≡ kept (start.Uncached why) i es) → IsBare why (es ++ x ∷ [])
bare_more why es was x is still failed hit off same = record {
  away = λ i. place_more i es x ∙ still i (place i es) ∙ was.away i;
  landed = λ t. times_none (is_failed t) es x (failed t) ∙ was.landed t;
  found = λ i n. times_none (is_disk_hit i n) es x (hit i n) ∙ was.found i n;
  off = times_none is_written_off es x off ∙ was.off;
  unwritten = λ i. ap (λ s. s.written) (same i) ∙ was.unwritten i;
  undurable = λ i. ap (λ s. s.durable) (same i) ∙ was.undurable i;
  entries = λ p y at. elim (stands_split es x y p at) [
    | inl w ↦ was.entries p y w
    | inr w ↦ subst (λ (f : Entry). IsOfUncached why f) (sym w.0) is
  ];
}

bare_step : (why : Uncached) (es : List Entry) (x : Entry) → IsOfUncached why x → IsBare why es → IsBare why (es ++ x ∷ [])
bare_step why es (e.Opened m) is was = bare_more why es was (e.Opened m) is (λ i p. refl) (λ t. refl) (λ i n. refl) refl (λ i. kept_more (start.Uncached why) i es (e.Opened m))
bare_step why es (e.Closed m) is was = bare_more why es was (e.Closed m) is (λ i p. refl) (λ t. refl) (λ i n. refl) refl (λ i. kept_more (start.Uncached why) i es (e.Closed m))
bare_step why es (e.Begin u j m) is was = absurd is
bare_step why es (e.Join u j m) is was = absurd is
bare_step why es (e.Hit j spot m) is was = absurd is
bare_step why es (e.Direct j m cause) is was = bare_more why es was (e.Direct j m cause) is (λ i p. refl) (λ t. refl) (λ i n. refl) refl (λ i. kept_more (start.Uncached why) i es (e.Direct j m cause))
bare_step why es (e.Landed u) is was = absurd is
bare_step why es (e.Failed u cause) is was = absurd is
bare_step why es (e.Dropped j cause) is was = absurd is
bare_step why es (e.Wrote j) is was = absurd is
bare_step why es (e.Left j) is was = absurd is
bare_step why es e.Synced is was = absurd is
bare_step why es (e.Claimed q c) is was = absurd is
bare_step why es e.Frozen is was = absurd is
bare_step why es e.WrittenOff is was = absurd is
bare_step why es (e.Served m served) is was = bare_more why es was (e.Served m served) is (λ i p. refl) (λ t. refl) (λ i n. refl) refl (λ i. kept_more (start.Uncached why) i es (e.Served m served))

nothing : (p : ℕ) (x : Entry) → StandsAt [] p x → ⊥
nothing p x h = cc

bare_log : (why : Uncached) (es : List Entry) → Lawful (start.Uncached why) es → IsBare why es
bare_log why = along (start.Uncached why) (λ (l : List Entry). IsBare why l)
    (record { away = λ i. refl; landed = λ t. refl; found = λ i n. refl; off = refl; unwritten = λ i. refl; undurable = λ i. refl; entries = λ p x at. absurd (nothing p x at) })
    (λ xs x law row was. bare_step why xs x (bare_row why xs was x row) was)

pub uncached_only : (why : Uncached) (es : List Entry) → Lawful (start.Uncached why) es → (p : ℕ) (x : Entry) → StandsAt es p x → IsOfUncached why x
uncached_only why es law p x at = (bare_log why es law).entries p x at
