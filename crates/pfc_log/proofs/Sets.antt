-- Which blocks are written or durable, read at the places of entries. This holds for every list of entries.
use Rattle.std.proofs.Common.{◌≡◌, ◌⊎◌, ℕ, List, [], length, sym, refl, ap, ◌∙◌, inl, inr, arith, Bool, true, false, Some}
use Rattle.std.specs.Prelude.{◌==◌, ◌||◌, ◌↔◌, if◌then◌else◌}
use Rattle.std.proofs.lemmas.Option.{slice_get_within}
use Rattle.pfc_log.specs.declared.entry.Entry.{Entry}
use Rattle.pfc_log.specs.declared.entry.Entry.TheVariants as e
use Rattle.pfc_log.specs.declared.start.Start.{Start}
use Rattle.pfc_log.specs.Views.{Kept, kept, keeps, started, durable}
use Rattle.pfc_log.specs.Positions.{StandsAt, IsWritten, IsSynced}
use Rattle.pfc_log.proofs.More.{kept_more}
use Rattle.pfc_log.proofs.Places.{from_end, cases_eq, eq_self, stands_old, stands_new, stands_split}

or_true : (q : Bool) → (q || true) ≡ true
or_true true = refl
or_true false = refl

nothing : (p : ℕ) (x : Entry) → StandsAt [] p x → ⊥
nothing p x h = cc

if_written : (q : Bool) (s : Kept) → (if q then record { written = true; durable = s.durable } else s).written ≡ (q || s.written)
if_written true s = refl
if_written false s = refl

if_durable : (q : Bool) (s : Kept) → (if q then record { written = true; durable = s.durable } else s).durable ≡ s.durable
if_durable true s = refl
if_durable false s = refl

-- a block is written by a `wrote` of it, or was before
now_written : (i : ℕ) (s : Kept) (x : Entry) → (keeps i s x).written ≡ true → (s.written ≡ true) ⊎ (x ≡ e.Wrote i)
now_written i s (e.Opened m) h = inl h
now_written i s (e.Closed m) h = inl h
now_written i s (e.Begin u j m) h = inl h
now_written i s (e.Join u j m) h = inl h
now_written i s (e.Hit j spot m) h = inl h
now_written i s (e.Direct j m why) h = inl h
now_written i s (e.Landed u) h = inl h
now_written i s (e.Failed u why) h = inl h
now_written i s (e.Dropped j why) h = inl h
now_written i s (e.Wrote j) h = elim (cases_eq j i) [
  | inl w ↦ inr (ap e.Wrote w.0)
  | inr w ↦ inl (sym (ap (λ (q : Bool). q || s.written) w.1) ∙ sym (if_written (j == i) s) ∙ h)
]
now_written i s (e.Left j) h = inl h
now_written i s e.Synced h = inl h
now_written i s (e.Claimed q c) h = inl h
now_written i s e.Frozen h = inl h
now_written i s e.WrittenOff h = inl h
now_written i s (e.Served m served) h = inl h

-- a block that is written stays so
still_written : (i : ℕ) (s : Kept) (x : Entry) → s.written ≡ true → (keeps i s x).written ≡ true
still_written i s (e.Opened m) h = h
still_written i s (e.Closed m) h = h
still_written i s (e.Begin u j m) h = h
still_written i s (e.Join u j m) h = h
still_written i s (e.Hit j spot m) h = h
still_written i s (e.Direct j m why) h = h
still_written i s (e.Landed u) h = h
still_written i s (e.Failed u why) h = h
still_written i s (e.Dropped j why) h = h
still_written i s (e.Wrote j) h = if_written (j == i) s ∙ ap (λ (a : Bool). (j == i) || a) h ∙ or_true (j == i)
still_written i s (e.Left j) h = h
still_written i s e.Synced h = h
still_written i s (e.Claimed q c) h = h
still_written i s e.Frozen h = h
still_written i s e.WrittenOff h = h
still_written i s (e.Served m served) h = h

-- a block is durable by a sync after it was written, or was before
now_durable : (i : ℕ) (s : Kept) (x : Entry) → (keeps i s x).durable ≡ true → (s.durable ≡ true) ⊎ ((x ≡ e.Synced) × (s.written ≡ true))
now_durable i s (e.Opened m) h = inl h
now_durable i s (e.Closed m) h = inl h
now_durable i s (e.Begin u j m) h = inl h
now_durable i s (e.Join u j m) h = inl h
now_durable i s (e.Hit j spot m) h = inl h
now_durable i s (e.Direct j m why) h = inl h
now_durable i s (e.Landed u) h = inl h
now_durable i s (e.Failed u why) h = inl h
now_durable i s (e.Dropped j why) h = inl h
now_durable i s (e.Wrote j) h = inl (sym (if_durable (j == i) s) ∙ h)
now_durable i s (e.Left j) h = inl h
now_durable i s e.Synced h = inr (refl, h)
now_durable i s (e.Claimed q c) h = inl h
now_durable i s e.Frozen h = inl h
now_durable i s e.WrittenOff h = inl h
now_durable i s (e.Served m served) h = inl h

-- a block that is durable stays so, since it is written
still_durable : (i : ℕ) (s : Kept) (x : Entry) → s.durable ≡ true → s.written ≡ true → (keeps i s x).durable ≡ true
still_durable i s (e.Opened m) h w = h
still_durable i s (e.Closed m) h w = h
still_durable i s (e.Begin u j m) h w = h
still_durable i s (e.Join u j m) h w = h
still_durable i s (e.Hit j spot m) h w = h
still_durable i s (e.Direct j m why) h w = h
still_durable i s (e.Landed u) h w = h
still_durable i s (e.Failed u why) h w = h
still_durable i s (e.Dropped j why) h w = h
still_durable i s (e.Wrote j) h w = if_durable (j == i) s ∙ h
still_durable i s (e.Left j) h w = h
still_durable i s e.Synced h w = w
still_durable i s (e.Claimed q c) h w = h
still_durable i s e.Frozen h w = h
still_durable i s e.WrittenOff h w = h
still_durable i s (e.Served m served) h w = h

written_at : (first : Start) (i : ℕ) (es : List Entry) → (kept first i es).written ≡ true → (started first i ≡ true) ⊎ IsWritten es i
written_at first i = from_end (λ (l : List Entry). (kept first i l).written ≡ true → (started first i ≡ true) ⊎ IsWritten l i)
    (λ h. inl h)
    (λ xs x was h. elim (now_written i (kept first i xs) x (sym (ap (λ (s : Kept). s.written) (kept_more first i xs x)) ∙ h)) [
      | inl w ↦ elim (was w) [
        | inl s ↦ inl s
        | inr r ↦ inr (record { at = r.at; stands = stands_old xs x (e.Wrote i) r.at r.stands })
      ]
      | inr w ↦ inr (record { at = length xs; stands = stands_new xs x ∙ ap (λ (f : Entry). Some f) w })
    ])

at_written : (first : Start) (i : ℕ) (es : List Entry) → (started first i ≡ true) ⊎ IsWritten es i → (kept first i es).written ≡ true
at_written first i = from_end (λ (l : List Entry). (started first i ≡ true) ⊎ IsWritten l i → (kept first i l).written ≡ true)
    (λ h. elim h [ inl s ↦ s | inr r ↦ absurd (nothing r.at (e.Wrote i) r.stands) ])
    (λ xs x was h. ap (λ (s : Kept). s.written) (kept_more first i xs x) ∙ elim h [
      | inl s ↦ still_written i (kept first i xs) x (was (inl s))
      | inr r ↦ elim (stands_split xs x (e.Wrote i) r.at r.stands) [
        | inl w ↦ still_written i (kept first i xs) x (was (inr (record { at = r.at; stands = w })))
        | inr w ↦ ap (λ (f : Entry). (keeps i (kept first i xs) f).written) (sym w.0) ∙ if_written (i == i) (kept first i xs) ∙ ap (λ (a : Bool). a || (kept first i xs).written) (eq_self i)
      ]
    ])

durable_at : (first : Start) (i : ℕ) (es : List Entry) → durable first i es ≡ true → (started first i ≡ true) ⊎ IsSynced es i
durable_at first i = from_end (λ (l : List Entry). durable first i l ≡ true → (started first i ≡ true) ⊎ IsSynced l i)
    (λ h. inl h)
    (λ xs x was h. elim (now_durable i (kept first i xs) x (sym (ap (λ (s : Kept). s.durable) (kept_more first i xs x)) ∙ h)) [
      | inl w ↦ elim (was w) [
        | inl s ↦ inl s
        | inr r ↦ inr (record { at = r.at; sync = r.sync; before = r.before; stands = stands_old xs x (e.Wrote i) r.at r.stands; synced = stands_old xs x e.Synced r.sync r.synced })
      ]
      | inr w ↦ elim (written_at first i xs w.1) [
        | inl s ↦ inl s
        | inr r ↦ inr (record { at = r.at; sync = length xs; before = slice_get_within xs r.at (e.Wrote i) r.stands; stands = stands_old xs x (e.Wrote i) r.at r.stands; synced = stands_new xs x ∙ ap (λ (f : Entry). Some f) w.0 })
      ]
    ])

written_of : (es : List Entry) (i : ℕ) → IsSynced es i → IsWritten es i
written_of es i r = record { at = r.at; stands = r.stands }

at_durable : (first : Start) (i : ℕ) (es : List Entry) → (started first i ≡ true) ⊎ IsSynced es i → durable first i es ≡ true
at_durable first i = from_end (λ (l : List Entry). (started first i ≡ true) ⊎ IsSynced l i → durable first i l ≡ true)
    (λ h. elim h [ inl s ↦ s | inr r ↦ absurd (nothing r.at (e.Wrote i) r.stands) ])
    (λ xs x was h. ap (λ (s : Kept). s.durable) (kept_more first i xs x) ∙ elim h [
      | inl s ↦ still_durable i (kept first i xs) x (was (inl s)) (at_written first i xs (inl s))
      | inr r ↦ elim (stands_split xs x e.Synced r.sync r.synced) [
        | inl w ↦ elim (stands_split xs x (e.Wrote i) r.at r.stands) [
          | inl v ↦
              let old : IsSynced xs i = record { at = r.at; sync = r.sync; before = r.before; stands = v; synced = w } in
              still_durable i (kept first i xs) x (was (inr old)) (at_written first i xs (inr (written_of xs i old)))
          | inr v ↦ absurd (omega (arith, v.1, r.before, slice_get_within xs r.sync e.Synced w))
        ]
        | inr w ↦ elim (stands_split xs x (e.Wrote i) r.at r.stands) [
          | inl v ↦ ap (λ (f : Entry). (keeps i (kept first i xs) f).durable) (sym w.0) ∙ at_written first i xs (inr (record { at = r.at; stands = v }))
          | inr v ↦ absurd (omega (arith, v.1, w.1, r.before))
        ]
      ]
    ])

pub written_exact : (first : Start) (es : List Entry) (i : ℕ) → ((kept first i es).written ≡ true) ↔ ((started first i ≡ true) ⊎ IsWritten es i)
written_exact first es i = (written_at first i es, at_written first i es)

pub durable_exact : (first : Start) (es : List Entry) (i : ℕ) → (durable first i es ≡ true) ↔ ((started first i ≡ true) ⊎ IsSynced es i)
durable_exact first es i = (durable_at first i es, at_durable first i es)
