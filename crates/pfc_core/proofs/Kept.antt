-- What each call does to what is kept, over plain values.
use Rattle.std.proofs.Common.{◌≡◌, ◌≢◌, ◌⊎◌, ℕ, ◌+◌, ◌<◌, ◌≤◌, IsTrue, IsFalse, List, [], ◌∷◌, ◌++◌, length, sym, refl, ap, ◌∙◌, subst, inl, inr, arith, Bool, true, false, Option, Some, None, if◌then◌else◌, ◌==◌, ◌||◌, not, eq-eqb, ne_eqb}
use mathlib.Core.Logic.{dite}
use native.Mathlib.Decide.{ℕ_discrete}
use Rattle.std.proofs.lemmas.List.Sums.{count_by-le-length}
use Rattle.pfc_log.specs.declared.entry.Entry.{Entry}
use Rattle.pfc_log.specs.declared.entry.Entry.TheVariants.{Begin, Join, Hit, Direct, Landed, Failed, Dropped, Wrote, Left}
use Rattle.pfc_log.specs.declared.start.Start.{Start}
use Rattle.pfc_log.specs.declared.entry.Fell.{Fell}
use Rattle.pfc_log.specs.declared.entry.Spot.TheVariants.{Ram}
use Rattle.pfc_log.specs.declared.entry.Way.TheVariants.{Lost}
use Rattle.pfc_log.specs.declared.entry.DropCause.{DropCause}
use Rattle.pfc_log.specs.Views.{Place, Away, Flying, Here, place, moves, is_here, times, bound, stored, Kept, kept, is_begin, is_landed, is_failed, is_lost, is_asked, is_written_off}
use Rattle.pfc_log.specs.Lawful.{Row, MayDrop, MayWrite, IsCached}
use Rattle.pfc_log.specs.Positions.{IsWritten}
use Rattle.pfc_log.proofs.More.{lawful_more, kept_more, times_none, times_one}
use Rattle.pfc_log.proofs.Places.{stands_old}
use Rattle.pfc_log.proofs.Sets.{written_exact}
use Rattle.pfc_core.specs.declared.slot.Slot.{Slot}
use Rattle.pfc_core.specs.declared.held.Held.{Held}
use Rattle.pfc_core.specs.Held.{Puts, Takes}
use Rattle.pfc_core.specs.Pins.{is_on}
use Rattle.pfc_core.specs.Slots.{slot_of, ticket_in, landed_slot, bumped, fresh_slot, lowered, ended_slot, written_slot}
use Rattle.pfc_core.specs.Tied.{IsTied, IsFine, Fine, IsAlive}
use Rattle.pfc_core.specs.Kept.{IsWell, IsSaved, IsHeld}
use Rattle.pfc_log.specs.Owners.{owner}
use Rattle.pfc_log.proofs.Tickets.{owner_more, owner_new}
use Rattle.pfc_core.specs.Owned.{IsOwned}
use Rattle.pfc_core.proofs.Owned.{client_not, owned_more, owned_at, owned_change, owned_gone, owned_put, owned_take, owned_pin}
use Rattle.pfc_core.proofs.HereTied.{left_tied, drop_tied, wrote_tied, end_tied, or_true}
use Rattle.pfc_core.proofs.PinsTied.{bump_tied, begin_tied, asked_yes, gone_tied, lost_tied, lost_row, less_tied}
use Rattle.pfc_core.proofs.Tied.{land_tied, fail_tied, here, there, quiet_tied}

-- an entry that begins nothing and doesn't write the store off
pub well_more : (first : Start) (es : List Entry) (e : Entry) (n : ℕ) → IsWell first es n → Row first es e → is_written_off e ≡ false → is_begin e ≡ false → IsWell first (es ++ e ∷ []) n
well_more first es e n well row still none = record {
  lawful = lawful_more first es e well.lawful row;
  is_on = times_none is_written_off es e still ∙ well.is_on;
  begun_is = well.begun_is ∙ sym (times_none is_begin es e none);
}

-- a block that is written stays so
written_more : (first : Start) (es : List Entry) (e : Entry) (i : ℕ) → (kept first i es).written ≡ true → (kept first i (es ++ e ∷ [])).written ≡ true
written_more first es e i h = (written_exact first (es ++ e ∷ []) i).1 (elim ((written_exact first es i).0 h) [
  | inl w ↦ inl w
  | inr w ↦ inr (longer w)
])
  where
    longer : IsWritten es i → IsWritten (es ++ e ∷ []) i
    longer w = record { at = w.at; stands = stands_old es e (Wrote i) w.at w.stands }

-- a block is written once its `wrote` stands
pub now_written : (first : Start) (es : List Entry) (i : ℕ) → (kept first i (es ++ Wrote i ∷ [])).written ≡ true
now_written first es i = ap (λ (k : Kept). k.written) (kept_more first i es (Wrote i)) ∙ ap (λ (q : Bool). (if q then record { written = true; durable = (kept first i es).durable } else kept first i es).written) (eq-eqb i i refl)

saved_step : (first : Start) (es : List Entry) (e : Entry) (i : ℕ) (o : Option Slot) → IsSaved first es i o → IsSaved first (es ++ e ∷ []) i o
saved_step first es e i None was = tt
saved_step first es e i (Some s) was = λ h. written_more first es e i (was h)

saved_more : (first : Start) (es : List Entry) (e : Entry) (slots : List Slot) → ((i : ℕ) → IsSaved first es i (slot_of i slots)) → (i : ℕ) → IsSaved first (es ++ e ∷ []) i (slot_of i slots)
saved_more first es e slots was i = saved_step first es e i (slot_of i slots) (was i)

saved_same : (first : Start) (es : List Entry) (i : ℕ) (o p : Option Slot) → o ≡ p → IsSaved first es i p → IsSaved first es i o
saved_same first es i o p e h = subst (λ (q : Option Slot). IsSaved first es i q) (sym e) h

-- one slot is another
saved_at : (first : Start) (es : List Entry) (b : ℕ) (x : Option Slot) (old new : List Slot) → ((i : ℕ) → IsSaved first es i (slot_of i old)) → IsSaved first es b x → ((i : ℕ) → slot_of i new ≡ (if b == i then x else slot_of i old)) → (i : ℕ) → IsSaved first es i (slot_of i new)
saved_at first es b x old new was is new_is i = dite (ℕ_discrete b i)
    (λ e. saved_same first es i _ x (here b i _ _ _ (new_is i) e) (subst (λ (k : ℕ). IsSaved first es k x) e is))
    (λ k. saved_same first es i _ (slot_of i old) (there b i _ _ _ (new_is i) k) (was i))

-- what is known of a slot
pub saved_of : (first : Start) (es : List Entry) (b : ℕ) (slots : List Slot) (x : Slot) → ((i : ℕ) → IsSaved first es i (slot_of i slots)) → slot_of b slots ≡ Some x → x.written ≡ true → (kept first b es).written ≡ true
saved_of first es b slots x was at = subst (λ (q : Option Slot). IsSaved first es b q) at (was b)

is_true : {q : Bool} → q ≡ true → IsTrue q
is_true h = h

is_false : {q : Bool} → q ≡ false → IsFalse q
is_false h = h

alive_at : (o p : Option Slot) → o ≡ p → IsAlive p → IsAlive o
alive_at o p e h = subst IsAlive (sym e) h

fine_of : (first : Start) (es : List Entry) (n b : ℕ) (slots : List Slot) (pins : List Held) (x : Slot) → IsHeld first es n slots pins → slot_of b slots ≡ Some x → IsFine es pins b x
fine_of first es n b slots pins x held at = subst (λ (q : Option Slot). Fine es pins b q) at (held.tied.fine b)

-- where a slot's block is
pub flying_at : (first : Start) (es : List Entry) (n b : ℕ) (slots : List Slot) (pins : List Held) (x : Slot) → IsHeld first es n slots pins → slot_of b slots ≡ Some x → x.landed ≡ false → place b es ≡ Flying x.ticket x.client
flying_at first es n b slots pins x held at out = (fine_of first es n b slots pins x held at).is ∙ ap (λ (q : Bool). if q then Here x.ticket (x.written || not x.job) else Flying x.ticket x.client) out

pub here_at : (first : Start) (es : List Entry) (n b : ℕ) (slots : List Slot) (pins : List Held) (x : Slot) → IsHeld first es n slots pins → slot_of b slots ≡ Some x → x.landed ≡ true → place b es ≡ Here x.ticket (x.written || not x.job)
here_at first es n b slots pins x held at landed = (fine_of first es n b slots pins x held at).is ∙ ap (λ (q : Bool). if q then Here x.ticket (x.written || not x.job) else Flying x.ticket x.client) landed

pub away_at : (first : Start) (es : List Entry) (n b : ℕ) (slots : List Slot) (pins : List Held) → IsHeld first es n slots pins → slot_of b slots ≡ None → place b es ≡ Away
away_at first es n b slots pins held at = subst (λ (q : Option Slot). Fine es pins b q) at (held.tied.fine b)

-- each slot is alive where those that stay were and the new one is
alive_all : (b : ℕ) (old new : List Slot) (x : Option Slot) → ((i : ℕ) → IsAlive (slot_of i old)) → ((i : ℕ) → slot_of i new ≡ (if b == i then x else slot_of i old)) → IsAlive x → (i : ℕ) → IsAlive (slot_of i new)
alive_all b old new x was new_is is i = dite (ℕ_discrete b i)
    (λ e. alive_at _ x (here b i _ _ _ (new_is i) e) is)
    (λ k. alive_at _ (slot_of i old) (there b i _ _ _ (new_is i) k) (was i))

pub land_kept : (first : Start) (es : List Entry) (n : ℕ) (old new : List Slot) (pins : List Held) (b t : ℕ) (x : Slot) → IsHeld first es n old pins → slot_of b old ≡ Some x → ((i : ℕ) → slot_of i new ≡ (if b == i then Some (landed_slot x) else slot_of i old)) → x.landed ≡ false → x.ticket ≡ t → IsHeld first (es ++ Landed t ∷ []) n new pins
land_kept first es n old new pins b t x held at new_is out ticket = record {
  well = well_more first es (Landed t) n held.well (b, x.client, flying_at first es n b old pins x held at out ∙ ap (λ (k : ℕ). Flying k x.client) ticket) refl refl;
  tied = land_tied t b x es (λ i. slot_of i old) (λ i. slot_of i new) pins held.tied at out ticket new_is;
  alive = alive_all b old new (Some (landed_slot x)) held.alive new_is (λ h d. absurd cc);
  owned = owned_more es (Landed t) _ pins (owned_change es b x (landed_slot x) (λ i. slot_of i old) (λ i. slot_of i new) pins held.owned at refl refl new_is);
  saved = saved_more first es (Landed t) new (saved_at first es b (Some (landed_slot x)) old new held.saved (λ h. absurd cc) new_is);
}

pub fail_kept : (first : Start) (es : List Entry) (n : ℕ) (old new : List Slot) (pins : List Held) (b t : ℕ) (why : Fell) (x : Slot) → IsHeld first es n old pins → slot_of b old ≡ Some x → ((i : ℕ) → slot_of i new ≡ (if b == i then None else slot_of i old)) → x.landed ≡ false → x.ticket ≡ t → IsHeld first (es ++ Failed t why ∷ []) n new pins
fail_kept first es n old new pins b t why x held at new_is out ticket = record {
  well = well_more first es (Failed t why) n held.well (b, x.client, flying_at first es n b old pins x held at out ∙ ap (λ (k : ℕ). Flying k x.client) ticket) refl refl;
  tied = fail_tied t b why x es (λ i. slot_of i old) (λ i. slot_of i new) pins held.tied at out ticket new_is;
  alive = alive_all b old new None held.alive new_is tt;
  owned = owned_more es (Failed t why) _ pins (owned_gone es b (λ i. slot_of i old) (λ i. slot_of i new) pins held.owned new_is);
  saved = saved_more first es (Failed t why) new (saved_at first es b None old new held.saved tt new_is);
}

bump_kept : (first : Start) (es : List Entry) (n : ℕ) (old new : List Slot) (pins more : List Held) (b : ℕ) (x : Slot) (e : Entry) (p : Held) → IsHeld first es n old pins → Puts pins p more → slot_of b old ≡ Some x → ((i : ℕ) → slot_of i new ≡ (if b == i then Some (bumped x) else slot_of i old))
    → p.block ≡ b → p.flight ≡ x.ticket → p.owner ≡ x.client → Row first es e → is_written_off e ≡ false
    → ((i : ℕ) (q : Place) → moves i q e ≡ q) → is_begin e ≡ false → ((u : ℕ) → (is_landed u e ≡ false) × (is_failed u e ≡ false)) → ((i n u : ℕ) → is_lost i n u e ≡ false)
    → (0 < times (is_landed x.ticket) es) ⊎ (is_asked b p.client x.ticket e ≡ true)
    → IsHeld first (es ++ e ∷ []) n new more
bump_kept first es n old new pins more b x e p held put at new_is pb pt po row stays still quiet mute unlost paid = record {
  well = well_more first es e n held.well row stays quiet;
  tied = bump_tied b e p x es (λ i. slot_of i old) (λ i. slot_of i new) pins more put held.tied at pb pt new_is still quiet mute unlost paid;
  alive = alive_all b old new (Some (bumped x)) held.alive new_is (λ l d. omega arith);
  owned = owned_put (es ++ e ∷ []) p _ pins more (owned_more es e _ pins (owned_change es b x (bumped x) (λ i. slot_of i old) (λ i. slot_of i new) pins held.owned at refl refl new_is)) put
      (owner_more es e p.flight p.owner (ap (λ (t : ℕ). owner t es) pt ∙ held.owned.slot b x at ∙ ap (λ (m : ℕ). Some m) (sym po)));
  saved = saved_more first es e new (saved_at first es b (Some (bumped x)) old new held.saved (saved_of first es b old x held.saved at) new_is);
}

pub hit_kept : (first : Start) (es : List Entry) (n : ℕ) (old new : List Slot) (pins more : List Held) (b : ℕ) (x : Slot) (p : Held) → IsHeld first es n old pins → Puts pins p more → slot_of b old ≡ Some x → ((i : ℕ) → slot_of i new ≡ (if b == i then Some (bumped x) else slot_of i old))
    → p.block ≡ b → p.flight ≡ x.ticket → p.owner ≡ x.client → x.landed ≡ true → IsHeld first (es ++ Hit b Ram p.client ∷ []) n new more
hit_kept first es n old new pins more b x p held put at new_is pb pt po landed =
    let here_is : is_here (place b es) ≡ true = ap is_here (here_at first es n b old pins x held at landed) in
    bump_kept first es n old new pins more b x (Hit b Ram p.client) p held put at new_is pb pt po (held.well.is_on, is_true here_is) refl (λ i q. refl) refl (λ u. (refl, refl)) (λ i m u. refl) (inl ((fine_of first es n b old pins x held at).seen landed))

pub join_kept : (first : Start) (es : List Entry) (n : ℕ) (old new : List Slot) (pins more : List Held) (b : ℕ) (x : Slot) (p : Held) → IsHeld first es n old pins → Puts pins p more → slot_of b old ≡ Some x → ((i : ℕ) → slot_of i new ≡ (if b == i then Some (bumped x) else slot_of i old))
    → p.block ≡ b → p.flight ≡ x.ticket → p.owner ≡ x.client → x.landed ≡ false → IsHeld first (es ++ Join x.ticket b p.client ∷ []) n new more
join_kept first es n old new pins more b x p held put at new_is pb pt po out =
    bump_kept first es n old new pins more b x (Join x.ticket b p.client) p held put at new_is pb pt po (held.well.is_on, (x.client, flying_at first es n b old pins x held at out)) refl (λ i q. refl) refl (λ u. (refl, refl)) (λ i m u. refl) (inr (asked_yes x.ticket b p.client b p.client x.ticket refl refl refl))

pub begin_kept : (first : Start) (es : List Entry) (t : ℕ) (old new : List Slot) (pins more : List Held) (b n : ℕ) (p : Held) → IsHeld first es t old pins → Puts pins p more → slot_of b old ≡ None → ((i : ℕ) → slot_of i new ≡ (if b == i then Some (fresh_slot b t n) else slot_of i old))
    → p.block ≡ b → p.flight ≡ t → p.client ≡ n → p.owner ≡ n → IsCached first → b < bound first → stored first b es ≡ false → IsHeld first (es ++ Begin t b n ∷ []) (t + 1) new more
begin_kept first es t old new pins more b n p held put at new_is pb pt pc po cached low absent =
    let none : place b es ≡ Away = away_at first es t b old pins held at in
    let e : Entry = Begin t b n in
    let own : owner t (es ++ e ∷ []) ≡ Some n = owner_new es t b n held.well.begun_is in record {
      well = record {
        lawful = lawful_more first es e held.well.lawful record { cached = cached; on = held.well.is_on; within = low; absent = is_false absent; away = none; number = held.well.begun_is };
        is_on = times_none is_written_off es e refl ∙ held.well.is_on;
        begun_is = ap (λ (k : ℕ). k + 1) held.well.begun_is ∙ sym (times_one is_begin es e refl);
      };
      tied = begin_tied b t n p es (λ i. slot_of i old) (λ i. slot_of i new) pins more put held.tied at held.well.begun_is pb pt pc new_is;
      alive = alive_all b old new (Some (fresh_slot b t n)) held.alive new_is (λ l d. omega arith);
      owned = owned_put (es ++ e ∷ []) p _ pins more (owned_at (es ++ e ∷ []) b (Some (fresh_slot b t n)) (λ i. slot_of i old) (λ i. slot_of i new) pins (owned_more es e _ pins held.owned) new_is (λ s h. let is : fresh_slot b t n ≡ s = cc in subst (λ (k : Slot). owner k.ticket (es ++ e ∷ []) ≡ Some k.client) is own)) put
          (ap (λ (u : ℕ). owner u (es ++ e ∷ [])) pt ∙ own ∙ ap (λ (m : ℕ). Some m) (sym po));
      saved = saved_more first es e new (saved_at first es b (Some (fresh_slot b t n)) old new held.saved (λ h. absurd cc) new_is);
    }

pub gone_kept : (first : Start) (es : List Entry) (n : ℕ) (slots : List Slot) (pins more : List Held) (p : Held) → IsHeld first es n slots pins → Takes p pins more → (ticket_in (slot_of p.block slots) ≡ Some p.flight → ⊥) → IsHeld first es n slots more
gone_kept first es n slots pins more p held take apart = record {
  well = held.well;
  alive = held.alive;
  tied = gone_tied p es (λ i. slot_of i slots) pins more held.tied take apart;
  owned = owned_take es p _ pins more held.owned take;
  saved = held.saved;
}

pub lost_kept : (first : Start) (es : List Entry) (n : ℕ) (slots : List Slot) (pins more : List Held) (p : Held) → IsHeld first es n slots pins → Takes p pins more → (ticket_in (slot_of p.block slots) ≡ Some p.flight → ⊥) → p.owner ≢ p.client → IsHeld first (es ++ Direct p.block p.client (Lost p.flight) ∷ []) n slots more
lost_kept first es n slots pins more p held take apart other = let row = lost_row p es (λ i. slot_of i slots) pins more held.tied take apart in record {
  well = well_more first es (Direct p.block p.client (Lost p.flight)) n held.well (record { failed = row.0; fewer = row.1; other = client_not p.client p.owner _ (owned_pin es p _ pins more held.owned take) other }) refl refl;
  alive = held.alive;
  tied = lost_tied p es (λ i. slot_of i slots) pins more held.tied take apart;
  owned = owned_more es _ _ more (owned_take es p _ pins more held.owned take);
  saved = saved_more first es _ slots held.saved;
}

pub less_kept : (first : Start) (es : List Entry) (n : ℕ) (old new : List Slot) (pins more : List Held) (p : Held) (x : Slot) → IsHeld first es n old pins → Takes p pins more → slot_of p.block old ≡ Some x → ((i : ℕ) → slot_of i new ≡ (if p.block == i then Some (lowered x) else slot_of i old)) → x.ticket ≡ p.flight
    → (x.landed ≡ true → x.job ≡ false → x.pins ≢ 1) → IsHeld first es n new more
less_kept first es n old new pins more p x held take at new_is ticket stays =
    let was : IsAlive (Some x) = subst IsAlive at (held.alive p.block) in record {
      well = held.well;
      tied = less_tied p x es (λ i. slot_of i old) (λ i. slot_of i new) pins more held.tied take at ticket new_is;
      alive = alive_all p.block old new (Some (lowered x)) held.alive new_is (λ l d. let q = stays l d in let w = was l d in omega arith);
      owned = owned_take es p _ pins more (owned_change es p.block x (lowered x) (λ i. slot_of i old) (λ i. slot_of i new) pins held.owned at refl refl new_is) take;
      saved = saved_at first es p.block (Some (lowered x)) old new held.saved (saved_of first es p.block old x held.saved at) new_is;
    }

none_of : (q : Bool) (x o : Option Slot) → (if q then None else o) ≡ (if q then None else (if q then x else o))
none_of true x o = refl
none_of false x o = refl

left_of : (first : Start) (es : List Entry) (n b : ℕ) (s : Slot) (old new : List Slot) (mid : ℕ → Option Slot) (pins : List Held) → IsWell first es n → IsTied es mid pins → IsOwned es mid pins → mid b ≡ Some s → s.landed ≡ true → (s.written || not s.job) ≡ true → s.pins ≡ 0
    → ((i : ℕ) → IsAlive (slot_of i old)) → ((i : ℕ) → IsSaved first es i (slot_of i old)) → ((i : ℕ) → mid i ≡ (if b == i then Some s else slot_of i old)) → ((i : ℕ) → slot_of i new ≡ (if b == i then None else slot_of i old)) → IsHeld first (es ++ Left b ∷ []) n new pins
left_of first es n b s old new mid pins well tied own at landed done bare alive saved mid_is out_is =
    let new_is : (i : ℕ) → slot_of i new ≡ (if b == i then None else mid i) = λ i. out_is i ∙ none_of (b == i) (Some s) (slot_of i old) ∙ ap (λ (o : Option Slot). if b == i then None else o) (sym (mid_is i)) in
    let fine : IsFine es pins b s = subst (λ (q : Option Slot). Fine es pins b q) at (tied.fine b) in
    let here_is : place b es ≡ Here s.ticket true = fine.is ∙ ap (λ (q : Bool). if q then Here s.ticket (s.written || not s.job) else Flying s.ticket s.client) landed ∙ ap (λ (q : Bool). Here s.ticket q) done in record {
      well = well_more first es (Left b) n well (s.ticket, here_is) refl refl;
      tied = left_tied b s es mid (λ i. slot_of i new) pins tied at landed bare new_is;
      alive = alive_all b old new None alive out_is tt;
      owned = owned_more es (Left b) _ pins (owned_gone es b mid (λ i. slot_of i new) pins own new_is);
      saved = saved_more first es (Left b) new (saved_at first es b None old new saved tt out_is);
    }

mid_at : (b : ℕ) (s : Option Slot) (slots : List Slot) → (if b == b then s else slot_of b slots) ≡ s
mid_at b s slots = ap (λ (q : Bool). if q then s else slot_of b slots) (eq-eqb b b refl)

ended_here : (w j : Bool) → j ≡ false → (w || not j) ≡ true
ended_here w j h = ap (λ (q : Bool). w || not q) h ∙ or_true w

pub left_kept : (first : Start) (es : List Entry) (n : ℕ) (old new : List Slot) (pins more : List Held) (p : Held) (x : Slot) → IsHeld first es n old pins → Takes p pins more → slot_of p.block old ≡ Some x → ((i : ℕ) → slot_of i new ≡ (if p.block == i then None else slot_of i old)) → x.ticket ≡ p.flight
    → x.landed ≡ true → x.job ≡ false → x.pins ≡ 1 → IsHeld first (es ++ Left p.block ∷ []) n new more
left_kept first es n old new pins more p x held take at out_is ticket landed idle last =
    let mid : ℕ → Option Slot = λ i. if p.block == i then Some (lowered x) else slot_of i old in
    left_of first es n p.block (lowered x) old new mid more held.well (less_tied p x es (λ i. slot_of i old) mid pins more held.tied take at ticket (λ i. refl)) (owned_take es p mid pins more (owned_change es p.block x (lowered x) (λ i. slot_of i old) mid pins held.owned at refl refl (λ i. refl)) take) (mid_at p.block (Some (lowered x)) old) landed (ended_here x.written x.job idle) (omega arith) held.alive held.saved (λ i. refl) out_is

dropped_well : (first : Start) (es : List Entry) (n b : ℕ) (why : DropCause) (x : Slot) (slots : List Slot) (pins : List Held) → IsHeld first es n slots pins → slot_of b slots ≡ Some x → x.landed ≡ true → MayDrop es why → IsWell first (es ++ Dropped b why ∷ []) n
dropped_well first es n b why x slots pins held at landed may =
    let here_is : is_here (place b es) ≡ true = ap is_here (here_at first es n b slots pins x held at landed) in
    well_more first es (Dropped b why) n held.well (here_is, may) refl refl

pub drop_kept : (first : Start) (es : List Entry) (n : ℕ) (old new : List Slot) (pins : List Held) (b : ℕ) (why : DropCause) (x : Slot) → IsHeld first es n old pins → MayDrop es why → slot_of b old ≡ Some x → ((i : ℕ) → slot_of i new ≡ (if b == i then Some (ended_slot x) else slot_of i old))
    → x.landed ≡ true → 0 < x.pins → IsHeld first (es ++ Dropped b why ∷ []) n new pins
drop_kept first es n old new pins b why x held may at new_is landed some = record {
  well = dropped_well first es n b why x old pins held at landed may;
  tied = drop_tied b why x es (λ i. slot_of i old) (λ i. slot_of i new) pins held.tied at landed new_is;
  alive = alive_all b old new (Some (ended_slot x)) held.alive new_is (λ l d. some);
  owned = owned_more es (Dropped b why) _ pins (owned_change es b x (ended_slot x) (λ i. slot_of i old) (λ i. slot_of i new) pins held.owned at refl refl new_is);
  saved = saved_more first es (Dropped b why) new (saved_at first es b (Some (ended_slot x)) old new held.saved (saved_of first es b old x held.saved at) new_is);
}

pub drop_left_kept : (first : Start) (es : List Entry) (n : ℕ) (old new : List Slot) (pins : List Held) (b : ℕ) (why : DropCause) (x : Slot) → IsHeld first es n old pins → MayDrop es why → slot_of b old ≡ Some x → ((i : ℕ) → slot_of i new ≡ (if b == i then None else slot_of i old))
    → x.landed ≡ true → x.pins ≡ 0 → IsHeld first ((es ++ Dropped b why ∷ []) ++ Left b ∷ []) n new pins
drop_left_kept first es n old new pins b why x held may at out_is landed none =
    let mid : ℕ → Option Slot = λ i. if b == i then Some (ended_slot x) else slot_of i old in
    left_of first (es ++ Dropped b why ∷ []) n b (ended_slot x) old new mid pins (dropped_well first es n b why x old pins held at landed may) (drop_tied b why x es (λ i. slot_of i old) mid pins held.tied at landed (λ i. refl)) (owned_more es (Dropped b why) mid pins (owned_change es b x (ended_slot x) (λ i. slot_of i old) mid pins held.owned at refl refl (λ i. refl))) (mid_at b (Some (ended_slot x)) old) landed (or_true x.written) none held.alive (saved_more first es (Dropped b why) old held.saved) (λ i. refl) out_is

-- the job of a block that was written ends
pub end_kept : (first : Start) (es : List Entry) (n : ℕ) (old new : List Slot) (pins : List Held) (b : ℕ) (x : Slot) → IsHeld first es n old pins → slot_of b old ≡ Some x → ((i : ℕ) → slot_of i new ≡ (if b == i then Some (ended_slot x) else slot_of i old))
    → x.written ≡ true → 0 < x.pins → IsHeld first es n new pins
end_kept first es n old new pins b x held at new_is written some = record {
  well = held.well;
  tied = end_tied b x es (λ i. slot_of i old) (λ i. slot_of i new) pins held.tied at written new_is;
  alive = alive_all b old new (Some (ended_slot x)) held.alive new_is (λ l d. some);
  owned = owned_change es b x (ended_slot x) (λ i. slot_of i old) (λ i. slot_of i new) pins held.owned at refl refl new_is;
  saved = saved_at first es b (Some (ended_slot x)) old new held.saved (saved_of first es b old x held.saved at) new_is;
}

-- and with no pin on it it leaves memory
pub end_left_kept : (first : Start) (es : List Entry) (n : ℕ) (old new : List Slot) (pins : List Held) (b : ℕ) (x : Slot) → IsHeld first es n old pins → slot_of b old ≡ Some x → ((i : ℕ) → slot_of i new ≡ (if b == i then None else slot_of i old))
    → x.landed ≡ true → x.written ≡ true → x.pins ≡ 0 → IsHeld first (es ++ Left b ∷ []) n new pins
end_left_kept first es n old new pins b x held at out_is landed written none =
    left_of first es n b x old new (λ i. slot_of i old) pins held.well held.tied held.owned at landed (ap (λ (q : Bool). q || not x.job) written) none held.alive held.saved (λ i. same_at b i x old at) out_is
  where
    same_at : (b i : ℕ) (x : Slot) (slots : List Slot) → slot_of b slots ≡ Some x → slot_of i slots ≡ (if b == i then Some x else slot_of i slots)
    same_at b i x slots at = dite (ℕ_discrete b i)
        (λ e. subst (λ (k : ℕ). slot_of k slots ≡ Some x) e at ∙ sym (ap (λ (q : Bool). if q then Some x else slot_of i slots) (eq-eqb b i e)))
        (λ n. sym (ap (λ (q : Bool). if q then Some x else slot_of i slots) (ne_eqb b i n)))

-- a block in memory is written
pub wrote_kept : (first : Start) (es : List Entry) (n : ℕ) (old new : List Slot) (pins : List Held) (b : ℕ) (x : Slot) → IsHeld first es n old pins → MayWrite first es b → slot_of b old ≡ Some x → ((i : ℕ) → slot_of i new ≡ (if b == i then Some (written_slot x) else slot_of i old))
    → x.landed ≡ true → IsHeld first (es ++ Wrote b ∷ []) n new pins
wrote_kept first es n old new pins b x held may at new_is landed = record {
  well = well_more first es (Wrote b) n held.well may refl refl;
  tied = wrote_tied b x es (λ i. slot_of i old) (λ i. slot_of i new) pins held.tied at landed new_is;
  alive = alive_all b old new (Some (written_slot x)) held.alive new_is (subst IsAlive at (held.alive b));
  owned = owned_more es (Wrote b) _ pins (owned_change es b x (written_slot x) (λ i. slot_of i old) (λ i. slot_of i new) pins held.owned at refl refl new_is);
  saved = saved_at first (es ++ Wrote b ∷ []) b (Some (written_slot x)) old new (saved_more first es (Wrote b) old held.saved) (λ h. now_written first es b) new_is;
}

-- an entry that concerns no block
pub quiet_kept : (first : Start) (es : List Entry) (n : ℕ) (slots : List Slot) (pins : List Held) (e : Entry) → IsHeld first es n slots pins → Row first es e → is_written_off e ≡ false → is_begin e ≡ false
    → ((i : ℕ) (q : Place) → moves i q e ≡ q) → ((u : ℕ) → (is_landed u e ≡ false) × (is_failed u e ≡ false)) → ((i m u : ℕ) → (is_lost i m u e ≡ false) × (is_asked i m u e ≡ false)) → IsHeld first (es ++ e ∷ []) n slots pins
quiet_kept first es n slots pins e held row stays none still mute unasked = record {
  well = well_more first es e n held.well row stays none;
  alive = held.alive;
  tied = quiet_tied e es (λ i. slot_of i slots) pins held.tied none still mute unasked;
  owned = owned_more es e _ pins held.owned;
  saved = saved_more first es e slots held.saved;
}

pub pins_few : (first : Start) (es : List Entry) (n b : ℕ) (slots : List Slot) (pins : List Held) (x : Slot) → IsHeld first es n slots pins → slot_of b slots ≡ Some x → x.pins ≤ length pins
pins_few first es n b slots pins x held at = let fine = fine_of first es n b slots pins x held at in omega (arith, fine.pinned, count_by-le-length (is_on b x.ticket) pins)
