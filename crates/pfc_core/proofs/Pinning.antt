-- A pin on a block that is in memory or in flight, by what is kept of it.
use Rattle.std.proofs.Common.{◌≡◌, ℕ, ◌+◌, List, [], ◌∷◌, ◌++◌, length, sym, refl, ap, ◌∙◌, subst, Bool, true, false, Option, Some, if◌then◌else◌, ◌==◌, eq-eqb}
use Rattle.pfc_base.specs.declared.block.Part.{Part}
use Rattle.pfc_log.specs.declared.entry.Entry.{Entry}
use Rattle.pfc_log.specs.declared.entry.Entry.TheVariants.{Join, Hit}
use Rattle.pfc_log.specs.declared.entry.Spot.TheVariants.{Ram}
use Rattle.pfc_log.specs.declared.start.Start.{Start}
use Rattle.pfc_log.specs.Lawful.{IsCached}
use Rattle.pfc_log.specs.Views.{place}
use Rattle.pfc_log.specs.Owners.{owner}
use Rattle.pfc_core.specs.declared.held.Held.{Held}
use Rattle.pfc_core.specs.declared.slot.Slot.{Slot}
use Rattle.pfc_core.specs.declared.token.Decision.{Decision}
use Rattle.pfc_core.specs.declared.token.Decision.TheVariants.{Direct, Resident, Joined, Stored, Fetch}
use Rattle.pfc_core.specs.Calls.{PinsOn, Decides}
use Rattle.pfc_core.specs.Held.{Puts}
use Rattle.pfc_core.specs.declared.loan.Lent.{Lent}
use Rattle.pfc_core.specs.Kept.{IsHeld, AreIn, AreFound, AreSaid}
use Rattle.pfc_core.specs.Turned.{AreTurns}
use Rattle.pfc_core.specs.Leaves.{is_here_at, is_flying_at}
use Rattle.pfc_core.specs.Marks.{Mark, PinKind, Gains}
use Rattle.pfc_core.specs.Out.{Home, mark_in}
use Rattle.pfc_core.specs.Pinned.{Pins, PinnedBy, found_by}
use Rattle.pfc_core.specs.Sets.{SetsView}
use Rattle.pfc_core.specs.Slots.{slot_of, bumped}
use Rattle.pfc_core.specs.View.{CoreView, home_in, entered}
use Rattle.pfc_core.proofs.Guests.{in_more}
use Rattle.pfc_core.proofs.Kept.{hit_kept, join_kept, here_at, flying_at}
use Rattle.pfc_core.proofs.Rooms.{puts_length}
use Rattle.pfc_core.proofs.Found.{found_more}
use Rattle.pfc_core.proofs.Said.{said_more}
use Rattle.pfc_core.proofs.Turned.{turns_more}

found_here : (n : ℕ) (x : Slot) → x.landed ≡ true → found_by n x ≡ Hit x.block Ram n
found_here n x h = ap (λ (q : Bool). if q then Hit x.block Ram n else Join x.ticket x.block n) h

found_flying : (n : ℕ) (x : Slot) → x.landed ≡ false → found_by n x ≡ Join x.ticket x.block n
found_flying n x h = ap (λ (q : Bool). if q then Hit x.block Ram n else Join x.ticket x.block n) h

-- whatever holds of both entries
by_found : (P : Entry → Type 0) (n : ℕ) (x : Slot) → P (Hit x.block Ram n) → P (Join x.ticket x.block n) → P (found_by n x)
by_found P n x hit join = elim x.landed as (λ q. P (if q then Hit x.block Ram n else Join x.ticket x.block n)) [ true ↦ hit | false ↦ join ]

pub pinned_in : (n : ℕ) (x : Slot) (es : List Entry) (stays : List Held) → AreIn es stays → AreIn (es ++ found_by n x ∷ []) stays
pinned_in n x es stays was = by_found (λ e. AreIn (es ++ e ∷ []) stays) n x (in_more es (Hit x.block Ram n) stays was (λ m. (refl, refl))) (in_more es (Join x.ticket x.block n) stays was (λ m. (refl, refl)))

pub pinned_found : (n : ℕ) (x : Slot) (es : List Entry) (disks : List Held) → AreFound es disks → AreFound (es ++ found_by n x ∷ []) disks
pinned_found n x es disks was = by_found (λ e. AreFound (es ++ e ∷ []) disks) n x (found_more es (Hit x.block Ram n) disks was (λ i m. (refl, refl))) (found_more es (Join x.ticket x.block n) disks was (λ i m. (refl, refl)))

pub pinned_said : (n : ℕ) (x : Slot) (first : Start) (es : List Entry) (s : SetsView) → AreSaid first es s → AreSaid first (es ++ found_by n x ∷ []) s
pinned_said n x first es s was = by_found (λ e. AreSaid first (es ++ e ∷ []) s) n x (said_more first es (Hit x.block Ram n) s was refl refl) (said_more first es (Join x.ticket x.block n) s was refl refl)

pub pinned_turns : (n : ℕ) (x : Slot) (first : Start) (es : List Entry) (set : List Bool) (loan : Option Lent) (claim : Option ℕ) (visited : ℕ) → AreTurns first es set loan claim visited → AreTurns first (es ++ found_by n x ∷ []) set loan claim visited
pinned_turns n x first es set loan claim visited was = by_found (λ e. AreTurns first (es ++ e ∷ []) set loan claim visited) n x (turns_more first es set loan claim visited (Hit x.block Ram n) was refl refl) (turns_more first es set loan claim visited (Join x.ticket x.block n) was refl refl)

module _ {W : Type 0} (h : Home) (n : ℕ) (x : Slot) (pins more : List Held) where
  pub pinned_length : (d : Decision W) → PinnedBy h n x pins more d → length more ≡ length pins + 1
  pinned_length (Direct leave) f = absurd f
  pinned_length (Resident pin) f = puts_length f.1.kept pins more f.1.puts
  pinned_length (Joined pin) f = puts_length f.1.kept pins more f.1.puts
  pinned_length (Stored disk) f = absurd f
  pinned_length (Fetch ticket pin) f = absurd f

  pub pinned_kept : (d : Decision W) → PinnedBy h n x pins more d → (first : Start) (es : List Entry) (t : ℕ) (old new : List Slot) → IsHeld first es t old pins → slot_of x.block old ≡ Some x
      → ((i : ℕ) → slot_of i new ≡ (if x.block == i then Some (bumped x) else slot_of i old)) → IsHeld first (es ++ found_by n x ∷ []) t new more
  pinned_kept (Direct leave) f first es t old new held at new_is = absurd f
  pinned_kept (Resident pin) f first es t old new held at new_is =
      let p = f.1.kept in let on = f.1.is_on in
      let entry : Hit x.block Ram p.client ≡ found_by n x = ap (λ (m : ℕ). Hit x.block Ram m) on.client_is ∙ sym (found_here n x f.0) in
      subst (λ (e : Entry). IsHeld first (es ++ e ∷ []) t new more) entry (hit_kept first es t old new pins more x.block x p held f.1.puts at new_is on.block_is on.flight_is on.owner_is f.0)
  pinned_kept (Joined pin) f first es t old new held at new_is =
      let p = f.1.kept in let on = f.1.is_on in
      let entry : Join x.ticket x.block p.client ≡ found_by n x = ap (λ (m : ℕ). Join x.ticket x.block m) on.client_is ∙ sym (found_flying n x f.0) in
      subst (λ (e : Entry). IsHeld first (es ++ e ∷ []) t new more) entry (join_kept first es t old new pins more x.block x p held f.1.puts at new_is on.block_is on.flight_is on.owner_is f.0)
  pinned_kept (Stored disk) f first es t old new held at new_is = absurd f
  pinned_kept (Fetch ticket pin) f first es t old new held at new_is = absurd f

module _ (v w : CoreView) (n b t : ℕ) (x : Slot) (slots : List Slot) (pins more : List Held) (held : IsHeld v.first v.entries t slots pins) (at : slot_of b slots ≡ Some x) (block : x.block ≡ b)
    (gains : (p : Held) → Puts pins p more → Gains v.out (mark_in PinKind (home_in v) p) w.out) where
  pins_on_slot : (pin : Mark) (e : Entry) → Pins (home_in v) n x pins more pin → w ≡ entered v e w.out → PinsOn v n b pin e w
  pins_on_slot pin e f enters = let p = f.kept in let on = f.is_on in subst (λ (m : Mark). PinsOn v n b m e w) (sym f.pin_is) record {
    pins = record { kind_is = refl; instance_is = refl; path_is = refl; size_is = refl; block_size_is = refl; client_is = on.client_is };
    block_is = on.block_is ∙ block;
    owner_is = ap (λ (u : ℕ). owner u v.entries) on.flight_is ∙ held.owned.slot b x at ∙ ap (λ (m : ℕ). Some m) (sym on.owner_is);
    gains = gains p f.puts;
    enters = enters;
  }

  flight_of_pin : (pin : Mark) → Pins (home_in v) n x pins more pin → x.ticket ≡ pin.flight
  flight_of_pin pin f = sym (ap (λ (m : Mark). m.flight) f.pin_is ∙ f.is_on.flight_is)

  -- the pin that is handed out is on the block, and its entry stands
  pub pinned_decides : {W : Type 0} (part : Part) (d : Decision W) → part.block ≡ b → PinnedBy (home_in v) n x pins more d → IsCached v.first → w ≡ entered v (found_by n x) w.out → Decides v n part d w
  pinned_decides part (Direct leave) is f cached enters = absurd f
  pinned_decides part (Resident pin) is f cached enters = subst (λ (k : ℕ). IsCached v.first × (is_here_at pin.flight (place k v.entries) ≡ true) × PinsOn v n k pin (Hit k Ram n) w) (sym is) (
    cached,
    ap (is_here_at pin.flight) (here_at _ _ _ b slots pins x held at f.0) ∙ eq-eqb x.ticket pin.flight (flight_of_pin pin f.1),
    pins_on_slot pin (Hit b Ram n) f.1 (enters ∙ ap (λ (e : Entry). entered v e w.out) (found_here n x f.0 ∙ ap (λ (k : ℕ). Hit k Ram n) block)),
  )
  pinned_decides part (Joined pin) is f cached enters = subst (λ (k : ℕ). IsCached v.first × (is_flying_at pin.flight (place k v.entries) ≡ true) × PinsOn v n k pin (Join pin.flight k n) w) (sym is) (
    cached,
    ap (is_flying_at pin.flight) (flying_at _ _ _ b slots pins x held at f.0) ∙ eq-eqb x.ticket pin.flight (flight_of_pin pin f.1),
    pins_on_slot pin (Join pin.flight b n) f.1 (enters ∙ ap (λ (e : Entry). entered v e w.out) (found_flying n x f.0 ∙ ap (λ (k : ℕ). Join x.ticket k n) block ∙ ap (λ (u : ℕ). Join u b n) (flight_of_pin pin f.1))),
  )
  pinned_decides part (Stored disk) is f cached enters = absurd f
  pinned_decides part (Fetch ticket pin) is f cached enters = absurd f
