-- Which blocks may be entered as written.
use Rattle.std.proofs.Common.{◌≡◌, ℕ, List, sym, ap, ◌∙◌, Bool, true, false, Some, None, ◌&&◌, ◌||◌, not, ◌==◌, eq-eqb}
use Rattle.pfc_base.specs.BlockSet.{is_member}
use Rattle.pfc_log.specs.declared.entry.Entry.{Entry}
use Rattle.pfc_log.specs.declared.start.Start.{Start}
use Rattle.pfc_log.specs.Views.{place, is_here}
use Rattle.pfc_log.specs.Lawful.{IsUnfrozen, MayWrite}
use Rattle.pfc_core.specs.declared.slot.Slot.{Slot}
use Rattle.pfc_core.specs.declared.held.Held.{Held}
use Rattle.pfc_core.specs.Leaves.{is_done_at}
use Rattle.pfc_core.specs.Sets.{SetsView}
use Rattle.pfc_core.specs.Slots.{slot_of}
use Rattle.pfc_core.specs.Kept.{IsHeld, AreSaid}
use Rattle.pfc_core.proofs.Tied.{by_bool}
use Rattle.pfc_core.proofs.Kept.{away_at, flying_at, here_at, saved_of}
use Rattle.pfc_core.proofs.Said.{stored_cold}

module _ (first : Start) (es : List Entry) (n b : ℕ) (slots : List Slot) (pins : List Held) (held : IsHeld first es n slots pins) where
  -- a block that is in memory has a slot that landed
  pub here_some : slot_of b slots ≡ None → is_here (place b es) ≡ true → ⊥
  here_some none here = let clash : false ≡ true = sym (ap is_here (away_at first es n b slots pins held none)) ∙ here in absurd cc

  pub here_landed : (x : Slot) → slot_of b slots ≡ Some x → is_here (place b es) ≡ true → x.landed ≡ true
  here_landed x at here = by_bool x.landed (λ l. l) (λ l. let clash : false ≡ true = sym (ap is_here (flying_at first es n b slots pins x held at l)) ∙ here in absurd cc)

  pub landed_here : (x : Slot) → slot_of b slots ≡ Some x → x.landed ≡ true → is_here (place b es) ≡ true
  landed_here x at l = ap is_here (here_at first es n b slots pins x held at l)

  pub flying_not : (x : Slot) → slot_of b slots ≡ Some x → x.landed ≡ false → is_here (place b es) ≡ true → ⊥
  flying_not x at l here = let clash : false ≡ true = sym (ap is_here (flying_at first es n b slots pins x held at l)) ∙ here in absurd cc

  -- a block that was written since it landed is done
  pub written_done : (x : Slot) (t : ℕ) → slot_of b slots ≡ Some x → x.landed ≡ true → x.ticket ≡ t → x.written ≡ true → is_done_at t (place b es) ≡ true
  written_done x t at l ticket w = ap (is_done_at t) (here_at first es n b slots pins x held at l) ∙ ap (λ (q : Bool). x.ticket == t && (q || not x.job)) w ∙ ap (λ (q : Bool). q && true) (eq-eqb x.ticket t ticket)

  module _ (s : SetsView) (said : AreSaid first es s) (cold : IsUnfrozen es) (absent : is_member s.stored b ≡ false) where
    -- a block that isn't on disk wasn't written since it landed
    pub unwritten : (x : Slot) → slot_of b slots ≡ Some x → x.written ≡ false
    unwritten x at = by_bool x.written
        (λ w. let clash : false ≡ true = sym absent ∙ said.stored_is b ∙ stored_cold first b es cold ∙ saved_of first es b slots x held.saved at w in absurd cc)
        (λ w. w)

    pub write_row : is_here (place b es) ≡ true → MayWrite first es b
    write_row here = record { here = here; absent = sym (said.stored_is b) ∙ absent; unfrozen = cold; on = held.well.is_on }
