use Rattle.std.proofs.Common.{rules, ◌≡◌, ◌≢◌, ◌<◌, List, Some, None}
use Rattle.std.specs.Prelude.{count_by}
use Rattle.pfc_core.specs.declared.held.Held.{Held}
use Rattle.pfc_core.specs.declared.slot.Slot.{Slot}
use Rattle.pfc_core.specs.declared.look.Fate.{Fate}
use Rattle.pfc_core.specs.declared.look.Fate.TheVariants.{Stray, Flying, Ready, Lost, Own}
use Rattle.pfc_core.specs.Held.{is_held}
use Rattle.pfc_core.specs.Slots.{slot_of}
use Rattle.pfc_core.specs.Fates.{IsBare, IsWhose, HasFate}
use Rattle.pfc_core.proofs.Bare.{apart_none, apart_other}
use Rattle.pfc_core.proofs.look.fate_of.Goals as goal

whose : (p : Held) (slots : List Slot) (pins : List Held) (f : Fate) → IsBare p slots pins → IsWhose p f → HasFate p slots pins f
whose p slots pins Stray bare is = absurd is
whose p slots pins (Flying s) bare is = absurd is
whose p slots pins (Ready s) bare is = absurd is
whose p slots pins Lost bare is = (bare, is)
whose p slots pins Own bare is = (bare, is)

pub returns-in_default : goal.returns-in_default
returns-in_default g c = let p = c.args.held in let slots = c.args.shelf.now.slots in let pins = c.args.pins.now.list in
    let none : slot_of p.block slots ≡ None = search rules in
    let some : 0 < count_by (is_held p) pins = search rules in
    whose p slots pins _ (record { held = some; apart = apart_none p _ none }) c.bare.ensures

pub returns-then-slot-held : goal.returns-then-slot-held
returns-then-slot-held g c = let p = c.args.held in let slots = c.args.shelf.now.slots in let pins = c.args.pins.now.list in
    let x = c.in-Some.slot in let there : slot_of p.block slots ≡ Some x = search rules in
    let some : 0 < count_by (is_held p) pins = search rules in
    let other : x.ticket ≢ p.flight = search rules in
    whose p slots pins _ (record { held = some; apart = apart_other p _ x there other }) c.bare-then-slot-held.ensures
