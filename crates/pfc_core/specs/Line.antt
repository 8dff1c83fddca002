-- A client's line to the origin.
use Rattle.std.specs.Prelude.{◌≡◌, ◌≤◌, ◌⊎◌}
use Rattle.pfc_world.specs.Counts.{add_count, Rose}
use Rattle.pfc_core.specs.declared.line.Flight.{Flight}
use Rattle.pfc_core.specs.declared.line.Flight.TheVariants.{Landed, Fault, Memory}
use Rattle.pfc_core.specs.Blocks.{BlockView, block_at}
use Rattle.pfc_core.specs.LineView.{LineView}
use Rattle.pfc_core.specs.Marks.{Mark}

-- one call brought the block
pub record Brings (old : LineView) (ticket back : Mark) (twin : BlockView) (new : LineView) : Type 0 where
  pub back_is : back ≡ ticket
  pub twin_is : twin ≡ block_at ticket
  pub calls : new.calls ≡ add_count old.calls 1
  pub faults : old.faults ≤ new.faults
  pub number : new.number ≡ old.number

-- one call failed
pub record Fails (old : LineView) (ticket back : Mark) (new : LineView) : Type 0 where
  pub back_is : back ≡ ticket
  pub calls : new.calls ≡ add_count old.calls 1
  pub faults : old.faults ≤ new.faults
  pub rose : Rose old.faults new.faults
  pub number : new.number ≡ old.number

-- memory was refused, before the call or after it
pub record Wants (old : LineView) (ticket back : Mark) (new : LineView) : Type 0 where
  pub back_is : back ≡ ticket
  pub calls : (new.calls ≡ old.calls) ⊎ (new.calls ≡ add_count old.calls 1)
  pub faults : old.faults ≤ new.faults
  pub number : new.number ≡ old.number

-- the ticket comes back, with two owners of this block unless memory was refused
abbrev pub LandsOr : {W : Type 0} → Mark → BlockView → Flight W → Type 0
LandsOr ticket block (Landed back twin) = (back ≡ ticket) × (twin ≡ block)
LandsOr ticket block (Fault back) = ⊥
LandsOr ticket block (Memory back) = back ≡ ticket

abbrev pub Runs : {W : Type 0} → LineView → Mark → Flight W → LineView → Type 0
Runs old ticket (Landed back twin) new = Brings old ticket back twin new
Runs old ticket (Fault back) new = Fails old ticket back new
Runs old ticket (Memory back) new = Wants old ticket back new
