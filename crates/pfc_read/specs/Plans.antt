-- The plan of a read.
use Rattle.std.specs.Prelude.{◌≡◌, ◌+◌, ◌⊎◌, ◌==◌, ℕ, false, List, [], ◌∷◌, ◌++◌, length, Some, None, sum_by}
use Rattle.pfc_base.specs.declared.block.Part.{Part}
use Rattle.pfc_log.specs.declared.entry.Fell.TheVariants.{Memory}
use Rattle.pfc_log.specs.Tallies.{Tally, tally}
use Rattle.pfc_span.specs.declared.pieces.Pieces.{Pieces}
use Rattle.pfc_span.specs.Pieces.{pieces_in}
use Rattle.pfc_span.specs.Tiling.{TileInTurn}
use Rattle.pfc_core.specs.declared.token.Decision.{Decision}
use Rattle.pfc_core.specs.Calls.{Begins, Decides}
use Rattle.pfc_core.specs.Marks.{Mark}
use Rattle.pfc_core.specs.View.{CoreView}
use Rattle.pfc_read.specs.OpView.{Nothing, OpView, held}

-- one decision for each part, in order; the world is of no account here
abbrev pub DecidesAll : CoreView → ℕ → List Part → CoreView → Type 0
DecidesAll old n [] new = new ≡ old
DecidesAll old n (part ∷ parts) new = (decision : Decision (Unit {0})) × (mid : CoreView) × Decides old n part decision mid × DecidesAll mid n parts new

-- so many parts more were found in memory or on disk, so many wait for a flight, and so many are read from the origin itself
abbrev pub with_asked : Tally → ℕ → ℕ → ℕ → Tally
with_asked t hits waits directs = record t { hits = t.hits + hits; waits = t.waits + waits; directs = t.directs + directs }

-- The reading begins, and then the parts that give the pieces in turn are decided in order, up to one that is refused for want
-- of memory. A block that several pieces touch is decided once for each part. The client's tally has a hit, a wait or a direct read more for each, and no other tally changes.
pub record Plans (old : CoreView) (n : ℕ) (pieces : Pieces) (op : OpView) (new : CoreView) : Type 0 where
  pub pieces_is : op.pieces ≡ pieces
  pub idle : op.given ≡ Nothing
  pub failed_is : op.failed ≡ 0
  pub leaves_is : op.leaves ≡ op.directs
  pub met_is : (op.met ≡ None) ⊎ (op.met ≡ Some Memory)
  pub decided : List Part
  pub rest : List Part
  pub tiles : TileInTurn old.size old.block_size (pieces_in pieces) (decided ++ rest)
  pub all : op.met ≡ None → rest ≡ []
  pub number : op.hits + op.waits + op.directs ≡ length decided
  pub looks_is : op.looks + length op.disks + op.leaves ≡ length decided
  pub pins_are : length op.pins ≡ op.looks
  pub mid : CoreView
  pub begins : Begins old n op.reading mid
  pub decides : DecidesAll mid n decided new
  pub gains : (w : Mark → ℕ) → sum_by w new.out ≡ sum_by w old.out + held w op
  pub unchanged : new ≡ record old { entries = new.entries; out = new.out }
  pub mine : tally n new.entries ≡ with_asked (tally n old.entries) op.hits op.waits op.directs
  pub others : (m : ℕ) → (n == m) ≡ false → tally m new.entries ≡ tally m old.entries
