use Rattle.std.proofs.Common.{◌≡◌, length}
use Rattle.pfc_base.specs.Pieces.{pieces_of}
use Rattle.pfc_base.specs.Path.{all_names}
use Rattle.pfc_base.proofs.path.names_ok.Given as goal

abbrev pub invariant-parts : goal.invariant-parts
invariant-parts l = all_names (pieces_of 47 l.rest) ≡ all_names (pieces_of 47 l.bytes)

abbrev pub decreases-parts : goal.decreases-parts
decreases-parts l = length l.rest
