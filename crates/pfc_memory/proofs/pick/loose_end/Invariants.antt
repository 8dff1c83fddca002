use Rattle.std.proofs.Common.{◌≡◌, ℕ, true}
use Rattle.pfc_world.specs.Disk.{LiesBetween, not_settled}
use Rattle.pfc_memory.specs.Places.{place_of, place_at}
use Rattle.pfc_memory.proofs.pick.loose_end.Given as goal

abbrev pub invariant-loop-number : goal.invariant-loop-number
invariant-loop-number l = record {
  end : l.end ≡ l.number;
  loose : (p : ℕ) → LiesBetween l.fn.from l.end p → not_settled (place_of (place_at l.places p)) ≡ true;
}
