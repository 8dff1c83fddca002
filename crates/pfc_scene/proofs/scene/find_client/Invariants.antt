use Rattle.std.proofs.Common.{◌≡◌, ◌<◌, ◌==◌, ℕ, false}
use Rattle.std.specs.Prelude.{slice_index_or}
use Rattle.pfc_actor.specs.Clients.{ClientView}
use Rattle.pfc_scene.proofs.scene.find_client.Given as goal

abbrev pub invariant-loop-j : goal.invariant-loop-j
invariant-loop-j g l = (x : ℕ) (d : ClientView) → x < l.j → ((slice_index_or l.clients x d).book.number == l.number) ≡ false
