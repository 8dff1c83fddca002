use Rattle.std.proofs.Common.{◌≡◌, ◌<◌, ℕ}
use Rattle.std.specs.Prelude.{None}
use Rattle.pfc_client.specs.Session.{place_at}
use Rattle.pfc_actor.proofs.book.Book.first_open.Given as goal

abbrev pub invariant-loop-number : goal.invariant-loop-number
invariant-loop-number g l = (j : ℕ) → j < l.number → place_at l.self-inside.stays j ≡ None
