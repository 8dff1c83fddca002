-- What the fields of a seat are.
use Rattle.std.specs.Prelude.{◌≡◌, ◌-◌, ◌^◌, ◌≤◌, ◌<◌, []}
use Rattle.std.specs.Arc.{arc_value}
use Rattle.pfc_budget.specs.Account.{Account}
use Rattle.pfc_budget.specs.Rule.{view}
use Rattle.pfc_budget.specs.declared.seat.Seat.TheInside.{Inside}

abbrev pub account_of : Inside → Account
account_of s = record { budget = s.place.table_id; limit = s.limit; held = s.held; room = s.place.me.0.places - 1 }

-- the word is shared by all seats of the budget, and nothing is pending
pub record IsSeated (s : Inside) : Type 0 where
  pub table : (arc_value s.word).shared.table_id ≡ s.place.table_id
  pub key : (arc_value s.word).shared.key ≡ s.limit
  pub one_word : s.place.table_id.words ≡ 1
  pub no_slot : s.place.me.1 ≡ []
  pub knows : s.place.me.0 ≡ view s.limit s.held 0 s.place.me.0.places
  pub counts : 0 < s.place.me.0.places
  pub bounded : s.limit ≤ 2 ^ 60
  pub within : s.held ≤ s.limit
